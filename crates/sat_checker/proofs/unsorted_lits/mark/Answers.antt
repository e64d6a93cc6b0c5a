use Rattle.sat_checker.proofs.lemmas.sets.Clashes.{more_marked}
use Rattle.sat_checker.proofs.unsorted_lits.mark.Goals as goal

pub returns-clause-marks : goal.returns-clause-marks
returns-clause-marks c = more_marked c.args.marks.now c.args.place c.requires
