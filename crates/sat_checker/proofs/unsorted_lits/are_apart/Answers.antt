use Rattle.sat_checker.proofs.lemmas.sets.Clashes.{apart_clash}
use Rattle.sat_checker.proofs.unsorted_lits.are_apart.Goals as goal

pub returns : goal.returns
returns c = apart_clash c.have_clash.result c.args.literals.now c.have_clash.ensures
