use Rattle.std.proofs.Common.{arith}
use Rattle.std.proofs.lemmas.Grind.{common_steps}
use Rattle.sat_checker.proofs.lemmas.sets.Clashes.{no_clash}
use Rattle.sat_checker.proofs.unsorted_lits.have_clash_by_windows.Goals as goal

pub returns : goal.returns
returns c = grind (arith, common_steps, no_clash)
