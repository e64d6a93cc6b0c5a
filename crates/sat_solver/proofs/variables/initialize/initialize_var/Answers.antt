use Rattle.std.proofs.Common.{arith}
use Rattle.std.proofs.lemmas.Grind.{common_steps}
use Rattle.sat_solver.proofs.lemmas.load.IndexLemmas.{takes_restored, coded_variable, coded_sign}
use Rattle.sat_solver.proofs.variables.initialize.initialize_var.Goals as goal

pub returns-in-Some : goal.returns-in-Some
returns-in-Some c = grind (arith, common_steps, takes_restored, coded_variable, coded_sign)
