use Rattle.std.proofs.Common.{arith}
use Rattle.std.proofs.lemmas.Grind.{common_steps}
use Rattle.certify.proofs.lemmas.run.Runs.{answered_if, guaranteed_if}
use Rattle.certify.proofs.run.run.Goals as goal

pub returns-clause-answered : goal.returns-clause-answered
returns-clause-answered g c = grind (arith, common_steps, answered_if)

pub returns-clause-guaranteed : goal.returns-clause-guaranteed
returns-clause-guaranteed g c = grind (arith, common_steps, guaranteed_if)
