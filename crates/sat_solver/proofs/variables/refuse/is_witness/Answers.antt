use Rattle.std.proofs.Common.{arith}
use Rattle.std.proofs.lemmas.Grind.{common_steps}
use Rattle.sat_solver.proofs.lemmas.variables.ModeChanges.{named_within}
use Rattle.sat_solver.proofs.lemmas.variables.Refusals.{witness_some, plain_judged}
use Rattle.sat_solver.proofs.variables.refuse.is_witness.Goals as goal

pub returns-then-not-variables-clause-judged : goal.returns-then-not-variables-clause-judged
returns-then-not-variables-clause-judged c = plain_judged c.args.variables.now c.requires c.args.user c.if-not-variables.true

pub mode-requires : goal.mode-requires
mode-requires c = grind (arith, common_steps, named_within)

pub returns-clause-judged : goal.returns-clause-judged
returns-clause-judged c = grind (arith, common_steps, witness_some)
