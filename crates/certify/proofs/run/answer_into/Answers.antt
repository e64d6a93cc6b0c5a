use Rattle.std.proofs.Common.{arith}
use Rattle.std.proofs.lemmas.Grind.{common_steps}
use Rattle.certify.proofs.lemmas.run.Runs.{counter_lent, runs_lent, steps_lent, stopped_lent}
use Rattle.certify.proofs.run.answer_into.Goals as goal

pub returns-clause-runs : goal.returns-clause-runs
returns-clause-runs g c = grind (arith, common_steps, runs_lent)

pub returns-clause-steps : goal.returns-clause-steps
returns-clause-steps g c = grind (arith, common_steps, steps_lent)

pub returns-clause-counter_end : goal.returns-clause-counter_end
returns-clause-counter_end g c = grind (arith, common_steps, counter_lent)

pub returns-clause-unfinished : goal.returns-clause-unfinished
returns-clause-unfinished g c = grind (arith, common_steps, stopped_lent)
