use Rattle.std.proofs.Common.{arith}
use Rattle.std.proofs.lemmas.Grind.{common_steps}
use Rattle.std.proofs.lemmas.Result.{err_from_is_err_and}
use Rattle.sat_base.proofs.lemmas.steps.StepReads.{some_byte, unknown_tag, answers_after, answers_at_once}
use Rattle.sat_base.proofs.device.input.Input.read_step.Goals as goal

pub returns-in_err-next_byte-clause-reads : goal.returns-in_err-next_byte-clause-reads
returns-in_err-next_byte-clause-reads g c = grind (arith, common_steps, err_from_is_err_and, answers_at_once)

pub returns-then-not-is_tag-clause-reads : goal.returns-then-not-is_tag-clause-reads
returns-then-not-is_tag-clause-reads g c = grind (arith, common_steps, some_byte, unknown_tag)

pub returns-else-not-is_tag-clause-reads : goal.returns-else-not-is_tag-clause-reads
returns-else-not-is_tag-clause-reads g c = grind (arith, common_steps, some_byte, answers_after)
