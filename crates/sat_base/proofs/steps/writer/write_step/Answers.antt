use Rattle.std.proofs.Common.{◌∙◌}
use Rattle.sat_base.specs.steps.StepBytes.{step_bytes}
use Rattle.sat_base.specs.steps.StepViews.{step_of}
use Rattle.sat_base.specs.steps.StepText.{SpellsStep}
use Rattle.sat_base.specs.device.Waiting.{waiting_in}
use Rattle.sat_base.proofs.lemmas.device.KeptErrors.{puts_alike}
use Rattle.sat_base.proofs.lemmas.device.Sending.{lent_out}
use Rattle.sat_base.proofs.lemmas.steps.NumberBytes.{sends_of}
use Rattle.sat_base.proofs.steps.writer.write_step.Goals as goal

pub returns-clause-puts : goal.returns-clause-puts
returns-clause-puts g c =
    puts_alike c.give_error-result.result c.write_step-written.result (step_bytes (step_of c.args.step.now)) _ _ c.give_error-result.ensures.alike
    (lent_out g.W.CountedWrite.seen waiting_in c.args.writer.now _ c.into_writer-writer.result c.new-output.result c.write_step-written.new.self _ (step_bytes (step_of c.args.step.now)) c.write_step-written.result c.writer-1.given.1 c.new-output.ensures (c.into_writer-writer.ensures ∙ c.give_error-result.ensures.writer) (sends_of SpellsStep (step_of c.args.step.now) _ _ _ _ c.write_step-written.ensures.writes) c.write_step-written.ensures.none)
