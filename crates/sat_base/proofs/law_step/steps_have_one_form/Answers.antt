use Rattle.sat_base.proofs.lemmas.steps.StepReads.{one_step}
use Rattle.sat_base.proofs.law_step.steps_have_one_form.Goals as goal

pub returns : goal.returns
returns c = one_step
