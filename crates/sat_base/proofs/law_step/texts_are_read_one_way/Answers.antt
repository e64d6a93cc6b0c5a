use Rattle.sat_base.proofs.lemmas.steps.StepReads.{one_reading}
use Rattle.sat_base.proofs.law_step.texts_are_read_one_way.Goals as goal

pub returns : goal.returns
returns c = one_reading
