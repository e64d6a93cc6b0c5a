use Rattle.sat_base.proofs.lemmas.steps.OneSpelling.{one_spelling}
use Rattle.sat_base.proofs.law_step.steps_have_one_spelling.Goals as goal

pub returns : goal.returns
returns c = one_spelling
