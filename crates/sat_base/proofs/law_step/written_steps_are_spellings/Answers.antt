use Rattle.sat_base.proofs.lemmas.steps.OneSpelling.{spelling_is}
use Rattle.sat_base.proofs.law_step.written_steps_are_spellings.Goals as goal

pub returns : goal.returns
returns c = spelling_is
