use Rattle.certify.proofs.lemmas.laws.FinishedTexts.{finished_confirmed}
use Rattle.certify.proofs.laws.finished_is_confirmed.Goals as goal

pub returns : goal.returns
returns c = finished_confirmed
