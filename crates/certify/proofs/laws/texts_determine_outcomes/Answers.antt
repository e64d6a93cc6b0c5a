use Rattle.certify.proofs.lemmas.laws.DistinctTexts.{texts_report}
use Rattle.certify.proofs.laws.texts_determine_outcomes.Goals as goal

pub returns : goal.returns
returns c = texts_report
