use Rattle.certify.proofs.lemmas.laws.Headlines.{certified_headline}
use Rattle.certify.proofs.laws.certified_is_headline.Goals as goal

pub returns : goal.returns
returns c = certified_headline
