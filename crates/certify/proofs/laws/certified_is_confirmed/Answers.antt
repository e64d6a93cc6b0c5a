use Rattle.certify.proofs.lemmas.laws.CertifiedMatches.{certified_matches}
use Rattle.certify.proofs.laws.certified_is_confirmed.Goals as goal

pub returns : goal.returns
returns c = certified_matches
