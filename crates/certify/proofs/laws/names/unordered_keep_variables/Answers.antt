use Rattle.certify.proofs.lemmas.confirm.Following.{others}
use Rattle.certify.proofs.laws.names.unordered_keep_variables.Goals as goal

pub returns : goal.returns
returns c = others
