use Rattle.certify.proofs.lemmas.confirm.NamesExpected.{names_are_expected}
use Rattle.certify.proofs.laws.names.names_expected.Goals as goal

pub returns : goal.returns
returns c = names_are_expected
