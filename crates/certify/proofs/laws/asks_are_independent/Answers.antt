use Rattle.certify.proofs.lemmas.laws.DefinitionLaws.{ask_names}
use Rattle.certify.proofs.lemmas.laws.DistinctTexts.{ask_leaves}
use Rattle.certify.proofs.laws.asks_are_independent.Goals as goal

pub returns : goal.returns
returns c = record { clauses = ask_leaves; names = ask_names }
