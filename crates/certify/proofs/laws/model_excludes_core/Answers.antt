use Rattle.certify.proofs.lemmas.laws.DefinitionLaws.{model_excludes_core}
use Rattle.certify.proofs.laws.model_excludes_core.Goals as goal

pub returns : goal.returns
returns c = model_excludes_core
