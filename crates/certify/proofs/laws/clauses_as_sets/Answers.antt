use Rattle.certify.proofs.lemmas.laws.DefinitionLaws.{repeated, tautology}
use Rattle.certify.proofs.laws.clauses_as_sets.Goals as goal

pub returns-clause-repeat : goal.returns-clause-repeat
returns-clause-repeat c = repeated

pub returns-clause-tautology : goal.returns-clause-tautology
returns-clause-tautology c = tautology
