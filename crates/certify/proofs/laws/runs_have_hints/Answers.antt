use Rattle.certify.proofs.lemmas.laws.RunHints.{runs_have_hints}
use Rattle.certify.proofs.laws.runs_have_hints.Goals as goal

pub returns : goal.returns
returns c = runs_have_hints
