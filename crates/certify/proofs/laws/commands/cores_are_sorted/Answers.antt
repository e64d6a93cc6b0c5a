use Rattle.certify.proofs.lemmas.run.Cores.{right_in_order}
use Rattle.certify.proofs.laws.commands.cores_are_sorted.Goals as goal

pub returns : goal.returns
returns c = right_in_order
