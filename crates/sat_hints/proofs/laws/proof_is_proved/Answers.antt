use Rattle.sat_hints.proofs.lemmas.Rechecked.{proof_is_proved}
use Rattle.sat_hints.proofs.laws.proof_is_proved.Goals as goal

pub returns : goal.returns
returns c = proof_is_proved
