use Rattle.sat_hints.proofs.lemmas.Converted.{accepted_converts}
use Rattle.sat_hints.proofs.laws.accepted_converts.Goals as goal

pub returns : goal.returns
returns c = accepted_converts
