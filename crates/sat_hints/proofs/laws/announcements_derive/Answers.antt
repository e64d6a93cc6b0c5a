use Rattle.sat_hints.proofs.lemmas.WithinLimits.{read_fit}
use Rattle.sat_hints.proofs.lemmas.AreProved.{derive, are_proved}
use Rattle.sat_hints.proofs.laws.announcements_derive.Goals as goal

pub returns : goal.returns
returns c = record { derive = derive; read = read_fit; proved = are_proved }
