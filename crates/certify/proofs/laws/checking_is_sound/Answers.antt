use Rattle.sat_checker.proofs.lemmas.matching.CheckerIsSound.{the_checking_sound}
use Rattle.certify.proofs.laws.checking_is_sound.Goals as goal

pub returns : goal.returns
returns c = the_checking_sound
