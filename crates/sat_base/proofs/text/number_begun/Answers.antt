use Rattle.sat_base.proofs.lemmas.text.Places.{moves_minus_digit, moves_minus_bad}
use Rattle.sat_base.proofs.text.number_begun.Goals as goal

pub returns-then-is_digit : goal.returns-then-is_digit
returns-then-is_digit c = moves_minus_digit c.args.byte c.requires (cc) c.ranges.byte.fits

pub returns-else-is_digit : goal.returns-else-is_digit
returns-else-is_digit c = moves_minus_bad c.args.byte c.requires (cc)
