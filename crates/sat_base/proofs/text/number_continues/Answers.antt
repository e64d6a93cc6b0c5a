use Rattle.sat_base.proofs.lemmas.text.Places.{moves_digit, moves_digits_bad}
use Rattle.sat_base.proofs.text.number_continues.Goals as goal

pub returns-then-is_digit : goal.returns-then-is_digit
returns-then-is_digit c = rw c.with_digit.ensures (moves_digit c.args.negative c.args.value c.args.byte c.requires (cc))

pub returns-else-is_digit : goal.returns-else-is_digit
returns-else-is_digit c = moves_digits_bad c.args.negative c.args.value c.args.byte c.requires (cc)
