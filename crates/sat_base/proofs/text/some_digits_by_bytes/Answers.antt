use Rattle.std.proofs.Common.{false, true, ◌-◌, get_or, arith}
use Rattle.sat_base.specs.declared.text.Place.TheVariants as at
use Rattle.sat_base.proofs.lemmas.text.SeveralBytes.{moves_from_first, moves_first_digit, moves_digit_after_minus}
use Rattle.sat_base.proofs.text.some_digits_by_bytes.Goals as goal

pub returns-clause-plain : goal.returns-clause-plain
returns-clause-plain c = λ old w.
    let xs = c.args.bytes.now in
    let r = c.digits_in-value.result in
    moves_from_first old (at.Digits false (get_or xs 0 0 - 48)) (at.Digits false r.0) xs r.1 (grind arith) (moves_first_digit old (get_or xs 0 0) w (cc)) (c.digits_in-value.ensures.moves false)

pub returns-clause-negative : goal.returns-clause-negative
returns-clause-negative c =
    let xs = c.args.bytes.now in
    let r = c.digits_in-value.result in
    moves_from_first at.Minus (at.Digits true (get_or xs 0 0 - 48)) (at.Digits true r.0) xs r.1 (grind arith) (moves_digit_after_minus (get_or xs 0 0) (cc)) (c.digits_in-value.ensures.moves true)
