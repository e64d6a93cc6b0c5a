use Rattle.std.proofs.lemmas.Grind.{common_steps}
use Rattle.std.proofs.Common.{◌∙◌, ◌++◌, ◌∷◌, ap, arith, decimal}
use Rattle.sat_base.proofs.lemmas.text.NumberWords.{no_number_zero}
use Rattle.sat_base.proofs.lemmas.text.ShortNumbers.{after, no_short_number, short_decimal_is}
use Rattle.sat_base.proofs.decimal.reading.read_number.Goals as goal

pub returns-then-bytes-eq48 : goal.returns-then-bytes-eq48
returns-then-bytes-eq48 c = grind (arith, common_steps, no_number_zero)

pub returns-then-ends_number : goal.returns-then-ends_number
returns-then-ends_number c =
    let bytes = c.args.bytes.now in
    let n = c.in-Some.number in
    let k = c.in-Some.count in
    let p = rw c.if-ends_number.true at c.ends_number.ensures in
    ((omega arith, omega arith), short_decimal_is bytes n k c.in-Some.ensures c.if-bytes-eq48.false p.0 ∙ ap (λ t. decimal n ++ (32 ∷ t)) (after bytes k))

pub returns : goal.returns
returns c =
    no_short_number c.args.bytes.now c.in-Some.number c.in-Some.count c.in-Some.ensures c.args.limit c.ranges.limit.fits c.if-bytes-eq48.false (rw c.if-ends_number.false at c.ends_number.ensures)
