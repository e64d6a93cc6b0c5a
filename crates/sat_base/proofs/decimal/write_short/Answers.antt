use Rattle.std.proofs.lemmas.Grind.{common_steps}
use Rattle.std.proofs.Common.{◌+◌, ◌++◌, length, take, arith, sym, ap, ◌∙◌}
use Rattle.std.proofs.lemmas.Fmt.{decimal_digit}
use Rattle.std.proofs.lemmas.List.{length-set}
use Rattle.sat_base.proofs.lemmas.values.Decimals.{two_digits, three_length, four_length, one_put, after_pair}
use Rattle.sat_base.proofs.decimal.write_short.Goals as goal

-- ONE DIGIT
pub bounds-bytes-len : goal.bounds-bytes-len
bounds-bytes-len c = grind (arith, common_steps, decimal_digit)

pub returns-then-number-lt10-clause-end : goal.returns-then-number-lt10-clause-end
returns-then-number-lt10-clause-end c = ap (λ n. c.args.len + n) (sym (ap length (decimal_digit c.args.number c.if-number-lt10.true)))

pub returns-then-number-lt10-clause-text : goal.returns-then-number-lt10-clause-text
returns-then-number-lt10-clause-text c =
    one_put c.args.bytes.now c.args.len (48 + c.args.number) (bounds-bytes-len c) ∙ ap (λ ds. take c.args.len c.args.bytes.now ++ ds) (sym (decimal_digit c.args.number c.if-number-lt10.true))

-- TWO
pub write_pair-requires-clause-room : goal.write_pair-requires-clause-room
write_pair-requires-clause-room c = grind (arith, common_steps, two_digits)

pub returns-then-number-lt100-clause-end : goal.returns-then-number-lt100-clause-end
returns-then-number-lt100-clause-end c = ap (λ n. c.args.len + n) (sym (ap length (two_digits c.args.number c.if-number-lt10.false c.if-number-lt100.true)))

pub returns-then-number-lt100-clause-text : goal.returns-then-number-lt100-clause-text
returns-then-number-lt100-clause-text c =
    c.write_pair.ensures.text ∙ ap (λ ds. take c.args.len c.args.bytes.now ++ ds) (sym (two_digits c.args.number c.if-number-lt10.false c.if-number-lt100.true))

-- THREE
pub bounds-bytes-len-then-number-lt1000 : goal.bounds-bytes-len-then-number-lt1000
bounds-bytes-len-then-number-lt1000 c = grind (arith, common_steps, three_length)

pub write_pair-requires-then-number-lt1000-clause-room : goal.write_pair-requires-then-number-lt1000-clause-room
write_pair-requires-then-number-lt1000-clause-room c = grind (arith, common_steps, length-set, three_length)

pub returns-then-number-lt1000-clause-end : goal.returns-then-number-lt1000-clause-end
returns-then-number-lt1000-clause-end c = ap (λ n. c.args.len + n) (sym (three_length c.args.number c.if-number-lt100.false c.if-number-lt1000.true))

pub returns-then-number-lt1000-clause-text : goal.returns-then-number-lt1000-clause-text
returns-then-number-lt1000-clause-text c = grind (arith, common_steps, decimal_digit, three_length, one_put, after_pair)

-- FOUR
pub write_pair-requires-2-clause-room : goal.write_pair-requires-2-clause-room
write_pair-requires-2-clause-room c = grind (arith, common_steps, four_length)

pub write_pair-requires-3-clause-room : goal.write_pair-requires-3-clause-room
write_pair-requires-3-clause-room c = grind (arith, common_steps, four_length)

pub returns-clause-end : goal.returns-clause-end
returns-clause-end c = ap (λ n. c.args.len + n) (sym (four_length c.args.number c.if-number-lt1000.false c.requires.short))

pub returns-clause-text : goal.returns-clause-text
returns-clause-text c = grind (arith, common_steps, two_digits, after_pair)
