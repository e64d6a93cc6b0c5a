use Rattle.std.proofs.Common.{refl, []}
use Rattle.sat_base.proofs.lemmas.text.Words.{SpellsHeld_one, no_minus_digit, no_letter_digit, BeginsWrong_first}
use Rattle.sat_base.proofs.text.word_begun.Goals as goal

pub returns-then-is_digit : goal.returns-then-is_digit
returns-then-is_digit c =
    let e = c.is_digit.ensures in
    (c.args.byte, [], (c.requires, tt), SpellsHeld_one c.args.byte (cc) c.ranges.byte.fits, no_minus_digit c.args.byte (cc), no_letter_digit c.args.byte (cc), refl)

pub returns-else-is_letter : goal.returns-else-is_letter
returns-else-is_letter c =
    let e = c.is_digit.ensures in
    let f = c.is_letter.ensures in
    (c.args.byte, [], (c.requires, tt), BeginsWrong_first c.args.byte (cc) (cc) c.if-byte-eq45.false, refl)
