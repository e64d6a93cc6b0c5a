use Rattle.std.proofs.lemmas.Grind.{common_steps}
use Rattle.std.proofs.Common.{arith}
use Rattle.sat_base.proofs.lemmas.text.Places.{says_minus, says_bad, says_letter, says_zero, says_number}
use Rattle.sat_base.proofs.text.token_in.Goals as goal
use Rattle.sat_base.proofs.text.token_in.Goals.{else-negative-via-then-negative+else-value-eq0, else-negative-via-else-negative}

pub returns-in-Minus : goal.returns-in-Minus
returns-in-Minus c = rw c.in-Minus.is says_minus

pub returns-in-Bad : goal.returns-in-Bad
returns-in-Bad c = rw c.in-Bad.is says_bad

pub returns-in-Letter : goal.returns-in-Letter
returns-in-Letter c = rw c.in-Letter.is (says_letter c.in-Letter.byte)

pub returns-then-value-eq0 : goal.returns-then-value-eq0
returns-then-value-eq0 c = rw (c.in-Digits.is, c.if-negative.true) (says_zero c.in-Digits.value c.if-value-eq0.true)

pub returns-else-negative : goal.returns-else-negative
returns-else-negative c = grind (arith, common_steps, says_number, else-negative-via-then-negative+else-value-eq0, else-negative-via-else-negative)
