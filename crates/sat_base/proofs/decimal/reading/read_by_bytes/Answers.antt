use Rattle.std.proofs.lemmas.Grind.{common_steps}
use Rattle.std.proofs.Common.{ℕ, ◌≡◌, ◌<◌, ◌≤◌, ◌^◌, ◌⊎◌, inl, inr, ◌++◌, ◌∷◌, [], length, drop, get_or, suc, ◌∙◌, ap, arith}
use Rattle.std.proofs.Math.Seq.{drop-cons}
use Rattle.std.proofs.lemmas.List.{drop_all}
use Rattle.sat_base.specs.text.NumberWords.{digits_so_far}
use Rattle.sat_base.proofs.lemmas.text.NumberWords.{grows, one_digit_more, no_number_past}
use Rattle.sat_base.proofs.lemmas.text.NumberWords.{no_number_zero, no_number_stop}
use Rattle.sat_base.proofs.decimal.reading.read_by_bytes.Goals as goal

outside : (b : ℕ) → (b < 48) ⊎ ((48 ≤ b) × (57 < b)) → (48 ≤ b) × (b ≤ 57) → ⊥
outside b (inl h) p = omega arith
outside b (inr h) p = omega arith

pub returns-then-bytes-eq48 : goal.returns-then-bytes-eq48
returns-then-bytes-eq48 c = grind (arith, common_steps, no_number_zero)

pub returns-then-byte-lt48 : goal.returns-then-byte-lt48
returns-then-byte-lt48 c =
    let bytes = c.args.bytes.now in
    let i = c.loop-i.i in
    let inside : i < length bytes = omega arith in
    let small : c.loop-i.number < 2 ^ 64 = omega arith in
    let e : bytes ≡ digits_so_far c.loop-i.number ++ (get_or bytes i 0 ∷ drop (suc i) bytes) = c.loop-i.invariant.digits ∙ ap (λ r. digits_so_far c.loop-i.number ++ r) (drop-cons bytes i 0 inside) in
    no_number_stop c.args.limit c.ranges.limit.fits c.loop-i.number (get_or bytes i 0) bytes (drop (suc i) bytes) small (outside (get_or bytes i 0) c.then-byte-lt48.either) (rw c.if-ends_number.false at c.ends_number.ensures) e

pub loop-i-preserved : goal.loop-i-preserved
loop-i-preserved c = grind (arith, common_steps, grows, one_digit_more)

pub returns : goal.returns
returns c =
    let bytes = c.args.bytes.now in
    let small : c.loop-i.number < 2 ^ 64 = omega arith in
    let e : drop c.loop-i.i bytes ≡ [] = drop_all c.loop-i.i bytes (omega arith) in
    no_number_past c.args.limit c.ranges.limit.fits c.loop-i.number bytes small (c.loop-i.invariant.digits ∙ ap (λ r. digits_so_far c.loop-i.number ++ r) e)
