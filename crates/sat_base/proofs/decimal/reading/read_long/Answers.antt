use Rattle.std.proofs.Common.{ℕ, ◌≡◌, ◌≢◌, ◌<◌, ◌≤◌, ◌⊎◌, inl, inr, ◌++◌, ◌∷◌, [], length, drop, get_or, decimal, suc, ◌∙◌, ap, arith}
use Rattle.std.proofs.Math.Seq.{drop-cons}
use Rattle.std.proofs.lemmas.List.{drop_all}
use Rattle.sat_base.specs.text.NumberWords.{BeginsWithNoWord, IsNumberUpTo, digits_so_far}
use Rattle.sat_base.proofs.lemmas.text.NumberWords.{no_number_so, no_number_end}
use Rattle.sat_base.proofs.decimal.reading.read_long.Goals as goal

at_zero : (b number : ℕ) → ((b ≡ 32) × (number ≤ 0)) ⊎ (b ≢ 32) → b ≡ 32 → number ≡ 0
at_zero b number (inl h) e = omega arith
at_zero b number (inr h) e = absurd (h e)

pub returns-in_err-number : goal.returns-in_err-number
returns-in_err-number c =
    let inside : c.loop-i.i < length c.args.bytes.now = omega arith in
    let e : c.args.bytes.now ≡ digits_so_far c.loop-i.number ++ (get_or c.args.bytes.now c.loop-i.i 0 ∷ drop (suc c.loop-i.i) c.args.bytes.now)
    = c.loop-i.invariant.digits ∙ ap (λ r. digits_so_far c.loop-i.number ++ r) (drop-cons c.args.bytes.now c.loop-i.i 0 inside) in
    let none : BeginsWithNoWord decimal (IsNumberUpTo c.args.limit) c.args.bytes.now
    = no_number_so c.args.limit (omega arith) c.loop-i.number (get_or c.args.bytes.now c.loop-i.i 0) c.args.bytes.now (drop (suc c.loop-i.i) c.args.bytes.now) c.loop-i.invariant.within (at_zero (get_or c.args.bytes.now c.loop-i.i 0) c.loop-i.number c.else-byte-eq32.either) c.in_err-number.ensures e in
    rw c.from_residual.ensures none

pub returns : goal.returns
returns c =
    let e : drop c.loop-i.i c.args.bytes.now ≡ [] = drop_all c.loop-i.i c.args.bytes.now (omega arith) in
    no_number_end c.args.limit (omega arith) c.loop-i.number c.args.bytes.now c.loop-i.invariant.within (c.loop-i.invariant.digits ∙ ap (λ r. digits_so_far c.loop-i.number ++ r) e)
