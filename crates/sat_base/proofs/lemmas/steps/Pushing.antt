-- Bytes for which there is room.
use Rattle.std.proofs.Common.{◌≡◌, ℕ, suc, zero, ◌+◌, ◌/◌, ◌%◌, ◌≤◌, Bool, true, false, nat_lt, List, [], ◌∷◌, ◌++◌, Result, Ok, ap, ◌∙◌, if◌then◌else◌, arith}
use Rattle.std.specs.Prelude.{length}
use Rattle.std.proofs.lemmas.List.{length-append}
use Rattle.sat_base.specs.steps.StepBytes.{groups_of_seven_bits}

-- the result of a call that can't fail
abbrev pub pushed : Result (Unit {0}) (Unit {0})
pushed = Ok tt

short_if : (b : Bool) (xs ys : List ℕ) (m : ℕ) → length xs ≤ m → length ys ≤ m → length (if b then xs else ys) ≤ m
short_if true xs ys m h k = h
short_if false xs ys m h k = k

-- a number has at most this many groups
short_groups : (k n : ℕ) → length (groups_of_seven_bits k n) ≤ k + 1
unfolding groups_of_seven_bits
short_groups zero n = omega arith
short_groups (suc k) n = short_if (nat_lt n 128) (n ∷ []) ((n % 128 + 128) ∷ groups_of_seven_bits k (n / 128)) (suc k + 1) (omega arith) (let h = short_groups k (n / 128) in omega (arith, h))

pub number_is_short : (before now : List ℕ) (number : ℕ) → now ≡ before ++ groups_of_seven_bits 9 number → length now ≤ length before + 10
number_is_short before now number e =
    let n : length now ≡ length before + length (groups_of_seven_bits 9 number) = ap (λ (z : List ℕ). length z) e ∙ length-append before (groups_of_seven_bits 9 number) in
    omega (arith, n, short_groups 9 number)
