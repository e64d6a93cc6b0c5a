-- Which levels pass a filter.
use Rattle.std.proofs.Common.{◌≡◌, ◌≢◌, ℕ, ◌*◌, ◌^◌, ◌%◌, ◌/◌, ◌<◌, true, false, bit_or, bit_and, if◌then◌else◌, inl, inr, refl, ap, arith}
use Rattle.std.proofs.lemmas.Bool.{cases_eq}
use Rattle.std.proofs.lemmas.Bool.Decides.{nat_tests}
use Rattle.std.specs.Bool.{◌==◌}
use Rattle.std.specs.Int.{bit_at, w64}
use Rattle.std.proofs.lemmas.Nat.Bits.{bit_at_set_same, bit_at_set_other, shr_and_one}
use Rattle.sat_store.specs.levels.Levels.{level_passes}

same_test : (a b : ℕ) → a ≡ b → (a == b) ≡ true
same_test a b e = grind (arith, nat_tests)

other_test : (a b : ℕ) → a ≢ b → (a == b) ≡ false
other_test a b d = grind (arith, nat_tests)

-- adding a level lets pass exactly the levels with its remainder, besides those before
pub added : (n level other : ℕ) → level_passes (bit_or n (1 * 2 ^ (level % 64) % 2 ^ 64)) other ≡ (if other % 64 == level % 64 then true else level_passes n other)
unfolding level_passes
added n level other =
    let small : level % 64 < 64 = omega arith in
    elim (cases_eq (other % 64) (level % 64)) [
      | inl same ↦
          let there : bit_at (bit_or n (1 * 2 ^ (level % 64) % 2 ^ 64)) (level % 64) ≡ 1 = bit_at_set_same w64 n (level % 64) small in
          rw (same_test (other % 64) (level % 64) same) (rw (same, there) refl)
      | inr differ ↦ rw (other_test (other % 64) (level % 64) differ) (rw (bit_at_set_other w64 n (level % 64) small (other % 64) differ) refl)
    ]

-- testing the bit of a level says whether it passes
pub tested : (n level : ℕ) → (bit_and (n / 2 ^ (level % 64)) 1 == 1) ≡ level_passes n level
unfolding level_passes
tested n level = ap (λ (b : ℕ). b == 1) (shr_and_one n (level % 64))
