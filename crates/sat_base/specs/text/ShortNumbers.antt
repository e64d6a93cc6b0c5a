-- Numbers of few digits, which are read from eight bytes at once.
use Rattle.std.specs.Prelude.{ℕ, ◌≡◌, ◌+◌, ◌*◌, ◌^◌, ◌<◌, ◌≤◌, List, [], ◌∷◌, false, Some, length, take, slice_index}
use Rattle.std.specs.List.{AllByRecursion}
use Rattle.sat_base.specs.text.Text.{is_digit, digits}

-- the number whose bytes are those of a list, the lowest first
abbrev pub little_endian_value : List ℕ → ℕ
little_endian_value [] = 0
little_endian_value (b ∷ bs) = b + 256 * little_endian_value bs

-- the number `n` with decimal digits appended, given as values from 0 to 9
abbrev pub value_with_digits : ℕ → List ℕ → ℕ
value_with_digits n [] = n
value_with_digits n (d ∷ ds) = value_with_digits (10 * n + d) ds

-- `AreEightDigits ds` holds if the list has exactly eight numbers, each from 0 to 9.
pub record AreEightDigits (ds : List ℕ) : Type 0 where
  pub eight : length ds ≡ 8
  pub each : AllByRecursion (λ d. d ≤ 9) ds

-- `BeginsWithDigits bytes value count` holds if the bytes begin with `count` digits, from one to seven, which spell
-- `value`, and then a byte that is no digit.
pub record BeginsWithDigits (bytes : List ℕ) (value count : ℕ) : Type 0 where
  pub some : 0 < count
  pub few : count ≤ 7
  pub within : count < length bytes
  pub spelt : digits 0 (take count bytes) ≡ Some value
  pub small : value < 2 ^ 64
  pub ends : is_digit (slice_index bytes count) ≡ false
