-- The numbers of literals, such as ids and places.
use Rattle.std.specs.Prelude.{ℕ, ◌≡◌, ◌<◌, ◌==◌, ◌-◌, ◌^◌, List, length, get_or, Option, None, Some, if◌then◌else◌}
use Rattle.sat_base.specs.values.Tables.{value_at}
use Rattle.sat_checker.specs.declared.units.lit_numbers.LitNumbers.{LitNumbers}
use Rattle.sat_checker.specs.declared.units.lit_numbers.LitPlaces.{LitPlaces}

-- The number `n`, or `None` if `n` is 2^64-1, which represents no number.
abbrev pub unless_largest : ℕ → Option ℕ
unless_largest n = if n == 2 ^ 64 - 1 then None else Some n

-- The number of the literal `l`, or `None` if it has none.
abbrev pub number_at : LitNumbers → ℕ → Option ℕ
number_at numbers l = unless_largest (value_at (2 ^ 64 - 1) numbers.numbers l)

-- The place `n`, or `None` if `n` is 2^32-1, which represents no place.
abbrev pub unless_largest_place : ℕ → Option ℕ
unless_largest_place n = if n == 2 ^ 32 - 1 then None else Some n

-- The place of the literal `l`, or `None` if it has none.
abbrev pub place_at : LitPlaces → ℕ → Option ℕ
place_at places l = unless_largest_place (value_at (2 ^ 32 - 1) places.places l)

-- `AreTrailPlaces places trail` holds if for every literal on the trail, the oldest first, `places` has its position,
-- counted from 0.
abbrev pub AreTrailPlaces : LitPlaces → List ℕ → Type 0
AreTrailPlaces places trail = (i : ℕ) → i < length trail → place_at places (get_or trail i 0) ≡ Some i
