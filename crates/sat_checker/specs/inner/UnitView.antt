-- The stored units, as the code represents them.
use Rattle.std.specs.Prelude.{ℕ, ◌≡◌, List, map, reverse}
use Rattle.sat_checker.specs.LiteralSets.{is_among}
use Rattle.sat_checker.specs.SortedSets.{NoRepeats}
use Rattle.sat_checker.specs.Stored.{StoredUnit}
use Rattle.sat_checker.specs.Storing.{unit_id}
use Rattle.sat_checker.specs.inner.LitNumbers.{number_at, AreTrailPlaces}
use Rattle.sat_checker.specs.declared.units.lit_numbers.LitNumbers.{LitNumbers}
use Rattle.sat_checker.specs.declared.units.lit_numbers.LitPlaces.{LitPlaces}

-- The units in the order in which they were stored, and the literals that can be assigned without allocating.
pub record UnitsAndRoom : Type 0 where
  pub units : List StoredUnit
  pub room : List ℕ

-- `UnitsInvariant units ids places assigned` holds if `assigned`, the newest first, has exactly the literals of the
-- units, none repeated, `ids` has the id of every unit by its literal, and `places` the trail place of every assigned
-- literal.
pub record UnitsInvariant (units : List StoredUnit) (ids : LitNumbers) (places : LitPlaces) (assigned : List ℕ) : Type 0 where
  pub assumed : (l : ℕ) → is_among assigned l ≡ is_among (map (λ u. u.literal) units) l
  pub once : NoRepeats (map (λ u. u.literal) units)
  pub numbered : (l : ℕ) → number_at ids l ≡ unit_id l units
  pub placed : AreTrailPlaces places (reverse assigned)
