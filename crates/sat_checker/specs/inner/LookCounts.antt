-- How many looks a function needs: the count never decreases, and there is a bound.
use Rattle.std.specs.Prelude.{ℕ, ◌+◌, ◌≤◌}
use Rattle.sat_checker.specs.Stored.{Stored}

-- `LooksUpTo count old new` holds if the number of looks did not decrease, and rose by at most `count`.
pub record LooksUpTo (count old new : ℕ) : Type 0 where
  pub rise : old ≤ new
  pub most : new ≤ old + count

-- `LooksOver Kept count old new` holds if the number of looks did not decrease, and rose by at most `count f` for every
-- `f` with `Kept f`.
pub record LooksOver (Kept : Stored → Type 0) (count : Stored → ℕ) (old new : ℕ) : Type 0 where
  pub rise : old ≤ new
  pub most : (f : Stored) → Kept f → new ≤ old + count f
