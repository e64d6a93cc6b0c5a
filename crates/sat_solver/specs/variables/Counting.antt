-- How many of the first numbers satisfy a predicate.
use Rattle.std.specs.Prelude.{ℕ, zero, suc, ◌+◌, ◌≡◌, Bool, is_some, List, Option, length, if◌then◌else◌}
use Rattle.sat_store.specs.variables.Maps.{MapAndInverse, target}

-- `count_to n f` is how many of the numbers below `n` satisfy `f`
unfoldable pub count_to : ℕ → (ℕ → Bool) → ℕ
count_to zero f = 0
count_to (suc n) f = count_to n f + (if f n then 1 else 0)

-- the number of positions in a map that have a value
abbrev pub mapped_count : List (Option ℕ) → ℕ
mapped_count map = count_to (length map) (λ v. is_some (target map v))

-- `HasEqualCounts maps` holds if a map and its inverse have the same number of entries with a value
abbrev pub HasEqualCounts : MapAndInverse → Type 0
HasEqualCounts maps = mapped_count maps.fwd ≡ mapped_count maps.bwd
