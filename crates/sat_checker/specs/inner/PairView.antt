-- Lists of pairs of a hash and a place.
use Rattle.std.specs.Prelude.{ℕ, ◌+◌, ◌*◌, ◌/◌, ◌%◌, ◌^◌, ◌<◌, ◌==◌, not, nat_lt, nat_le, List, [], ◌∷◌, map, filter, Option, None, Some}
use Rattle.std.specs.List.{AllByRecursion}
use Rattle.sat_checker.specs.declared.store.links.Pair.{Pair}

-- The hash under which the index files a hash. The low 64 bits are multiplied by an odd number, so different hashes
-- have different mixed hashes.
unfoldable pub mixed : ℕ → ℕ
mixed hash = hash * 0xBF58476D1CE4E5B9 % 2 ^ 64 + hash / 2 ^ 64 * 2 ^ 64

-- `AreInOrder pairs` holds if every pair has a lower place than all later pairs.
abbrev pub AreInOrder : List Pair → Type 0
AreInOrder [] = Unit {0}
AreInOrder (p ∷ ps) = AllByRecursion (λ q. p.place < q.place) ps × AreInOrder ps

-- The pairs except the one at `place`.
abbrev pub without_pair : ℕ → List Pair → List Pair
without_pair place = filter (λ p. not (p.place == place))

-- The places of the pairs with this hash.
abbrev pub places_in : ℕ → List Pair → List ℕ
places_in hash pairs = map (λ p. p.place) (filter (λ p. p.hash == hash) pairs)

-- The first of the places, or `None` if there is none.
abbrev pub first_of : List ℕ → Option ℕ
first_of [] = None
first_of (p ∷ ps) = Some p

-- Those of the places that are greater than `place`.
abbrev pub places_after : ℕ → List ℕ → List ℕ
places_after place = filter (nat_lt place)

-- The places from `place` on, or none if it is `None`.
abbrev pub places_at_or_after : Option ℕ → List ℕ → List ℕ
places_at_or_after None places = []
places_at_or_after (Some place) places = filter (nat_le place) places

-- What contracts see of an index: its pairs, in order of their places, and the number of places.
pub record Indexed : Type 0 where
  pub pairs : List Pair
  pub places : ℕ
