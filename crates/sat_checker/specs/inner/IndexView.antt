-- How an index of pairs represents slots.
use Rattle.std.specs.Prelude.{ℕ, ◌≡◌, ◌+◌, ◌<◌, ◌==◌, not, filter, List, [], ◌∷◌, length, if◌then◌else◌}
use Rattle.std.specs.List.{AllByRecursion}
use Rattle.sat_checker.specs.inner.PairView.{Indexed, AreInOrder, places_in, mixed}
use Rattle.sat_checker.specs.inner.SlotView.{Slot, is_removed, places_of}
use Rattle.sat_checker.specs.declared.store.links.Pair.{Pair}

-- The places except `place`.
abbrev pub without_place : ℕ → List ℕ → List ℕ
without_place place = filter (λ p. not (p == place))

-- The pairs of mixed hash and place of the clauses that are not removed, by increasing place, if the first slot is at
-- `place`.
abbrev pub slot_pairs_from : ℕ → List Slot → List Pair
slot_pairs_from place [] = []
slot_pairs_from place (s ∷ ss) = if is_removed s then slot_pairs_from (place + 1) ss else (record { hash = mixed s.hash; place = place }) ∷ slot_pairs_from (place + 1) ss

-- The pairs of mixed hash and place of all clauses that are not removed, by increasing place. The first slot is at
-- place 0.
abbrev pub slot_pairs : List Slot → List Pair
slot_pairs slots = slot_pairs_from 0 slots

-- `IndexesSlots index slots` holds if the index finds the clauses that are not removed by their mixed hashes, has a
-- place for every slot, and lists its pairs by increasing place.
pub record IndexesSlots (index : Indexed) (slots : List Slot) : Type 0 where
  pub filed : (hash : ℕ) → places_in (mixed hash) index.pairs ≡ places_of hash slots
  pub places : index.places ≡ length slots
  pub in_order : AreInOrder index.pairs
  pub below : AllByRecursion (λ p. p.place < index.places) index.pairs
