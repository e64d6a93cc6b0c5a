-- Pairs that are linked in lists: a head for every list, and a link at every place.
use Rattle.std.specs.Prelude.{ℕ, zero, suc, ◌≡◌, ◌≢◌, ◌≤◌, ◌<◌, ◌+◌, ◌==◌, ◌-◌, ◌/◌, ◌^◌, min, List, [], ◌∷◌, length, drop, filter, slice_index_or, slice_set, Option, None, Some, if◌then◌else◌}
use Rattle.sat_checker.specs.declared.store.links.Pair.{Pair}
use Rattle.sat_checker.specs.declared.store.links.Link.{Link}

-- The number that represents no place: 2^32-1.
abbrev pub no_place : ℕ
no_place = 4294967295

-- The `next` of a place without a pair: 2^32-2.
abbrev pub no_pair : ℕ
no_pair = 4294967294

-- The link at the place `at`: a hash, and the place that it leads to.
abbrev pub link_at : List Link → ℕ → Link
link_at links at = slice_index_or links at (record { hash = 0; next = 0 })

-- The pair at the place `at`.
abbrev pub pair_at : List Link → ℕ → Pair
pair_at links at = record { hash = (link_at links at).hash; place = at }

-- The pairs that are linked starting at the place `at`, at most the given number of them.
abbrev pub linked_pairs : List Link → ℕ → ℕ → List Pair
linked_pairs links zero at = []
linked_pairs links (suc n) at = if at == no_place then [] else pair_at links at ∷ linked_pairs links n (link_at links at).next

-- All pairs that are linked starting at the place `at`.
abbrev pub linked_from : List Link → ℕ → List Pair
linked_from links at = linked_pairs links (length links) at

-- `IsPairAt links at p` holds if there is a link at the place `at`, and `p` is its pair.
pub record IsPairAt (links : List Link) (at : ℕ) (p : Pair) : Type 0 where
  pub inside : at < length links
  pub is : p ≡ pair_at links at

-- `LinksPairs links at pairs` holds if the links lead from the place `at` over exactly these pairs, and then to no
-- place.
abbrev pub LinksPairs : List Link → ℕ → List Pair → Type 0
LinksPairs links at [] = at ≡ no_place
LinksPairs links at (p ∷ ps) = IsPairAt links at p × LinksPairs links (link_at links at).next ps

-- The pairs of these links, if the first link is at `place`.
abbrev pub link_pairs_from : ℕ → List Link → List Pair
link_pairs_from place [] = []
link_pairs_from place (l ∷ ls) = if l.next == no_pair then link_pairs_from (place + 1) ls else (record { hash = l.hash; place = place }) ∷ link_pairs_from (place + 1) ls

-- The pairs at `place` and later places.
abbrev pub link_pairs_at : ℕ → List Link → List Pair
link_pairs_at place links = link_pairs_from place (drop place links)

-- All pairs of these links, in order of places. The first link is at place 0.
abbrev pub listed_pairs : List Link → List Pair
listed_pairs links = link_pairs_from 0 links

-- The top of a hash, which selects one of `count` heads: its bits above the low `shift` ones, or `count - 1` if that is
-- less.
abbrev pub top_of : ℕ → ℕ → ℕ → ℕ
top_of shift count hash = min (hash / 2 ^ shift) (count - 1)

-- The place of the first pair in the list of the top `top`, or 0 if there is no such head.
abbrev pub head_at : List ℕ → ℕ → ℕ
head_at heads top = slice_index_or heads top 0

-- The pairs whose hash has the top `top`, of those that are given.
abbrev pub with_top : ℕ → ℕ → ℕ → List Pair → List Pair
with_top shift count top = filter (λ p. top_of shift count p.hash == top)

-- `LinksEnd links at` holds if the links from the place `at` lead to the end of a list, without a cycle, and there are
-- at most 2^32-2 links.
pub record LinksEnd (links : List Link) (at : ℕ) : Type 0 where
  pub few : length links ≤ no_pair
  pub leads : LinksPairs links at (linked_from links at)

-- `AreLinkedFrom place heads links shift` holds if every head leads over exactly the pairs with its top at the places
-- from `place` on, in order, and there are at most 2^32-2 links.
pub record AreLinkedFrom (place : ℕ) (heads : List ℕ) (links : List Link) (shift : ℕ) : Type 0 where
  pub few : length links ≤ no_pair
  pub parts : (top : ℕ) → top < length heads → LinksPairs links (head_at heads top) (with_top shift (length heads) top (link_pairs_at place links))

-- `AreLinked heads links shift` holds if every head leads over exactly the pairs with its top, in order of places, and
-- there are at most 2^32-2 links.
abbrev pub AreLinked : List ℕ → List Link → ℕ → Type 0
AreLinked = AreLinkedFrom 0

-- `LinksListPairs heads links shift pairs` holds if every head leads over exactly the pairs with its top, in order of
-- places, and `pairs` are all pairs.
pub record LinksListPairs (heads : List ℕ) (links : List Link) (shift : ℕ) (pairs : List Pair) : Type 0 where
  pub linked : AreLinked heads links shift
  pub is : listed_pairs links ≡ pairs

-- `SetsLink place hash old new` holds if `new` is `old` with a pair of this hash at `place`.
pub record SetsLink (place hash : ℕ) (old new : List Link) : Type 0 where
  pub next : ℕ
  pub present : next ≢ no_pair
  pub is : new ≡ slice_set old place (record { hash = hash; next = next })

-- The place of the last pair, or `place` if there is no pair.
abbrev pub last_place_or : Option ℕ → List Pair → Option ℕ
last_place_or place [] = place
last_place_or place (p ∷ ps) = last_place_or (Some p.place) ps

-- The place of the pair before the pair at `place`, or `None`.
abbrev pub place_before : ℕ → List Pair → Option ℕ
place_before place [] = None
place_before place (p ∷ []) = None
place_before place (p ∷ q ∷ qs) = if q.place == place then Some p.place else place_before place (q ∷ qs)

-- `PairListsInvariant heads links shift` holds if every head leads over exactly the pairs of its top, there are heads
-- if there are links, and `shift`, the number of bits of a hash that do not select the head, is at least 33 and below
-- 64.
pub record PairListsInvariant (heads : List ℕ) (links : List Link) (shift : ℕ) : Type 0 where
  pub linked : AreLinked heads links shift
  pub some : 0 < length links → 0 < length heads
  pub few : 33 ≤ shift
  pub below : shift < 64
