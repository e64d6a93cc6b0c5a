-- Lists of literals as parts of one list. Each of them has a room in that list, and uses the first positions of its
-- room.
use Rattle.std.specs.Prelude.{ℕ, ◌≡◌, ◌≢◌, ◌+◌, ◌≤◌, ◌<◌, ◌⊎◌, List, map, take, drop, length, slice_index, slice_index_or}
use Rattle.sat_parts.specs.declared.binary.Place.{Place}

-- the place of an empty list without room
abbrev pub no_place : Place
no_place = record { start = 0; len = 0; room = 0 }

-- the place (start, length and room) of the list with number `l`, or `no_place` if there is no such list
abbrev pub place_at : List Place → ℕ → Place
place_at places l = slice_index_or places l no_place

-- the literals of the list whose place in the shared list `lits` is `p`
abbrev pub lits_at_place : List ℕ → Place → List ℕ
lits_at_place lits p = take p.len (drop p.start lits)

-- the lists at all places of `places`, in order, cut out of the shared list `lits`
abbrev pub lists_of : List Place → List ℕ → List (List ℕ)
lists_of places lits = map (lits_at_place lits) places

-- `HaveDisjointRooms p q` holds if the rooms of `p` and `q` share no position.
abbrev pub HaveDisjointRooms : Place → Place → Type 0
HaveDisjointRooms p q = (p.start + p.room ≤ q.start) ⊎ (q.start + q.room ≤ p.start)

-- `ArePlaces places size` holds if the lists fit into their rooms, and the rooms are within the list of `size` literals
-- and share no position.
pub record ArePlaces (places : List Place) (size : ℕ) : Type 0 where
  pub few : (l : ℕ) → (place_at places l).len ≤ (place_at places l).room
  pub within : (l : ℕ) → (place_at places l).start + (place_at places l).room ≤ size
  pub apart : (l m : ℕ) → l ≢ m → HaveDisjointRooms (place_at places l) (place_at places m)

-- `CopiesPadded start len room old new` holds if `new` is `old` with a room of `room` items appended, whose first items
-- are a copy of the `len` items of `old` from `start` on; the rest of the room may have any content.
pub record CopiesPadded (start len room : ℕ) (old new : List ℕ) : Type 0 where
  pub size : length new ≡ length old + room
  pub kept : (k : ℕ) → k < length old → slice_index new k ≡ slice_index old k
  pub copied : (k : ℕ) → k < len → slice_index new (length old + k) ≡ slice_index old (start + k)
