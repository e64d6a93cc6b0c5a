-- What the store has at every place.
use Rattle.std.specs.Prelude.{ℕ, ◌+◌, ◌<◌, ◌≤◌, ◌==◌, ◌≡◌, ◌⊎◌, Bool, false, not, ◌&&◌, List, [], ◌∷◌, ◌++◌, map, filter, find, Option, length, take, nat_le, slice_range, slice_index_or, slice_set, if◌then◌else◌}
use Rattle.sat_checker.specs.LiteralSets.{same_literals}
use Rattle.sat_checker.specs.Looks.{total_length}
use Rattle.sat_checker.specs.Stored.{StoredClause, clause_hash_by}
use Rattle.sat_checker.specs.Storing.{with_count, without_count, new_clause, unless_removed}
use Rattle.sat_checker.specs.HasherView.{solver_name_of, width_of}
use Rattle.sat_checker.specs.declared.hash.ClauseHasher.{ClauseHasher}
use Rattle.sat_checker.specs.declared.store.slots.ClauseLits.{ClauseLits}

-- The literals of a clause as the code stores it: inline if there are at most 4, otherwise a part of `buffer`.
abbrev pub lits_in : List ℕ → ClauseLits → List ℕ
lits_in buffer c = if nat_le c.len 4 then take c.len c.inline else slice_range buffer c.start (c.start + c.len)

-- `LitsWithin buffer c` holds if the literals of `c`, when there are more than 4 and so in the buffer, are within it.
abbrev pub LitsWithin : List ℕ → ClauseLits → Type 0
LitsWithin buffer c = 4 < c.len → c.start + c.len ≤ length buffer

-- A clause at its place, with its hash; a clause without a count is removed.
pub record Slot : Type 0 where
  pub clause : StoredClause
  pub hash : ℕ

-- The slot of a clause with this id, these counts (first irredundant, then redundant), this hash and these literals.
abbrev pub slot_with : ℕ → ℕ → ℕ → ℕ → List ℕ → Slot
slot_with id irredundant redundant hash literals = record { clause = record { id = id; literals = literals; irredundant = irredundant; redundant = redundant }; hash = hash }

-- The slot of a removed clause, which has no count, with this id, this hash and these literals.
abbrev pub removed_slot : ℕ → ℕ → List ℕ → Slot
removed_slot id hash literals = slot_with id 0 0 hash literals

-- The slot at `place`, or that of a removed clause without literals if there is none.
abbrev pub slot_at : List Slot → ℕ → Slot
slot_at slots place = slice_index_or slots place (removed_slot 0 0 [])

-- The literals of the clause at `place`, even if it is removed.
abbrev pub literals_at : List Slot → ℕ → List ℕ
literals_at slots place = (slot_at slots place).clause.literals

-- The literals of every clause, by place, including removed ones.
abbrev pub all_lits : List Slot → List (List ℕ)
all_lits = map (λ s. s.clause.literals)

-- How often a clause is stored as redundant (true) or as irredundant.
abbrev pub slot_count : Bool → Slot → ℕ
slot_count redundant s = if redundant then s.clause.redundant else s.clause.irredundant

-- The slots once the clause at `place` has one more count: redundant if the flag is true, otherwise irredundant.
abbrev pub with_count_at : Bool → ℕ → List Slot → List Slot
with_count_at redundant place slots = slice_set slots place (record (slot_at slots place) { clause = with_count redundant (slot_at slots place).clause })

-- The slots once the clause at `place` has one count fewer, redundant (true) or irredundant; 0 stays 0. A clause
-- without a count is removed, but keeps its place.
abbrev pub without_count_at : Bool → ℕ → List Slot → List Slot
without_count_at redundant place slots = slice_set slots place (record (slot_at slots place) { clause = without_count redundant (slot_at slots place).clause })

-- The slots once the clause at `place` has this hash.
abbrev pub with_hash_at : ℕ → ℕ → List Slot → List Slot
with_hash_at hash place slots = slice_set slots place (record (slot_at slots place) { hash = hash })

-- The ids by place, including those of removed clauses.
abbrev pub slot_ids : List Slot → List ℕ
slot_ids = map (λ s. s.clause.id)

-- The clauses that have a count, in order of their places.
abbrev pub live_clauses : List Slot → List StoredClause
live_clauses [] = []
live_clauses (s ∷ ss) = unless_removed s.clause ++ live_clauses ss

-- `is_removed s` is true if the clause has no count.
abbrev pub is_removed : Slot → Bool
is_removed s = s.clause.irredundant == 0 && s.clause.redundant == 0

-- The number of removed clauses.
abbrev pub removed_count : List Slot → ℕ
removed_count [] = 0
removed_count (s ∷ ss) = (if is_removed s then 1 else 0) + removed_count ss

-- The slots without those of removed clauses.
abbrev pub slots_not_removed : List Slot → List Slot
slots_not_removed = filter (λ s. not (is_removed s))

-- `CompactsOrKeeps old new` holds if the removed clauses were dropped, or nothing changed.
abbrev pub CompactsOrKeeps : List Slot → List Slot → Type 0
CompactsOrKeeps old new = (new ≡ old) ⊎ (new ≡ slots_not_removed old)

-- `IsPresentAt slots id place` holds if the clause at `place` has this id and is not removed.
pub record IsPresentAt (slots : List Slot) (id place : ℕ) : Type 0 where
  pub inside : place < length slots
  pub id_is : (slot_at slots place).clause.id ≡ id
  pub there : is_removed (slot_at slots place) ≡ false

-- The slot of a new clause, with one count: redundant if the flag is true, otherwise irredundant.
abbrev pub stored_slot : Bool → ℕ → ℕ → List ℕ → Slot
stored_slot redundant id hash literals = record { clause = new_clause redundant id literals; hash = hash }

-- `is_filed hash s` is true if the clause is not removed and has this hash.
abbrev pub is_filed : ℕ → Slot → Bool
is_filed hash s = not (is_removed s) && s.hash == hash

-- The literals of the clauses that are not removed and are filed under this hash, in order of places.
abbrev pub bucket_in : ℕ → List Slot → List (List ℕ)
bucket_in hash slots = all_lits (filter (is_filed hash) slots)

-- The literals of the clauses that are filed under a hash and not removed, as a function of the hash.
abbrev pub bucket_of : List Slot → ℕ → List (List ℕ)
bucket_of slots hash = bucket_in hash slots

-- The number of literals of the clauses that are not removed.
abbrev pub live_literal_count : List Slot → ℕ
live_literal_count slots = total_length (map (λ c. c.literals) (live_clauses slots))

-- The places of the clauses that are not removed and are filed under this hash, increasing, if the first slot is at
-- `place`.
abbrev pub places_from : ℕ → ℕ → List Slot → List ℕ
places_from place hash [] = []
places_from place hash (s ∷ ss) = if is_filed hash s then place ∷ places_from (place + 1) hash ss else places_from (place + 1) hash ss

-- The places of the clauses that are not removed and are filed under this hash, increasing. The first slot is at place
-- 0.
abbrev pub places_of : ℕ → List Slot → List ℕ
places_of hash slots = places_from 0 hash slots

-- `is_same_at slots literals place` is true if the clause at `place`, removed or not, has exactly these literals.
abbrev pub is_same_at : List Slot → List ℕ → ℕ → Bool
is_same_at slots literals place = same_literals (literals_at slots place) literals

-- The first of the places whose clause has these literals, or `None`.
abbrev pub found_among : List Slot → List ℕ → List ℕ → Option ℕ
found_among slots literals = find (is_same_at slots literals)

-- The slot with the hash of its clause by these solver names, at this width. The slot of a removed clause is unchanged.
abbrev pub hashed_by : (ℕ → Option ℕ) → ℕ → Slot → Slot
hashed_by names width s = if is_removed s then s else record s { hash = clause_hash_by names width s.clause.literals }

-- The slots with the hashes of their clauses by these solver names, at this width. The slots of removed clauses are
-- unchanged.
abbrev pub all_hashed_by : (ℕ → Option ℕ) → ℕ → List Slot → List Slot
all_hashed_by names width = map (hashed_by names width)

-- The slots with the hashes of their clauses by this hasher. The slots of removed clauses are unchanged.
abbrev pub rehashed_slots : ClauseHasher → List Slot → List Slot
rehashed_slots h slots = all_hashed_by (solver_name_of h) (width_of h) slots
