-- How the store represents the definition's state.
use Rattle.std.specs.Prelude.{ℕ, ◌<◌, ◌≡◌, Bool, false, not, List, [], ◌∷◌, ◌++◌, Option, None, Some, is_some, if◌then◌else◌}
use Rattle.std.specs.List.{AllByRecursion}
use Rattle.sat_checker.specs.Stored.{Stored, StoredClause, clause_hash_by}
use Rattle.std.specs.Bool.{MatchBool}
use Rattle.sat_checker.specs.Storing.{clause_with, with_stored_clause, without_clause, redundant_count, irredundant_count}
use Rattle.sat_checker.specs.HasherView.{solver_name_of, width_of}
use Rattle.sat_checker.specs.inner.Marks.{IsIncreasing}
use Rattle.sat_checker.specs.inner.SlotView.{Slot, is_removed, live_clauses, slot_ids, rehashed_slots}
use Rattle.sat_checker.specs.declared.hash.ClauseHasher.{ClauseHasher}
use Rattle.sat_checker.specs.declared.store.Found.{Found}
use Rattle.sat_checker.specs.declared.store.Store.{Store}

-- `AreHashed h slots` holds if every clause that is not removed is filed under the hash that the hasher `h` gives it.
abbrev pub AreHashed : ClauseHasher → List Slot → Type 0
AreHashed h = AllByRecursion (λ s. is_removed s ≡ false → s.hash ≡ clause_hash_by (solver_name_of h) (width_of h) s.clause.literals)

-- `StoresHashed store kept solver_names bits` holds if the store has exactly the clauses `kept`, in this order, filed
-- under their hashes by these solver names, at the width `bits`, which its hasher uses, too.
pub record StoresHashed (store : Store) (kept : List StoredClause) (solver_names : ℕ → Option ℕ) (bits : ℕ) : Type 0 where
  pub clauses : live_clauses store.clauses ≡ kept
  pub hashed : AreHashed store.hasher store.clauses
  pub names : (v : ℕ) → solver_name_of store.hasher v ≡ solver_names v
  pub width : width_of store.hasher ≡ bits

-- `RepresentsClauses store f` holds if the store has the clauses of `f`, under the hashes that steps use for them.
abbrev pub RepresentsClauses : Store → Stored → Type 0
RepresentsClauses store f = StoresHashed store f.clauses f.solver_names f.width

-- The store with all clauses filed by their current hashes, if they are not filed yet.
abbrev pub rehashed : Store → Store
rehashed store = record store { clauses = (if store.stale then rehashed_slots store.hasher store.clauses else store.clauses); stale = false }

-- The redundant (true) or the irredundant count of a clause, or 0 if the clause is not stored.
abbrev pub store_count_in : Bool → Option StoredClause → ℕ
store_count_in redundant c = if redundant then redundant_count c else irredundant_count c

-- What is stored after the clause with these literals loses one count: redundant if the flag is true, otherwise
-- irredundant.
abbrev pub with_count_removed : Bool → List ℕ → Stored → Stored
with_count_removed redundant literals f = record f { clauses = without_clause redundant literals f.clauses }

-- `RemovesCountOrRefuses taken redundant literals f kept` holds if `taken` is true, `f` has these literals with a count
-- above 0 (redundant or irredundant, as the flag says) and `kept` holds, or if `taken` is false and `f` has no such
-- count.
abbrev pub RemovesCountOrRefuses : Bool → Bool → List ℕ → Stored → Type 0 → Type 0
RemovesCountOrRefuses taken redundant literals f kept = MatchBool taken ((0 < store_count_in redundant (clause_with literals f.clauses)) × kept) (0 < store_count_in redundant (clause_with literals f.clauses) → ⊥)

-- The stored clause with these literals and the id and counts that the code found, or `None` if it found none.
abbrev pub found_clause : List ℕ → Option Found → Option StoredClause
found_clause literals None = None
found_clause literals (Some c) = Some (record { id = c.id; literals = literals; irredundant = c.irredundant; redundant = c.redundant })

-- The id of the clause that was found, or `id` if there is none.
abbrev pub id_in : Option StoredClause → ℕ → ℕ
id_in None id = id
id_in (Some c) id = c.id

-- `StoreEffect store f id redundant literals stored_id is_new` holds if the store has the clauses of `f` and one more
-- count of this one, `stored_id` is its id (`id` if it is new), and `is_new` says whether it was not stored in `f`.
pub record StoreEffect (store : Store) (f : Stored) (id : ℕ) (redundant : Bool) (literals : List ℕ) (stored_id : ℕ) (is_new : Bool) : Type 0 where
  pub stored : RepresentsClauses store (record f { clauses = with_stored_clause redundant id literals f.clauses })
  pub id_is : stored_id ≡ id_in (clause_with literals f.clauses) id
  pub new_is : is_new ≡ not (is_some (clause_with literals f.clauses))

-- `AppendsNewId old new next_id is_new` holds if the ids are unchanged, except that a new clause comes last, with the
-- id `next_id`.
abbrev pub AppendsNewId : List Slot → List Slot → ℕ → Bool → Type 0
AppendsNewId old new next_id is_new = slot_ids new ≡ (if is_new then slot_ids old ++ next_id ∷ [] else slot_ids old)

-- `AreIdsInOrder ids next_id` holds if the ids are in order, and below the next id.
pub record AreIdsInOrder (ids : List ℕ) (next_id : ℕ) : Type 0 where
  pub increasing : IsIncreasing ids
  pub below : AllByRecursion (λ i. i < next_id) ids

-- `PreservesIdOrder old new` holds if the ids remain in order and below the next id, if they were so before.
abbrev pub PreservesIdOrder : List Slot → List Slot → Type 0
PreservesIdOrder old new = (next_id : ℕ) → AreIdsInOrder (slot_ids old) next_id → AreIdsInOrder (slot_ids new) next_id
