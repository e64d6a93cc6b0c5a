-- The present clauses: those stored, except units whose variable became new after they were added.
use Rattle.std.specs.Prelude.{ℕ, ◌≡◌, ◌≤◌, ◌<◌, ◌==◌, Bool, true, false, Option, None, Some, List, [], ◌∷◌, length, nat_lt, slice_index, if◌then◌else◌}
use Rattle.sat_base.specs.values.Literals.{variable}
use Rattle.sat_base.specs.values.Tables.{value_at}
use Rattle.sat_base.specs.declared.table.Table.{Table}
use Rattle.sat_checker.specs.LiteralSets.{mentions}
use Rattle.sat_checker.specs.inner.AssumedRoom.{HasClauseRoom}
use Rattle.sat_hints.specs.Hints.{and_clauses, is_long, unless_unit_of_variable}
use Rattle.sat_hints.specs.inner.Clauses.{present_clause_at, clause_in, occurrences_of, IdsBelow, PresentInvariant}
use Rattle.sat_hints.specs.inner.UsesView.{count_if_counting, uses_at}
use Rattle.sat_hints.specs.declared.active_clauses.ActiveClauses.{ActiveClauses}

-- `is_stale unit_bounds id clause` is true if the clause is a unit and its id is below the bound of its variable, which
-- is 0 at first: the variable became new after the unit was added, so the unit is not present any more.
abbrev pub is_stale : Table ℕ → ℕ → List ℕ → Bool
is_stale unit_bounds id [] = false
is_stale unit_bounds id (l ∷ []) = nat_lt id (value_at 0 unit_bounds (variable l))
is_stale unit_bounds id (l ∷ m ∷ ls) = false

-- the clause, or `None` if there is none, or if under this id it is a unit whose variable became new later
abbrev pub unless_stale : Table ℕ → ℕ → Option (List ℕ) → Option (List ℕ)
unless_stale unit_bounds id None = None
unless_stale unit_bounds id (Some c) = if is_stale unit_bounds id c then None else Some c

-- the present clause under an id, or `None` if none was stored, it is removed, or it is a unit whose variable became
-- new later
abbrev pub active_clause : ActiveClauses → ℕ → Option (List ℕ)
active_clause s id = unless_stale s.unit_bounds id (clause_in s.present id)

-- the present clauses under these ids, in their order, or `None` if one of them is not present
abbrev pub active_clauses : ActiveClauses → List ℕ → Option (List (List ℕ))
active_clauses s [] = Some []
active_clauses s (id ∷ ids) = and_clauses (active_clause s id) (active_clauses s ids)

-- `UnitBoundsWithin s bound` holds if the bound of every variable in `unit_bounds` is at most this id.
abbrev pub UnitBoundsWithin : ActiveClauses → ℕ → Type 0
UnitBoundsWithin s bound = (v : ℕ) → value_at 0 s.unit_bounds v ≤ bound

-- `ActiveClausesInvariant s` holds if the stored clauses are in order, and `uses` has for every literal how often it
-- occurs in clauses of two or more literals that are not removed, or 0 as long as counting has not begun.
pub record ActiveClausesInvariant (s : ActiveClauses) : Type 0 where
  pub store : PresentInvariant s.present
  pub counted : (l : ℕ) → uses_at s.uses l ≡ count_if_counting s.uses.counting (occurrences_of s.present l)

-- `FindsActiveClause s id place` holds if the clause under this id is present, not stale, and at this place.
pub record FindsActiveClause (s : ActiveClauses) (id place : ℕ) : Type 0 where
  pub within : place < length s.present.clauses
  pub named : slice_index s.present.ids.items place ≡ id
  pub stored : clause_in s.present id ≡ Some (present_clause_at s.present place)
  pub clause : active_clause s id ≡ Some (present_clause_at s.present place)

-- `AddsActiveClause old new id clause` holds if the clause was added under this id, which is now the largest, the other
-- present clauses and the bounds for stale units are unchanged, and the invariant holds.
pub record AddsActiveClause (old new : ActiveClauses) (id : ℕ) (clause : List ℕ) : Type 0 where
  pub active : ActiveClausesInvariant new
  pub below : (k : ℕ) → id < k → IdsBelow new.present.ids.items k
  pub unit_bounds : new.unit_bounds ≡ old.unit_bounds
  pub clauses : (j : ℕ) → active_clause new j ≡ (if j == id then Some clause else active_clause old j)

-- `RemovesActiveClause old new id` holds if no clause is present under this id, the other present clauses and the
-- bounds are the same, and the invariant holds.
pub record RemovesActiveClause (old new : ActiveClauses) (id : ℕ) : Type 0 where
  pub active : ActiveClausesInvariant new
  pub below : (k : ℕ) → IdsBelow old.present.ids.items k → IdsBelow new.present.ids.items k
  pub unit_bounds : new.unit_bounds ≡ old.unit_bounds
  pub clauses : (j : ℕ) → active_clause new j ≡ (if j == id then None else active_clause old j)

-- `IsUsed s v` holds if a present clause of two or more literals contains the variable `v`.
pub record IsUsed (s : ActiveClauses) (v : ℕ) : Type 0 where
  pub id : ℕ
  pub clause : List ℕ
  pub present : active_clause s id ≡ Some clause
  pub long : is_long clause ≡ true
  pub within : mentions clause v ≡ true

-- `MakesVariableNew old new v bound` holds if the variable `v` became new: its units are no longer present, the other
-- present clauses are the same, no bound exceeds `bound`, and the invariant holds.
pub record MakesVariableNew (old new : ActiveClauses) (v bound : ℕ) : Type 0 where
  pub active : ActiveClausesInvariant new
  pub present : new.present ≡ old.present
  pub unit_bounds : UnitBoundsWithin new bound
  pub clauses : (j : ℕ) → active_clause new j ≡ unless_unit_of_variable v (active_clause old j)

-- `HasRoomForPresent room s` holds if `room` is enough for the literals of every present clause, and for their
-- negations.
abbrev pub HasRoomForPresent : List ℕ → ActiveClauses → Type 0
HasRoomForPresent room s = (id : ℕ) (clause : List ℕ) → active_clause s id ≡ Some clause → HasClauseRoom room clause
