-- The stored clauses, by their ids.
use Rattle.std.specs.Prelude.{ℕ, ◌+◌, ◌==◌, ◌≡◌, ◌<◌, Bool, Option, None, Some, List, [], ◌∷◌, length, slice_index, slice_index_or, if◌then◌else◌}
use Rattle.std.specs.List.{AllByRecursion}
use Rattle.sat_checker.specs.SortedSets.{IsIncreasing}
use Rattle.sat_checker.specs.inner.OccurrenceView.{times_in}
use Rattle.sat_hints.specs.Hints.{is_long}
use Rattle.sat_hints.specs.declared.present.Present.{Present}

-- the clause under an id in lists of ids, of their clauses, and of flags, true for removed clauses; `None` if it is not
-- listed or is removed
abbrev pub listed_clause : ℕ → List ℕ → List (List ℕ) → List Bool → Option (List ℕ)
listed_clause id [] cs gs = None
listed_clause id (i ∷ is) [] gs = None
listed_clause id (i ∷ is) (c ∷ cs) [] = None
listed_clause id (i ∷ is) (c ∷ cs) (g ∷ gs) = if id == i then (if g then None else Some c) else listed_clause id is cs gs

-- the clause under an id, or `None` if none was stored or it is removed
abbrev pub clause_in : Present → ℕ → Option (List ℕ)
clause_in p id = listed_clause id p.ids.items p.clauses p.removed.items

-- the clause at a place, counted from 0 and removed or not; the empty clause if there is no such place
abbrev pub present_clause_at : Present → ℕ → List ℕ
present_clause_at p place = slice_index_or p.clauses place []

-- how often a literal occurs in the clause, if the clause has two or more literals, otherwise 0
abbrev pub count_in_long : ℕ → List ℕ → ℕ
count_in_long l clause = if is_long clause then times_in l clause else 0

-- how often a literal occurs in the clauses of two or more literals that are not removed, by their flags
abbrev pub count_in_kept : ℕ → List (List ℕ) → List Bool → ℕ
count_in_kept l [] gs = 0
count_in_kept l (c ∷ cs) [] = 0
count_in_kept l (c ∷ cs) (g ∷ gs) = (if g then 0 else count_in_long l c) + count_in_kept l cs gs

-- how often a literal occurs in the clauses of two or more literals that are not removed
abbrev pub occurrences_of : Present → ℕ → ℕ
occurrences_of p l = count_in_kept l p.clauses p.removed.items

-- `IdsBelow ids bound` holds if all ids are below the bound.
abbrev pub IdsBelow : List ℕ → ℕ → Type 0
IdsBelow ids bound = (i : ℕ) → i < length ids → slice_index ids i < bound

-- `PresentInvariant p` holds if every id has a flag and a clause, the clauses are sorted sets, and the ids increase.
pub record PresentInvariant (p : Present) : Type 0 where
  pub clauses : length p.clauses ≡ length p.ids.items
  pub removed : length p.removed.items ≡ length p.ids.items
  pub rises : (i j : ℕ) → i < j → j < length p.ids.items → slice_index p.ids.items i < slice_index p.ids.items j
  pub sets : AllByRecursion IsIncreasing p.clauses

-- `FindsPresentClause p id place` holds if the clause under this id is stored, not removed, and at this place.
pub record FindsPresentClause (p : Present) (id place : ℕ) : Type 0 where
  pub within : place < length p.clauses
  pub named : slice_index p.ids.items place ≡ id
  pub clause : clause_in p id ≡ Some (present_clause_at p place)

-- `AddsPresentClause old new id clause` holds if the clause was added under this id, which is now the largest, the
-- other clauses are unchanged, and the store is in order.
pub record AddsPresentClause (old new : Present) (id : ℕ) (clause : List ℕ) : Type 0 where
  pub store : PresentInvariant new
  pub below : (k : ℕ) → id < k → IdsBelow new.ids.items k
  pub clauses : (j : ℕ) → clause_in new j ≡ (if j == id then Some clause else clause_in old j)
  pub times : (l : ℕ) → occurrences_of new l ≡ occurrences_of old l + count_in_long l clause
  pub longer : length new.ids.items ≡ length old.ids.items + 1

-- `RemovesPresentClause old new id` holds if no clause is left under this id, the other clauses are the same, and the
-- store is in order.
pub record RemovesPresentClause (old new : Present) (id : ℕ) : Type 0 where
  pub store : PresentInvariant new
  pub below : (k : ℕ) → IdsBelow old.ids.items k → IdsBelow new.ids.items k
  pub clauses : (j : ℕ) → clause_in new j ≡ (if j == id then None else clause_in old j)
  pub times : (c : List ℕ) → clause_in old id ≡ Some c → (l : ℕ) → occurrences_of new l + count_in_long l c ≡ occurrences_of old l

-- `SamePresentClauses old new` holds if the clauses that are not removed are the same, and the store is in order.
pub record SamePresentClauses (old new : Present) : Type 0 where
  pub store : PresentInvariant new
  pub below : (k : ℕ) → IdsBelow old.ids.items k → IdsBelow new.ids.items k
  pub clauses : (j : ℕ) → clause_in new j ≡ clause_in old j
  pub times : (l : ℕ) → occurrences_of new l ≡ occurrences_of old l
