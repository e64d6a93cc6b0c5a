-- Laws about the definitions.
use Rattle.std.specs.Prelude.{ℕ, ◌<◌, ◌≡◌, ◌⊎◌, ◌↔◌, Bool, true, false, Some, None, List, [], ◌∷◌}
use Rattle.std.specs.List.{AllByRecursion}
use Rattle.sat_base.specs.values.Literals.{negated}
use Rattle.sat_base.specs.values.Clauses.{Valuation, AllLitsTrue}
use Rattle.sat_base.specs.steps.Steps.{Step, UserVarName, DeleteVar, Model, FailedAssumptions}
use Rattle.sat_checker.specs.LiteralSets.{is_among, is_tautology, canonical, same_literals}
use Rattle.sat_checker.specs.SortedSets.{IsIncreasing}
use Rattle.sat_checker.specs.Stored.{Empty, Stored, initial_variable, unit_literals, is_known, name_of, Satisfies}
use Rattle.sat_checker.specs.Accepts.{Accepts, AcceptsAll, effect, ready_after}
use Rattle.sat_checker.specs.Fold.{Holds}

-- `FormulaMatchesSteps` holds if a valuation satisfies the stored formula exactly when the accepted steps allow it.
abbrev pub FormulaMatchesSteps : Type 0
FormulaMatchesSteps = (steps : List Step) (a : Valuation) → AcceptsAll steps → Satisfies (ready_after steps) a ↔ Holds steps a

-- `UnsatMeansNoModel` holds if accepted steps that record unsat allow no valuation.
abbrev pub UnsatMeansNoModel : Type 0
UnsatMeansNoModel = (steps : List Step) (a : Valuation) → AcceptsAll steps → (ready_after steps).unsat ≡ true → Holds steps a → ⊥

-- `ModelsExtend` holds if the accepted steps allow every valuation that satisfies an accepted model and the units, and
-- if there is such a valuation.
abbrev pub ModelsExtend : Type 0
ModelsExtend = (steps : List Step) (ls : List ℕ) → AcceptsAll steps → Accepts (ready_after steps) (Model ls) →
    ((a : Valuation) → AllLitsTrue a ls → AllLitsTrue a (unit_literals (ready_after steps)) → Holds steps a)
    × ((a : Valuation) × AllLitsTrue a ls × AllLitsTrue a (unit_literals (ready_after steps)))

-- `CoresHaveNoModel` holds if no valuation that the accepted steps allow satisfies every literal of an accepted failed
-- core.
abbrev pub CoresHaveNoModel : Type 0
CoresHaveNoModel = (steps : List Step) (core hashes : List ℕ) (a : Valuation) → AcceptsAll steps → Accepts (ready_after steps) (FailedAssumptions core hashes) → Holds steps a → AllLitsTrue a core → ⊥

-- `CoresAreAssumed` holds if every literal of an accepted failed core is among the assumptions.
abbrev pub CoresAreAssumed : Type 0
CoresAreAssumed = (f : Stored) (core hashes : List ℕ) → Accepts f (FailedAssumptions core hashes) → AllByRecursion (λ l. is_among f.assumed l ≡ true) core

-- `NamedIsKnown` holds if every variable that is given a name is then known.
abbrev pub NamedIsKnown : Type 0
NamedIsKnown = (f : Stored) (v name : ℕ) → is_known v (effect (UserVarName v (Some name)) f) ≡ true

-- `KnownUntilDeleted` holds if every known variable remains known until it is deleted.
abbrev pub KnownUntilDeleted : Type 0
KnownUntilDeleted = (f : Stored) (step : Step) (v : ℕ) → is_known v f ≡ true → (is_known v (effect step f) ≡ true) ⊎ (step ≡ DeleteVar v)

-- `DeletedIsNameless` holds if no variable that may be deleted has a name.
abbrev pub DeletedIsNameless : Type 0
DeletedIsNameless = (f : Stored) (v : ℕ) → Accepts f (DeleteVar v) → name_of v f ≡ None

-- `NamesDistinct` holds if no two variables have the same name after accepted steps.
abbrev pub NamesDistinct : Type 0
NamesDistinct = (steps : List Step) (v w name : ℕ) → AcceptsAll steps → name_of v (ready_after steps) ≡ Some name → name_of w (ready_after steps) ≡ Some name → v ≡ w

-- `UnknownHasInitialData` holds if every variable that is not known after accepted steps has the data
-- `initial_variable`.
abbrev pub UnknownHasInitialData : Type 0
UnknownHasInitialData = (steps : List Step) (v : ℕ) → AcceptsAll steps → is_known v (ready_after steps) ≡ false → (ready_after steps).variables v ≡ initial_variable

-- `has_delete_var steps` is true if one of these steps deletes a variable.
abbrev pub has_delete_var : List Step → Bool
has_delete_var [] = false
has_delete_var (DeleteVar v ∷ earlier) = true
has_delete_var (step ∷ earlier) = has_delete_var earlier

-- `DeletionIsRecorded` holds if, after any steps, the deletion of a variable is recorded exactly when one of the steps
-- is `DeleteVar`.
abbrev pub DeletionIsRecorded : Type 0
DeletionIsRecorded = (steps : List Step) → (ready_after steps).var_deleted ≡ has_delete_var steps

-- `EmptyClauseIdIsAssigned` holds if after accepted steps, when the last irredundant clause is empty, its id is below
-- the next id.
abbrev pub EmptyClauseIdIsAssigned : Type 0
EmptyClauseIdIsAssigned = (steps : List Step) (id : ℕ) → AcceptsAll steps → (ready_after steps).last ≡ Empty id → id < (ready_after steps).next_id

-- `CanonicalIsSortedSet` holds if the canonical form of every list is increasing and has the same literals.
abbrev pub CanonicalIsSortedSet : Type 0
CanonicalIsSortedSet = (ls : List ℕ) → IsIncreasing (canonical ls) × ((l : ℕ) → is_among (canonical ls) l ≡ is_among ls l)

-- `TautologyHasBothSigns` holds if a clause is a tautology exactly when it contains a literal and its negation.
abbrev pub TautologyHasBothSigns : Type 0
TautologyHasBothSigns = (ls : List ℕ) → (is_tautology ls ≡ true) ↔ ((l : ℕ) × (is_among ls l ≡ true) × (is_among ls (negated l) ≡ true))

-- `SortedSetsAreEqual` holds if sorted sets with the same literals are equal.
abbrev pub SortedSetsAreEqual : Type 0
SortedSetsAreEqual = (xs ys : List ℕ) → IsIncreasing xs → IsIncreasing ys → ((l : ℕ) → is_among xs l ≡ is_among ys l) → xs ≡ ys

-- `SameLiteralsAreEqual` holds if `same_literals` is true exactly for equal lists.
abbrev pub SameLiteralsAreEqual : Type 0
SameLiteralsAreEqual = (xs ys : List ℕ) → (same_literals xs ys ≡ true) ↔ (xs ≡ ys)
