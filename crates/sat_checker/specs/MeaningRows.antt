-- Worked examples of `Holds`, of `Satisfies`, and of the bound on looks.
use Rattle.std.specs.Prelude.{ℕ, ◌==◌, ◌≡◌, true, false, List, [], ◌∷◌, map}
use Rattle.sat_base.specs.values.Clauses.{Valuation}
use Rattle.sat_base.specs.steps.Steps.{Redundant, Step, DeleteVar, AddClause, AtClause, UnitClauses, DeleteClause, FailedAssumptions, End}
use Rattle.sat_checker.specs.Stored.{Satisfies}
use Rattle.sat_checker.specs.Fold.{Holds}
use Rattle.sat_checker.specs.Looks.{most_looks, most_looks_of}
use Rattle.sat_checker.specs.Rows.{in_certificate_order, ready_by, four_clauses}

-- The valuation in which only this variable is true.
abbrev pub only_true : ℕ → Valuation
only_true v w = w == v

-- The valuation in which all variables are false.
abbrev pub none_true : Valuation
none_true v = false

-- `HoldsAfter steps a` holds if these steps, the oldest first, allow the valuation `a`.
abbrev pub HoldsAfter : List Step → Valuation → Type 0
HoldsAfter steps = Holds (in_certificate_order steps [])

-- `EitherLiteralSatisfies` holds if the step that adds [1, 2] allows the valuations where only 1 and where only 2 is
-- true, and not the one where neither is.
abbrev pub EitherLiteralSatisfies : Type 0
EitherLiteralSatisfies =
    HoldsAfter (AddClause (0 ∷ 2 ∷ []) ∷ []) (only_true 0) × HoldsAfter (AddClause (0 ∷ 2 ∷ []) ∷ []) (only_true 1)
    × (HoldsAfter (AddClause (0 ∷ 2 ∷ []) ∷ []) none_true → ⊥)

-- `FourClausesHaveNoModel` holds if no valuation satisfies the input clauses [1, 2], [1, -2], [-1, 2] and [-1, -2].
abbrev pub FourClausesHaveNoModel : Type 0
FourClausesHaveNoModel = (a : Valuation) → HoldsAfter four_clauses a → ⊥

-- `DeletedIsFree` holds if after [1] and the deletion of variable 1, it may be false, also when [2] is added later, but
-- then 2 must be true.
abbrev pub DeletedIsFree : Type 0
DeletedIsFree =
    HoldsAfter (AddClause (0 ∷ []) ∷ DeleteVar 0 ∷ []) none_true × HoldsAfter (AddClause (0 ∷ []) ∷ DeleteVar 0 ∷ AddClause (2 ∷ []) ∷ []) (only_true 1)
    × (HoldsAfter (AddClause (0 ∷ []) ∷ DeleteVar 0 ∷ AddClause (2 ∷ []) ∷ []) none_true → ⊥)

-- `OnlyAddedConstrains` holds if deriving [1], adding [2] and deleting [2] allow the valuation where only 2 is true:
-- what is derived or deleted does not matter to `Holds`.
abbrev pub OnlyAddedConstrains : Type 0
OnlyAddedConstrains = HoldsAfter (AtClause false (0 ∷ []) [] ∷ AddClause (2 ∷ []) ∷ DeleteClause (2 ∷ []) Redundant ∷ []) (only_true 1)

-- `StoredConstrains` holds if a valuation must satisfy the stored input clauses [1, 2] and [1], but need not satisfy a
-- redundant [1, 2].
abbrev pub StoredConstrains : Type 0
StoredConstrains =
    Satisfies (ready_by (AddClause (0 ∷ 2 ∷ []) ∷ [])) (only_true 0)
    × (Satisfies (ready_by (AddClause (0 ∷ 2 ∷ []) ∷ [])) none_true → ⊥)
    × Satisfies (ready_by (AtClause true (0 ∷ 2 ∷ []) [] ∷ [])) none_true
    × (Satisfies (ready_by (AddClause (0 ∷ []) ∷ [])) none_true → ⊥)

-- `UnsatExcludesAll` holds if no valuation satisfies what is stored after the empty input clause.
abbrev pub UnsatExcludesAll : Type 0
UnsatExcludesAll = (a : Valuation) → Satisfies (ready_by (AddClause [] ∷ [])) a → ⊥

-- `LooksByStepKind` holds if, after the four clauses over 1 and 2 (8 literals), the bound on looks is 40 for
-- `AddClause` and `End`, 72 for an `AtClause` with two hashes, and 56 for `UnitClauses` and `FailedAssumptions` with
-- one hash each.
abbrev pub LooksByStepKind : Type 0
LooksByStepKind =
    map (most_looks (ready_by four_clauses)) (AddClause (0 ∷ []) ∷ AtClause true (0 ∷ []) (1 ∷ 2 ∷ []) ∷ UnitClauses ((0, 1) ∷ []) ∷ FailedAssumptions [] (1 ∷ []) ∷ End ∷ [])
    ≡ 40 ∷ 72 ∷ 56 ∷ 56 ∷ 40 ∷ []

-- `LooksOfThreeSteps` holds if the bound on the looks of the steps that add [1, 2], add [3] and end is 20 in total: 0
-- for the first, when nothing is stored, and 10 for each other.
abbrev pub LooksOfThreeSteps : Type 0
LooksOfThreeSteps = most_looks_of (in_certificate_order (AddClause (0 ∷ 2 ∷ []) ∷ AddClause (4 ∷ []) ∷ End ∷ []) []) ≡ 20
