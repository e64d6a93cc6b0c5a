-- Which steps a call may make. Lists of steps have the newest first.
use Rattle.std.specs.Prelude.{ℕ, ◌≡◌, Bool, true, false, List, [], ◌∷◌, ◌++◌}
use Rattle.sat_base.specs.steps.Steps.{Satisfied, Step, AddClause, DeleteClause, ChangeHashBits}
use Rattle.sat_checker.specs.LiteralSets.{canonical}
use Rattle.sat_solver.specs.session.Session.{session_after}

-- `EachIsAllowed Allows earlier steps` holds if `Allows` holds for each of `steps` (newest first), given all steps
-- before it, those of `earlier` included
abbrev pub EachIsAllowed : (List Step → Step → Type 0) → (earlier steps : List Step) → Type 0
EachIsAllowed Allows earlier [] = Unit {0}
EachIsAllowed Allows earlier (step ∷ steps) = EachIsAllowed Allows earlier steps × Allows (steps ++ earlier) step

-- `OnlyAllowedSteps Allows from to` holds if `to` is `from` with further, newer steps, and `Allows` holds for each of
-- these, given all steps before it
pub record OnlyAllowedSteps (Allows : List Step → Step → Type 0) (from to : List Step) : Type 0 where
  pub steps : List Step
  pub following : to ≡ steps ++ from
  pub each : EachIsAllowed Allows from steps

-- `sets_width step` is true if the step changes the width of hashes
abbrev pub sets_width : Step → Bool
sets_width (ChangeHashBits bits) = true
sets_width step = false

-- `OnlyWidthAfterUnsat earlier step` holds if `step` changes the width, or unsat is not recorded after the steps
-- `earlier`
abbrev pub OnlyWidthAfterUnsat : List Step → Step → Type 0
OnlyWidthAfterUnsat earlier step = (session_after earlier).unsat ≡ true → sets_width step ≡ true

-- `IsLastAdded earlier clause` holds if the newest of the steps `earlier` added a clause with exactly the literals of
-- `clause`, in any order
pub record IsLastAdded (earlier : List Step) (clause : List ℕ) : Type 0 where
  pub added : List ℕ
  pub before : List Step
  pub last : earlier ≡ AddClause added ∷ before
  pub same : canonical clause ≡ canonical added

-- `DeletesJustAdded earlier step` holds if `step` deletes, as satisfied, the clause that the newest of the steps
-- `earlier` added, in any order of its literals; unsat is not recorded
abbrev pub DeletesJustAdded : List Step → Step → Type 0
DeletesJustAdded earlier (DeleteClause clause Satisfied) = IsLastAdded earlier clause × ((session_after earlier).unsat ≡ false)
DeletesJustAdded earlier step = ⊥
