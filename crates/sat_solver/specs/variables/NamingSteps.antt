-- Which steps a call over names may make. Lists of steps have the newest first.
use Rattle.std.specs.Prelude.{ℕ, ◌≡◌, ◌≢◌, ◌<◌, ◌⊎◌, Bool, true, false, Option, None, Some, List, ◌∷◌}
use Rattle.sat_base.specs.script.Script.{Among}
use Rattle.sat_base.specs.steps.Steps.{Step, SolverVarName, UserVarName, DeleteVar, ChangeSamplingMode, DeleteClause, ChangeHashBits}
use Rattle.sat_checker.specs.Stored.{Mode, Sample, Witness}
use Rattle.sat_solver.specs.session.AllowedSteps.{DeletesJustAdded}
use Rattle.sat_solver.specs.session.Session.{Session, session_after}
use Rattle.sat_checker.specs.matching.Checking.{is_ordered, variable_named}
use Rattle.sat_solver.specs.variables.Variables.{data_at, solver_of}
use Rattle.sat_solver.specs.declared.variables.Variables.{Variables}

-- `IsNextVariable s user v` holds if `v` is the proof variable for a new name `user` (counted from 0): the one with the
-- same number if it is not known in the session, otherwise the lowest one not known
abbrev pub IsNextVariable : Session → ℕ → ℕ → Type 0
IsNextVariable s user v = ((s.variables user).known ≡ false → v ≡ user) × ((s.variables user).known ≡ true → ((s.variables v).known ≡ false) × ((w : ℕ) → w < v → (s.variables w).known ≡ true))

-- `IsNextIndexInSession s index` holds if `index` is the lowest one that no variable of the session has; never for
-- `None`
abbrev pub IsNextIndexInSession : Session → Option ℕ → Type 0
IsNextIndexInSession s None = ⊥
IsNextIndexInSession s (Some x) = ((v : ℕ) → s.solver_names v ≡ Some x → ⊥) × ((y : ℕ) → y < x → (v : ℕ) × (s.solver_names v ≡ Some y))

-- `IsDue earlier step` holds if `step` is an ordered step; if it gives a name, it gives it to the next variable: the
-- one with the name's number if free, otherwise the lowest free one
abbrev pub IsDue : List Step → Step → Type 0
IsDue earlier (UserVarName v (Some user)) = IsNextVariable (session_after earlier) user v
IsDue earlier step = is_ordered step ≡ true

-- `IsLiteralsStep names earlier step` holds if `step` is ordered (and as `IsDue` says), changes the width, or gives the
-- lowest free index to the variable of one of `names` (counted from 1) that has no index
abbrev pub IsLiteralsStep : List ℕ → List Step → Step → Type 0
IsLiteralsStep names earlier (SolverVarName v index) = IsNextIndexInSession (session_after earlier) index × ((session_after earlier).solver_names v ≡ None) × ((name : ℕ) × Among name names × (variable_named earlier name ≡ Some v))
IsLiteralsStep names earlier (ChangeHashBits bits) = Unit {0}
IsLiteralsStep names earlier step = IsDue earlier step

-- `IsClauseStep names earlier step` holds if `step` is one that setting literals with these names may make
-- (`IsLiteralsStep`), or deletes the clause that the last step added, since one of its literals is true
abbrev pub IsClauseStep : List ℕ → List Step → Step → Type 0
IsClauseStep names earlier (DeleteClause clause proof) = DeletesJustAdded earlier (DeleteClause clause proof)
IsClauseStep names earlier step = IsLiteralsStep names earlier step

-- `IsHiddenLast earlier v` holds if the newest of the steps `earlier` removed the name of variable `v`, which has no
-- index
pub record IsHiddenLast (earlier : List Step) (v : ℕ) : Type 0 where
  pub before : List Step
  pub last : earlier ≡ UserVarName v None ∷ before
  pub without : (session_after earlier).solver_names v ≡ None

-- `IsHidingStep earlier step` holds if `step` is an ordered step as `IsDue` says, or deletes a variable without an
-- index right after the step that removes its name
abbrev pub IsHidingStep : List Step → Step → Type 0
IsHidingStep earlier (DeleteVar v) = IsHiddenLast earlier v
IsHidingStep earlier step = IsDue earlier step

-- `LeavesNoIdleVariable steps` holds if the newest step did not remove the name of a variable without an index; such a
-- variable must be deleted at once, by a further step
abbrev pub LeavesNoIdleVariable : List Step → Type 0
LeavesNoIdleVariable steps = (v : ℕ) → IsHiddenLast steps v → ⊥

-- the checker's mode for the flag of a step: sample if it is true, witness otherwise
abbrev pub mode_of_flag : Bool → Mode
mode_of_flag true = Sample
mode_of_flag false = Witness

-- `ChangesModeTo s v sample` holds if variable `v` of the session does not have the mode that the flag sets: sample if
-- it is true, witness otherwise
abbrev pub ChangesModeTo : Session → ℕ → Bool → Type 0
ChangesModeTo s v sample = (s.variables v).mode ≢ mode_of_flag sample

-- `IsModeStep name sample earlier step` holds if `step` is an ordered step as `IsDue` says, or sets the mode of the
-- variable of `name` (counted from 1) to sample or, if the flag is false, witness, and the variable had another mode
abbrev pub IsModeStep : ℕ → Bool → List Step → Step → Type 0
IsModeStep name sample earlier (ChangeSamplingMode v mode) = (variable_named earlier name ≡ Some v) × (mode ≡ sample) × ChangesModeTo (session_after earlier) v mode
IsModeStep name sample earlier step = IsDue earlier step

-- INSIDE

-- `DeletesIdleVariable n from to v` holds if exactly one step was made, which deletes variable `v`, since it has no
-- index; or no step was made, since the variable is assumed or has an index
abbrev pub DeletesIdleVariable : Variables → List Step → List Step → ℕ → Type 0
DeletesIdleVariable n from to v =
    ((to ≡ DeleteVar v ∷ from) × (solver_of n v ≡ None)) ⊎ ((to ≡ from) × (((data_at n v).assumed ≡ true) ⊎ (solver_of n v ≢ None)))
