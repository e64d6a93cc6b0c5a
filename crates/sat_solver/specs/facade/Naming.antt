-- Names of a solver that are introduced or hidden, or change their mode.
use Rattle.std.specs.Prelude.{ℕ, ◌+◌, ◌≡◌, ◌==◌, ◌||◌, not, length, Bool, true, false, Option, None, Some, List, [], ◌∷◌, map, Result, Ok, Err}
use Rattle.sat_base.specs.values.Literals.{variable}
use Rattle.sat_base.specs.script.Script.{Among, Hide, Witness, Sample}
use Rattle.sat_base.specs.script.ScriptState.{ScriptState, NameMode, introduce, new_names, state_after_accepted}
use Rattle.sat_base.specs.steps.Steps.{Step}
use Rattle.sat_checker.specs.matching.Expected.{Expected, NewName, steps_hiding, steps_setting_mode}
use Rattle.sat_checker.specs.matching.Bridge.{IsBridge, LiveVariables}
use Rattle.sat_checker.specs.matching.ProofChecking.{checker_rules}
use Rattle.sat_solver.specs.Models.{value_in}
use Rattle.sat_solver.specs.declared.error.SolverError.{SolverError}
use Rattle.sat_solver.specs.declared.error.SolverError.TheVariants as errors
use Rattle.sat_solver.specs.session.AllowedSteps.{OnlyAllowedSteps}
use Rattle.sat_solver.specs.solver.Naming.{IsKeptOrFalse}
use Rattle.sat_solver.specs.variables.Calls.{NamesAgree}
use Rattle.sat_solver.specs.variables.Naming.{IsLowestUnused, NoVariableLeft}
use Rattle.sat_solver.specs.variables.Observing.{Observes, IsHidden}
use Rattle.sat_solver.specs.variables.VariableRoom.{HasVariablesFor}
use Rattle.sat_solver.specs.variables.Variables.{global_of}
use Rattle.sat_solver.specs.facade.View.{SolverView}
use Rattle.sat_solver.specs.facade.Calls.{Effect, NameCallFails, MakesOrdered, Refuses}

-- `IsAssumedName v user` holds if one of the current assumptions, positive or negative, has the name `user` (counted
-- from 0)
abbrev pub IsAssumedName : {L : Type 0} → SolverView L → ℕ → Type 0
IsAssumedName v user = (l : ℕ) × Among l v.assumptions × (variable l ≡ user)

-- the value in the search of a proof variable: false if it has none; `None` if no variable is given
abbrev pub variable_value : {L : Type 0} → SolverView L → Option ℕ → Option Bool
variable_value v None = None
variable_value v (Some x) = Some (value_in v.names v.values x)

-- the value in the search of the variable that `user` names: false if it has none; `None` if the name is not in use
abbrev pub name_value : {L : Type 0} → SolverView L → ℕ → Option Bool
name_value v user = variable_value v (global_of v.names user)

-- `KeepsRest old new` holds if the assumptions, the answer, the reported core, the schedule, and whether an ask has
-- begun are unchanged
pub record KeepsRest {L : Type 0} (old new : SolverView L) : Type 0 where
  pub asked : new.asked ≡ old.asked
  pub assumed : new.assumptions ≡ old.assumptions
  pub core : new.core ≡ old.core
  pub clock : new.clock ≡ old.clock
  pub answer : new.answer ≡ old.answer

-- `NameCallEffect old new change` holds if a call over names succeeded and changed the script state by `change`; the
-- answer and the values of names in use are unchanged, and new names are false
pub record NameCallEffect {L : Type 0} (old new : SolverView L) (change : ScriptState → ScriptState) : Type 0 where
  pub did : Effect old new change
  pub same : KeepsRest old new
  pub values : (user : ℕ) → IsKeptOrFalse (name_value old user) (name_value new user)

-- `ChangesMode r old new user change` holds if `r` is the result of changing the mode of the name `user` or hiding it,
-- which changes the script state by `change`; refused if the name is assumed, or no variable is left to introduce it
abbrev pub ChangesMode : {L : Type 0} → Result (Unit {0}) SolverError → SolverView L → SolverView L → ℕ → (ScriptState → ScriptState) → Type 0
ChangesMode (Ok x) old new user change = (IsAssumedName old user → ⊥) × NameCallEffect old new change × HasVariablesFor old.names (user ∷ [])
ChangesMode (Err errors.AssumedVariable) old new user change = Refuses old new ((old.failed ≡ false) × IsAssumedName old user)
ChangesMode (Err errors.VariableLimit) old new user change = Refuses old new ((old.failed ≡ false) × (IsAssumedName old user → ⊥) × (HasVariablesFor old.names (user ∷ []) → ⊥))
ChangesMode (Err errors.HasFailed) old new user change = Refuses old new (old.failed ≡ true)
ChangesMode (Err e) old new user change = (IsAssumedName old user → ⊥) × HasVariablesFor old.names (user ∷ []) × NameCallFails ⊥ e old new

-- `Hides r old new user` holds if `r` is the result of hiding the name `user`, counted from 0; a name not in use is
-- introduced first. Refused, without effect, after an earlier failure, if the name is assumed, or if no variable is
-- left to introduce it; with any other error, the call failed, and so does every later one.
abbrev pub Hides : {L : Type 0} → Result (Unit {0}) SolverError → SolverView L → SolverView L → ℕ → Type 0
Hides r old new user = ChangesMode r old new user (state_after_accepted (Hide ((user + 1) ∷ [])))

-- `Witnesses r old new user` holds if `r` is the result of setting the name `user`, counted from 0, to mode witness; a
-- name not in use is introduced first. It is refused, or fails, in the cases of `Hides`.
abbrev pub Witnesses : {L : Type 0} → Result (Unit {0}) SolverError → SolverView L → SolverView L → ℕ → Type 0
Witnesses r old new user = ChangesMode r old new user (state_after_accepted (Witness ((user + 1) ∷ [])))

-- `Samples r old new user` holds if `r` is the result of setting the name `user`, counted from 0, to mode sample; a
-- name not in use is introduced first. It is refused, or fails, in the cases of `Hides`.
abbrev pub Samples : {L : Type 0} → Result (Unit {0}) SolverError → SolverView L → SolverView L → ℕ → Type 0
Samples r old new user = ChangesMode r old new user (state_after_accepted (Sample ((user + 1) ∷ [])))

-- `IsNextName v name` holds if `name`, counted from 1, is the lowest name that is not in use, which a call for a new
-- name would introduce
abbrev pub IsNextName : {L : Type 0} → SolverView L → ℕ → Type 0
IsNextName v name = IsLowestUnused v.state name

-- `NewNameResult r old new` holds if `r` is the result of a call for a new name: it introduces the lowest name that is
-- not in use and returns it, counted from 0; `VariableLimit` only if every variable of the proof is in use
abbrev pub NewNameResult : {L : Type 0} → Result ℕ SolverError → SolverView L → SolverView L → Type 0
NewNameResult (Ok user) old new = IsNextName old (user + 1) × NameCallEffect old new (introduce (user + 1))
NewNameResult (Err errors.HasFailed) old new = Refuses old new (old.failed ≡ true)
NewNameResult (Err errors.VariableLimit) old new = Refuses old new ((old.failed ≡ false) × NoVariableLeft old.names)
NewNameResult (Err e) old new = (NoVariableLeft old.names → ⊥) × NameCallFails ⊥ e old new

-- `OnlyMakes IsAllowedStep due old new` holds if the ordered steps that a call made are those that `due` gives for the
-- old script state, and every step that it made satisfies `IsAllowedStep`
pub record OnlyMakes {L : Type 0} (IsAllowedStep : List Step → Step → Type 0) (due : ScriptState → List Expected) (old new : SolverView L) : Type 0 where
  pub ordered : MakesOrdered old new (due old.state)
  pub comes : OnlyAllowedSteps IsAllowedStep old.steps new.steps

-- the ordered steps of introducing the name `user`, counted from 0, in the script state `j`; none if it is in use
abbrev pub due_for_name : ℕ → ScriptState → List Expected
due_for_name user j = map NewName (new_names (user + 1) j)

-- the ordered steps of hiding the name `user`, counted from 0: those that introduce it if it is not in use, then the
-- one that removes it
abbrev pub due_for_hiding : ℕ → ScriptState → List Expected
due_for_hiding user = steps_hiding ((user + 1) ∷ [])

-- the ordered steps of setting the mode of the name `user`, counted from 0: only those that introduce it if it is not
-- in use, since the change of mode itself is no ordered step
abbrev pub due_for_mode : NameMode → ℕ → ScriptState → List Expected
due_for_mode mode user = steps_setting_mode mode ((user + 1) ∷ [])

-- `ObserveFails e old new` holds if giving names to hidden variables failed with `e`, or was refused after an earlier
-- failure; `e` is never `VariableLimit` or `StoreFull`
abbrev pub ObserveFails : {L : Type 0} → SolverError → SolverView L → SolverView L → Type 0
ObserveFails errors.HasFailed old new = Refuses old new (old.failed ≡ true)
ObserveFails errors.VariableLimit old new = ⊥
ObserveFails e old new = NameCallFails ⊥ e old new

-- `ObservesBetween old new users` holds if hidden variables, by increasing variable, got the next names `users` and
-- mode witness; the script state counts them under the identities that these variables always had
pub record ObservesBetween {L : Type 0} (old new : SolverView L) (users : List ℕ) : Type 0 where
  pub live : LiveVariables
  pub before : IsBridge checker_rules old.state old.steps live
  pub observes : Observes 0 old.steps old.state live new.steps new.state users
  pub agree : NamesAgree new.names new.steps new.state live

-- `Observed old new users` holds if the names `users` were given to hidden variables, and no variable is hidden any
-- more; answer, assumptions and values are unchanged. If no variable was hidden, the solver isn't marked as used.
pub record Observed {L : Type 0} (old new : SolverView L) (users : List ℕ) : Type 0 where
  pub going : old.failed ≡ false
  pub failed : new.failed ≡ false
  pub used : new.used ≡ (old.used || not (length users == 0))
  pub parameters : new.parameters ≡ old.parameters
  pub all : (x : ℕ) → IsHidden new.names x → ⊥
  pub values : (x : ℕ) → variable_value new (Some x) ≡ variable_value old (Some x)
  pub same : KeepsRest old new
