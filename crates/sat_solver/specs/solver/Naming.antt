-- Names of the engine that are introduced or hidden, or change their mode.
use Rattle.std.specs.Prelude.{ℕ, ◌+◌, ◌≡◌, ◌==◌, ◌||◌, not, length, Bool, true, false, Option, None, Some, List, [], ◌∷◌, map, Result, Ok, Err}
use Rattle.sat_base.specs.device.Device.{Writer}
use Rattle.sat_base.specs.values.Literals.{variable}
use Rattle.sat_base.specs.script.Script.{Among, Hide, Witness, Sample}
use Rattle.sat_base.specs.script.ScriptState.{ScriptState, Sampled, Witnessed, introduce, new_names, state_after_accepted, set_mode_all}
use Rattle.sat_checker.specs.declared.processing.ProofProcessor.{Ghosts}
use Rattle.sat_solver.specs.declared.error.SolverError.{SolverError}
use Rattle.sat_solver.specs.declared.error.SolverError.TheVariants as errors
use Rattle.sat_checker.specs.matching.Expected.{Expected, NewName, steps_hiding, steps_setting_mode}
use Rattle.sat_checker.specs.matching.Bridge.{LiveVariables}
use Rattle.sat_solver.specs.variables.Naming.{IsLowestUnused, NoVariableLeft}
use Rattle.sat_solver.specs.variables.Observing.{Observes, IsHidden}
use Rattle.sat_solver.specs.variables.VariableRoom.{HasVariablesFor}
use Rattle.sat_solver.specs.Models.{value_in}
use Rattle.sat_solver.specs.variables.Variables.{global_of, script_mode}
use Rattle.sat_base.specs.steps.Steps.{Step}
use Rattle.sat_solver.specs.session.AllowedSteps.{OnlyAllowedSteps}
use Rattle.sat_solver.specs.variables.NamingSteps.{IsDue, IsHidingStep, IsModeStep}
use Rattle.sat_solver.specs.session.Emitting.{EmitsSomeSteps}
use Rattle.sat_solver.specs.proof.ProofView.{IsAtWidth, has_asked}
use Rattle.sat_solver.specs.declared.solver.Engine.{Engine}
use Rattle.sat_solver.specs.solver.Adding.{EngineNameCallFails}
use Rattle.sat_solver.specs.solver.Calls.{CallEffect, EngineRefuses}
use Rattle.sat_solver.specs.solver.Whole.{SolverInvariant, steps_in}
use Rattle.sat_solver.specs.solver.View.{EngineIsInState, answer_in, assumed_in, assumptions_in, engine_has_failed, is_used, known_names, parameters_in, proof_in, schedule_in, reported_in}

-- `EngineIsAssumedName s user` holds if one of the current assumptions, positive or negative, has the name `user`
-- (counted from 0)
abbrev pub EngineIsAssumedName : {W L : Type 0} {G : Ghosts L} → Engine W L G → ℕ → Type 0
EngineIsAssumedName s user = (l : ℕ) × Among l (assumptions_in s) × (variable l ≡ user)

-- the value in the search of a proof variable: false if it has none; `None` if no variable is given
abbrev pub engine_variable_value : {W L : Type 0} {G : Ghosts L} → Engine W L G → Option ℕ → Option Bool
engine_variable_value s None = None
engine_variable_value s (Some v) = Some (value_in s.names s.context.search.parts.assignment.current v)

-- the value in the search of the variable that the name `user` refers to: false if it has none; `None` if the name is
-- not in use
abbrev pub engine_name_value : {W L : Type 0} {G : Ghosts L} → Engine W L G → ℕ → Option Bool
engine_name_value s user = engine_variable_value s (global_of s.names user)

-- `IsKeptOrFalse before now` holds if a name that wasn't in use before (`None`) is false now or still not in use, and
-- one that was in use has the same value now or isn't in use any more
abbrev pub IsKeptOrFalse : Option Bool → Option Bool → Type 0
IsKeptOrFalse None None = Unit {0}
IsKeptOrFalse (Some a) None = Unit {0}
IsKeptOrFalse None (Some b) = b ≡ false
IsKeptOrFalse (Some a) (Some b) = b ≡ a

-- `EngineNameCallEffect seen old new judge due IsAllowedStep` holds if a call over names succeeded, changed the script
-- state by `judge`, and made the ordered steps `due` and only steps that satisfy `IsAllowedStep`; the answer and values
-- of names in use are unchanged, new names are false
pub record EngineNameCallEffect {W L : Type 0} {G : Ghosts L} (seen : W → Writer) (old new : Engine W L G) (judge : ScriptState → ScriptState) (due : ScriptState → List Expected) (IsAllowedStep : List Step → Step → Type 0) : Type 0 where
  pub did : CallEffect seen old new judge due
  pub comes : OnlyAllowedSteps IsAllowedStep (steps_in old) (steps_in new)
  pub asked : has_asked (proof_in new) ≡ has_asked (proof_in old)
  pub assumed : assumed_in new ≡ assumed_in old
  pub reported : reported_in new ≡ reported_in old
  pub clock : schedule_in new ≡ schedule_in old
  pub state : answer_in new ≡ answer_in old
  pub values : (user : ℕ) → IsKeptOrFalse (engine_name_value old user) (engine_name_value new user)

-- `EngineChangesMode seen r old new user judge due IsAllowedStep` holds if `r` is the result of changing the mode of
-- the name `user` or hiding it, by the ordered steps `due`; refused if the name is assumed, or no variable is left to
-- introduce it
abbrev pub EngineChangesMode : {W L : Type 0} {G : Ghosts L} → (W → Writer) → Result (Unit {0}) SolverError → Engine W L G → Engine W L G → ℕ → (ScriptState → ScriptState) → (ScriptState → List Expected) → (List Step → Step → Type 0) → Type 0
EngineChangesMode seen (Ok x) old new user judge due IsAllowedStep = (EngineIsAssumedName old user → ⊥) × EngineNameCallEffect seen old new judge due IsAllowedStep × HasVariablesFor (known_names old) (user ∷ [])
EngineChangesMode seen (Err errors.AssumedVariable) old new user judge due IsAllowedStep = EngineRefuses old new ((engine_has_failed old ≡ false) × EngineIsAssumedName old user)
EngineChangesMode seen (Err errors.VariableLimit) old new user judge due IsAllowedStep = EngineRefuses old new ((engine_has_failed old ≡ false) × (EngineIsAssumedName old user → ⊥) × (HasVariablesFor (known_names old) (user ∷ []) → ⊥))
EngineChangesMode seen (Err errors.HasFailed) old new user judge due IsAllowedStep = EngineRefuses old new (engine_has_failed old ≡ true)
EngineChangesMode seen (Err e) old new user judge due IsAllowedStep = (EngineIsAssumedName old user → ⊥) × HasVariablesFor (known_names old) (user ∷ []) × EngineNameCallFails seen e old new

-- `EngineHides seen r old new user` holds if `r` is the result of hiding the name `user`, counted from 0; a name not in
-- use is introduced first
abbrev pub EngineHides : {W L : Type 0} {G : Ghosts L} → (W → Writer) → Result (Unit {0}) SolverError → Engine W L G → Engine W L G → ℕ → Type 0
EngineHides seen r old new user = EngineChangesMode seen r old new user (state_after_accepted (Hide ((user + 1) ∷ []))) (steps_hiding ((user + 1) ∷ [])) IsHidingStep

-- `EngineWitnesses seen r old new user` holds if `r` is the result of setting the name `user`, counted from 0, to mode
-- witness; a name not in use is introduced first
abbrev pub EngineWitnesses : {W L : Type 0} {G : Ghosts L} → (W → Writer) → Result (Unit {0}) SolverError → Engine W L G → Engine W L G → ℕ → Type 0
EngineWitnesses seen r old new user = EngineChangesMode seen r old new user (state_after_accepted (Witness ((user + 1) ∷ []))) (steps_setting_mode Witnessed ((user + 1) ∷ [])) (IsModeStep (user + 1) false)

-- `EngineSamples seen r old new user` holds if `r` is the result of setting the name `user`, counted from 0, to mode
-- sample; a name not in use is introduced first
abbrev pub EngineSamples : {W L : Type 0} {G : Ghosts L} → (W → Writer) → Result (Unit {0}) SolverError → Engine W L G → Engine W L G → ℕ → Type 0
EngineSamples seen r old new user = EngineChangesMode seen r old new user (state_after_accepted (Sample ((user + 1) ∷ []))) (steps_setting_mode Sampled ((user + 1) ∷ [])) (IsModeStep (user + 1) true)

-- `EngineIsNextName s name` holds if, in every script state that names and steps agree with, `name` (counted from 1) is
-- the lowest name that is not in use
abbrev pub EngineIsNextName : {W L : Type 0} {G : Ghosts L} → Engine W L G → ℕ → Type 0
EngineIsNextName s name = (j : ScriptState) (live : LiveVariables) → EngineIsInState s j live → IsLowestUnused j name

-- `EngineNewNameFails seen e old new` holds if a call for a new name failed with `e` or was refused: as `HasFailed`
-- after an earlier failure, as `VariableLimit` exactly when every variable of the proof is in use
abbrev pub EngineNewNameFails : {W L : Type 0} {G : Ghosts L} → (W → Writer) → SolverError → Engine W L G → Engine W L G → Type 0
EngineNewNameFails seen errors.HasFailed old new = EngineRefuses old new (engine_has_failed old ≡ true)
EngineNewNameFails seen errors.VariableLimit old new = EngineRefuses old new ((engine_has_failed old ≡ false) × NoVariableLeft (known_names old))
EngineNewNameFails seen e old new = (NoVariableLeft (known_names old) → ⊥) × EngineNameCallFails seen e old new

-- `EngineObserveFails seen e old new` holds if giving names to hidden variables failed with `e`, or was refused after
-- an earlier failure; `e` is never `VariableLimit` or `StoreFull`
abbrev pub EngineObserveFails : {W L : Type 0} {G : Ghosts L} → (W → Writer) → SolverError → Engine W L G → Engine W L G → Type 0
EngineObserveFails seen errors.HasFailed old new = EngineRefuses old new (engine_has_failed old ≡ true)
EngineObserveFails seen errors.VariableLimit old new = ⊥
EngineObserveFails seen e old new = EngineNameCallFails seen e old new

-- `EngineNewNameResult seen r old new` holds if `r` is the result of a call for a new name: it introduces the lowest
-- name that is not in use and returns it, counted from 0; or it is refused or fails
abbrev pub EngineNewNameResult : {W L : Type 0} {G : Ghosts L} → (W → Writer) → Result ℕ SolverError → Engine W L G → Engine W L G → Type 0
EngineNewNameResult seen (Ok user) old new = EngineIsNextName old (user + 1) × EngineNameCallEffect seen old new (introduce (user + 1)) (λ j. map NewName (new_names (user + 1) j)) IsDue
EngineNewNameResult seen (Err e) old new = EngineNewNameFails seen e old new

-- `EngineKeepsRest old new` holds if the parameters, the assumptions, the answer, the reported model and core, the
-- schedule, and whether an ask has begun are unchanged
pub record EngineKeepsRest {W L : Type 0} {G : Ghosts L} (old new : Engine W L G) : Type 0 where
  pub config : parameters_in new ≡ parameters_in old
  pub asked : has_asked (proof_in new) ≡ has_asked (proof_in old)
  pub assumed : assumed_in new ≡ assumed_in old
  pub reported : reported_in new ≡ reported_in old
  pub clock : schedule_in new ≡ schedule_in old
  pub state : answer_in new ≡ answer_in old

-- `StepsOfNames seen old new` holds if some steps were made and written or are pending, the invariant of the engine
-- holds after them, and the own checker is at the width of the text after a step
pub record StepsOfNames {W L : Type 0} {G : Ghosts L} (seen : W → Writer) (old new : Engine W L G) : Type 0 where
  pub whole : SolverInvariant new
  pub took : EmitsSomeSteps seen (proof_in old) (proof_in new)
  pub width : (steps_in new ≡ steps_in old → ⊥) → IsAtWidth (proof_in new)

-- `EngineObserved seen old new users` holds if every hidden variable, by increasing variable, got the next name (in
-- order, `users`) and mode witness; answer and values are unchanged. If no variable was hidden, the solver isn't marked
-- as used.
pub record EngineObserved {W L : Type 0} {G : Ghosts L} (seen : W → Writer) (old new : Engine W L G) (users : List ℕ) : Type 0 where
  pub going : engine_has_failed old ≡ false
  pub failed : engine_has_failed new ≡ false
  pub used : is_used new ≡ (is_used old || not (length users == 0))
  pub observes : (j : ScriptState) (live : LiveVariables) → EngineIsInState old j live → (k : ScriptState) × Observes 0 (steps_in old) j live (steps_in new) k users × EngineIsInState new k live
  pub all : (v : ℕ) → IsHidden (known_names new) v → ⊥
  pub values : (v : ℕ) → engine_variable_value new (Some v) ≡ engine_variable_value old (Some v)
  pub same : EngineKeepsRest old new
  pub steps : StepsOfNames seen old new

-- INSIDE

-- `SetsMode seen r old new user sample` holds if `r` is the result of setting the mode of the name `user` (counted from
-- 0) to sample if `sample` is true, otherwise to witness
abbrev pub SetsMode : {W L : Type 0} {G : Ghosts L} → (W → Writer) → Result (Unit {0}) SolverError → Engine W L G → Engine W L G → ℕ → Bool → Type 0
SetsMode seen r old new user sample = EngineChangesMode seen r old new user (set_mode_all (script_mode sample) ((user + 1) ∷ [])) (steps_setting_mode (script_mode sample) ((user + 1) ∷ [])) (IsModeStep (user + 1) sample)
