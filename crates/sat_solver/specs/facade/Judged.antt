-- How calls change the script state of a solver.
use Rattle.std.specs.Prelude.{ℕ, ◌+◌, ◌*◌, Option, None, Some, List, [], ◌∷◌, drop, length, if◌then◌else◌}
use Rattle.sat_base.specs.script.Script.{Hide, Witness, Sample}
use Rattle.sat_base.specs.script.ScriptState.{ScriptState, introduce, introduce_all, state_after_accepted}
use Rattle.sat_base.specs.steps.Steps.{Step}
use Rattle.sat_checker.specs.matching.Bridge.{IsBridge, LiveVariables}
use Rattle.sat_checker.specs.matching.ProofChecking.{checker_rules}
use Rattle.sat_solver.specs.variables.Calls.{NamesAgree}
use Rattle.sat_solver.specs.variables.Observing.{Observes}
use Rattle.sat_solver.specs.variables.Refusing.{names_in}
use Rattle.sat_solver.specs.solver.Adding.{with_added}
use Rattle.sat_solver.specs.declared.facade.judged.Call.{Call}
use Rattle.sat_solver.specs.declared.facade.judged.Call.TheVariants as calls
use Rattle.sat_solver.specs.declared.facade.judged.Change.{Change}
use Rattle.sat_solver.specs.declared.variables.Variables.{Variables}

-- the script state after the new name with index `user` (counted from 0) was introduced; unchanged for `None`. Script
-- states count names from 1.
abbrev pub state_after_name : Option ℕ → ScriptState → ScriptState
state_after_name None j = j
state_after_name (Some user) j = introduce (user + 1) j

-- the script state after this call, if it succeeded; names in calls are counted from 0, in script states from 1
abbrev pub state_after_call : Call → ScriptState → ScriptState
state_after_call (calls.AddClause lits) j = with_added lits.now j
state_after_call (calls.Assume lits) j = introduce_all (names_in lits.now) j
state_after_call (calls.HideVar user) j = state_after_accepted (Hide ((user + 1) ∷ [])) j
state_after_call (calls.WitnessVar user) j = state_after_accepted (Witness ((user + 1) ∷ [])) j
state_after_call (calls.SampleVar user) j = state_after_accepted (Sample ((user + 1) ∷ [])) j
state_after_call (calls.NewVar user) j = state_after_name user j

-- the script state after a call: changed as the call says if it succeeded (`change.done`), otherwise unchanged
abbrev pub state_after_change : Change → ScriptState → ScriptState
state_after_change change j = if change.done then state_after_call change.call j else j

-- `steps_before steps users` is `steps` (newest first) without the newest ones, two for each name in `users`: the steps
-- before hidden variables got these names
abbrev pub steps_before : List Step → (users : List ℕ) → List Step
steps_before steps users = drop (2 * length users) steps

-- `IsObserved j k n steps users` holds if the newest of `steps` gave the names `users` to hidden variables, which
-- changed the script state from `j` to `k`; the names `n` and the steps agree with `k`
pub record IsObserved (j k : ScriptState) (n : Variables) (steps : List Step) (users : List ℕ) : Type 0 where
  pub live : LiveVariables
  pub before : IsBridge checker_rules j (steps_before steps users) live
  pub observes : Observes 0 (steps_before steps users) j live steps k users
  pub agree : NamesAgree n steps k live

-- `CanBeObserved j n steps users` holds if some script state arises from `j` when the newest of `steps` give the names
-- `users` to hidden variables; the names `n` and the steps agree with that state
abbrev pub CanBeObserved : ScriptState → Variables → List Step → (users : List ℕ) → Type 0
CanBeObserved j n steps users = (k : ScriptState) × IsObserved j k n steps users
