-- How the script state that callers see agrees with the names and the steps of a solver.
use Rattle.std.specs.Prelude.{◌≡◌}
use Rattle.sat_base.specs.script.ScriptState.{ScriptState}
use Rattle.sat_checker.specs.matching.Bridge.{LiveVariables}
use Rattle.sat_solver.specs.variables.Calls.{NamesAgree}
use Rattle.sat_solver.specs.facade.View.{SolverView}

-- `MatchesState v` holds if the names and steps of the solver agree with its script state, for some assignment of the
-- script's identities to live proof variables
abbrev pub MatchesState : {L : Type 0} → SolverView L → Type 0
MatchesState v = (live : LiveVariables) × NamesAgree v.names v.steps v.state live

-- `IsInState v j live` holds if the script state of `v` is `j`, and names and steps agree with `j` when its identities
-- are assigned to live proof variables as `live` says
pub record IsInState {L : Type 0} (v : SolverView L) (j : ScriptState) (live : LiveVariables) : Type 0 where
  pub state : v.state ≡ j
  pub agree : NamesAgree v.names v.steps j live
