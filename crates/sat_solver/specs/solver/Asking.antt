-- Assumptions that the engine accepts.
use Rattle.std.specs.Prelude.{ℕ, ◌≡◌, List, Result, Ok, Err}
use Rattle.sat_base.specs.device.Device.{Writer}
use Rattle.sat_base.specs.script.ScriptState.{introduce_all}
use Rattle.sat_checker.specs.declared.processing.ProofProcessor.{Ghosts}
use Rattle.sat_checker.specs.matching.Expected.{Outcome}
use Rattle.sat_solver.specs.declared.error.SolverError.{SolverError}
use Rattle.sat_solver.specs.variables.Calls.{ChangesScriptState}
use Rattle.sat_solver.specs.variables.NamingSteps.{IsLiteralsStep}
use Rattle.sat_solver.specs.session.AllowedSteps.{OnlyAllowedSteps}
use Rattle.sat_solver.specs.variables.Refusing.{names_in}
use Rattle.sat_solver.specs.session.Emitting.{EmitsSomeSteps}
use Rattle.sat_solver.specs.proof.ProofView.{IsAtWidth, has_asked}
use Rattle.sat_solver.specs.declared.solver.Engine.{Engine}
use Rattle.sat_solver.specs.solver.Adding.{ForgetsAnswer, due_for_assumptions}
use Rattle.sat_solver.specs.solver.AddingToSearch.{NameStepsFailWithStoredError}
use Rattle.sat_solver.specs.solver.Whole.{SolverPartsInvariant, steps_in}

-- `AcceptsAssumptions seen old new user` holds if names, search and proof have accepted the assumptions `user`, with
-- the steps for them, but the engine's own list over names still has the earlier ones
pub record AcceptsAssumptions {W L : Type 0} {G : Ghosts L} (seen : W → Writer) (old new : Engine W L G) (user : List ℕ) : Type 0 where
  pub whole : SolverPartsInvariant new.context new.names new.asked user new.reported.failed_core.items new.clock.restarts.scale new.state
  pub does : (o : Outcome) → ChangesScriptState old.names new.names (steps_in old) (steps_in new) (introduce_all (names_in user)) (due_for_assumptions o user)
  pub comes : OnlyAllowedSteps (IsLiteralsStep (names_in user)) (steps_in old) (steps_in new)
  pub took : EmitsSomeSteps seen old.context.proof new.context.proof
  pub asked : has_asked new.context.proof ≡ has_asked old.context.proof
  pub width : (steps_in new ≡ steps_in old → ⊥) → IsAtWidth new.context.proof
  pub failed : new.failed ≡ old.failed
  pub used : new.used ≡ old.used
  pub config : new.context.config ≡ old.context.config
  pub state : ForgetsAnswer old.state new.state

-- `SetAssumptionsResult seen r old new user` holds if `r` is the result of setting the assumptions `user`, before the
-- engine's own list over names is updated: they were accepted, or some steps were made and an error is stored
abbrev pub SetAssumptionsResult : {W L : Type 0} {G : Ghosts L} → (W → Writer) → Result (Unit {0}) SolverError → Engine W L G → Engine W L G → List ℕ → Type 0
SetAssumptionsResult seen (Ok x) old new user = AcceptsAssumptions seen old new user
SetAssumptionsResult seen (Err e) old new user = NameStepsFailWithStoredError ⊥ seen e old.context new.context
