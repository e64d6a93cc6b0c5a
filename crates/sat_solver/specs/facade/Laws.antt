-- Laws about solvers, in terms of what callers see.
use Rattle.std.specs.Prelude.{◌≡◌, None, Some, List, Result, Ok, Err}
use Rattle.sat_base.specs.device.Device.{Writer}
use Rattle.sat_base.specs.device.Sink.{empty_sink}
use Rattle.sat_base.specs.steps.Steps.{Step}
use Rattle.sat_solver.specs.declared.config.SolverConfigUpdate.{SolverConfigUpdate}
use Rattle.sat_solver.specs.declared.error.SolverError.{SolverError}
use Rattle.sat_solver.specs.declared.proof.format.ProofFormat.{ProofFormat}
use Rattle.sat_solver.specs.proof.Counting.{nothing_counted}
use Rattle.sat_solver.specs.proof.ProofTexts.{ReceivedText}
use Rattle.sat_solver.specs.proof.ProofView.{Target, Open, TargetReceives, ReturnsWriter}
use Rattle.sat_solver.specs.solver.Calls.{IsFlushed}
use Rattle.sat_solver.specs.facade.View.{SolverView}
use Rattle.sat_solver.specs.facade.Calls.{FailsAfterSteps, MakesSteps, ReachesBySteps}
use Rattle.sat_solver.specs.facade.Configuring.{Configures}
use Rattle.sat_solver.specs.facade.Proving.{AddsProcessor, ClosesProof, ClosesText, EnablesChecking}

-- `CallsReachBySteps old new` holds if `ReachesBySteps old new` follows from what the contract of any one call says of
-- `old` and `new`, whatever its result is; only calls that open a proof or return the target are excepted
pub record CallsReachBySteps {L : Type 0} (old new : SolverView L) : Type 0 where
  -- `WritesSteps` of a call that returned `Ok`
  pub makes : MakesSteps old new → ReachesBySteps old new
  -- `WritesSteps` of a call that returned an error
  pub breaks : (e : SolverError) → FailsAfterSteps e old new → ReachesBySteps old new
  pub stays : new ≡ old → ReachesBySteps old new
  pub configures : (r : Result (Unit {0}) SolverError) (u : SolverConfigUpdate) → Configures r u old new → ReachesBySteps old new
  pub enables : (r : Result (Unit {0}) SolverError) → EnablesChecking r old new → ReachesBySteps old new
  pub listens : (r : Result (Unit {0}) SolverError) (processor : L) → AddsProcessor r processor old new → ReachesBySteps old new
  pub closes_none : ClosesProof (Ok None) old new → ReachesBySteps old new
  pub closing_fails : (e : SolverError) → ClosesText (Err e) old new → ReachesBySteps old new

-- `ReachingAddsUp L` holds if `ReachesBySteps` is transitive, so that it holds across any number of calls; `L` is the
-- type of the listeners
abbrev pub ReachingAddsUp : Type 0 → Type 0
ReachingAddsUp L = (a b c : SolverView L) → ReachesBySteps a b → ReachesBySteps b c → ReachesBySteps a c

-- `FlushedIsText` holds if every target that was opened, received steps without a failed call and was then flushed has
-- received the complete text of these steps when it is returned
abbrev pub FlushedIsText : Type 0
FlushedIsText = (f : ProofFormat) (from given : Writer) (steps : List Step) (now : Target)
    → TargetReceives (Open f nothing_counted (empty_sink from)) steps now → IsFlushed now → ReturnsWriter now (Some given) → ReceivedText f from given steps
