-- What calls of a solver change.
use Rattle.std.specs.Prelude.{◌≡◌, ◌-◌, ◌<◌, ◌^◌, true, false, List, ◌++◌, Result, Ok, Err}
use Rattle.sat_base.specs.script.ScriptState.{ScriptState}
use Rattle.sat_base.specs.steps.Steps.{Step}
use Rattle.sat_checker.specs.matching.Expected.{Expected}
use Rattle.sat_checker.specs.matching.ProofChecking.{checker_rules}
use Rattle.sat_checker.specs.matching.Traces.{HasTrace}
use Rattle.sat_solver.specs.cdcl.StepEffects.{IsFaultOr}
use Rattle.sat_solver.specs.declared.error.SolverError.{SolverError}
use Rattle.sat_solver.specs.declared.error.SolverError.TheVariants as errors
use Rattle.sat_solver.specs.proof.Prefixes.{TargetReceivesPrefix}
use Rattle.sat_solver.specs.proof.ProofView.{Target, TargetReceives, TargetFails}
use Rattle.sat_solver.specs.facade.View.{SolverView}

-- `Refuses old new why` holds if the call was refused for the reason `why`, and changed nothing
pub record Refuses {L : Type 0} (old new : SolverView L) (why : Type 0) : Type 0 where
  pub same : new ≡ old
  pub cause : why

-- `Effect old new change` holds if a call succeeded after no earlier failure, changed the script state by the function
-- `change`, left the parameters alone, and marked the solver as used
pub record Effect {L : Type 0} (old new : SolverView L) (change : ScriptState → ScriptState) : Type 0 where
  pub going : old.failed ≡ false
  pub failed : new.failed ≡ false
  pub used : new.used ≡ true
  pub parameters : new.parameters ≡ old.parameters
  pub state : new.state ≡ change old.state

-- `Fails full e old new` holds if a call failed with `e` for a reason that the input does not determine (memory,
-- target, listener, counters); from then on, every call that returns a `Result` returns `HasFailed`. `StoreFull` is
-- returned only if `full` holds.
pub record Fails {L : Type 0} (full : Type 0) (e : SolverError) (old new : SolverView L) : Type 0 where
  pub going : old.failed ≡ false
  pub failed : new.failed ≡ true
  pub fault : IsFaultOr full e

-- `NameCallFails full e old new` holds if a call over names failed with `e`, as `Fails full e old new` says, and the
-- schedule (rounds and restarts) is unchanged
pub record NameCallFails {L : Type 0} (full : Type 0) (e : SolverError) (old new : SolverView L) : Type 0 where
  pub fails : Fails full e old new
  pub clock : new.clock ≡ old.clock

-- `HasFullStore v` holds if the clause buffer has more than 2^32-1 words, so that no further clause can be stored in it
abbrev pub HasFullStore : {L : Type 0} → SolverView L → Type 0
HasFullStore v = 2 ^ 32 - 1 < v.words

-- THE ORDERED STEPS

-- `MakesOrdered old new due` holds if the ordered steps that a call made are exactly `due`, the oldest first; steps
-- that aren't ordered may be in between
abbrev pub MakesOrdered : {L : Type 0} → SolverView L → SolverView L → List Expected → Type 0
MakesOrdered old new due = HasTrace checker_rules old.steps new.steps due

-- THE TEXT OF THE STEPS

-- `MakesSteps old new` holds if some steps (or none) were made, and their text is written to an open target or pending
-- for it; a closed target only counts them, a broken one is unchanged. The list of listeners is unchanged.
pub record MakesSteps {L : Type 0} (old new : SolverView L) : Type 0 where
  pub steps : List Step
  pub history : new.steps ≡ steps ++ old.steps
  pub listening : new.listeners ≡ old.listeners
  pub target : TargetReceives old.target steps new.target

-- `TargetAfter e old steps new` holds if a call that failed with the error `e` changed the target from `old` to `new`
-- while it made `steps` (newest first): a `ProofIoError` breaks the target, otherwise it received their text
abbrev pub TargetAfter : SolverError → Target → List Step → Target → Type 0
TargetAfter (errors.ProofIoError cause) old steps new = TargetFails old steps new
TargetAfter e old steps new = TargetReceives old steps new

-- `FailsAfterSteps e old new` holds if a call that failed with the error `e` first made some steps (or none). If `e` is
-- `ProofIoError`, a call of the target failed while their text was written. The list of listeners is unchanged.
pub record FailsAfterSteps {L : Type 0} (e : SolverError) (old new : SolverView L) : Type 0 where
  pub steps : List Step
  pub history : new.steps ≡ steps ++ old.steps
  pub listening : new.listeners ≡ old.listeners
  pub target : TargetAfter e old.target steps new.target

-- `WritesSteps r old new` holds if the text of all steps that the call has made was written to an open target or is
-- pending; if `r` is `ProofIoError`, the target received only a prefix of it and is broken
abbrev pub WritesSteps : {L T : Type 0} → Result T SolverError → SolverView L → SolverView L → Type 0
WritesSteps (Ok x) old new = MakesSteps old new
WritesSteps (Err e) old new = FailsAfterSteps e old new

-- `ReachesBySteps old new` holds if some steps were made on the way from `old` to `new`, and the target received their
-- text, or a call of it failed while the text of the oldest of them was written
pub record ReachesBySteps {L : Type 0} (old new : SolverView L) : Type 0 where
  pub steps : List Step
  pub history : new.steps ≡ steps ++ old.steps
  pub target : TargetReceivesPrefix old.target steps new.target
