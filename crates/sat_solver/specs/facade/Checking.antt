-- What a call of a solver means for the solver's own checker.
use Rattle.std.specs.Prelude.{◌≡◌, ◌⊎◌, false, Bool, Option, None, Some, List, Result, Ok, Err, MatchOption}
use Rattle.anyhow.specs.declared.error.Error.{Error}
use Rattle.sat_base.specs.steps.Steps.{Step}
use Rattle.sat_checker.specs.announcements.Announcements.{Notice}
use Rattle.sat_checker.specs.listeners.Notifying.{Listeners}
use Rattle.sat_checker.specs.declared.processing.Nobody.{Nobody}
use Rattle.sat_solver.specs.proof.Checked.{FailsWhileHeard}
use Rattle.sat_solver.specs.proof.EmittedView.{HasListeners}
use Rattle.sat_solver.specs.declared.error.SolverError.{SolverError}
use Rattle.sat_solver.specs.declared.error.SolverError.TheVariants as errors
use Rattle.sat_solver.specs.declared.proof.emitted.CheckFault.{CheckFault}
use Rattle.sat_solver.specs.declared.proof.emitted.CheckFault.TheVariants as checks
use Rattle.sat_solver.specs.declared.state.SatState.TheVariants as states
use Rattle.sat_solver.specs.facade.View.{SolverView}

-- `IsAtWidth v` holds if there is no own checker, or it has missed a step, or it was last set to the width of hashes in
-- the text of the steps
abbrev pub IsAtWidth : {L : Type 0} → SolverView L → Type 0
IsAtWidth v = v.lost ≡ false → MatchOption v.checking.own (Unit {0}) (λ own. own.width ≡ v.checking.width)

-- `AllStepsReported v` holds if there is no own checker, or it has received every step, and no unit conflict is pending
-- in it
abbrev pub AllStepsReported : {L : Type 0} → SolverView L → Type 0
AllStepsReported v = MatchOption v.checking.own (Unit {0}) (λ own. (v.lost ≡ false) × (own.has_conflict ≡ false))

-- `KeepsWidth old new` holds if no step was made, or the own checker, if any, is now set to the width of the text's
-- hashes (or has missed a step)
abbrev pub KeepsWidth : {L : Type 0} → SolverView L → SolverView L → Type 0
KeepsWidth old new = (new.steps ≡ old.steps → ⊥) → IsAtWidth new

-- `ReportsAsk old new` holds if the own checker, if any, has received every step, no unit conflict is pending in it,
-- and after a step it is set to the width of the text's hashes
abbrev pub ReportsAsk : {L : Type 0} → SolverView L → SolverView L → Type 0
ReportsAsk old new = KeepsWidth old new × AllStepsReported new

-- `takes` says how a listener changes with an announcement
module _ {L : Type 0} (takes : L → Notice → Result Unit Error → L → Type 0) where
  -- `FailsAfterHearing added steps fault` holds if a checker with the listeners `added`, each as it was added, can fail
  -- with `fault` at one of `steps` (newest first) or at a unit conflict pending after them
  pub record FailsAfterHearing (added : List L) (steps : List Step) (fault : CheckFault) : Type 0 where
    pub now : Listeners L Nobody
    pub heard : FailsWhileHeard takes added now steps fault

  -- `CheckerFailed fault v` holds if there is an own checker, and it failed with `fault` at one of the steps of `v` or
  -- at a pending unit conflict; if `fault` is a listener's error, there is a listener
  abbrev pub CheckerFailed : CheckFault → SolverView L → Type 0
  CheckerFailed fault v = MatchOption v.listeners ⊥ (λ added. ∥ FailsAfterHearing added v.steps fault ∥₁ × HasListeners fault (Some added))

  -- `CheckerAfterError e old new` holds if the own checker agrees with the error `e`: a listener's error or
  -- `CounterEnd` came from it, as did `OutOfMemory` unless `lost` is unchanged. After any other error but
  -- `ProofIoError`, `lost` is unchanged: the checker has missed a step now exactly if it had before.
  abbrev pub CheckerAfterError : SolverError → SolverView L → SolverView L → Type 0
  CheckerAfterError (errors.ProofIoError cause) old new = Unit {0}
  CheckerAfterError (errors.ProofProcessorError cause) old new = CheckerFailed (checks.Processor cause) new
  CheckerAfterError errors.CounterEnd old new = CheckerFailed checks.CounterEnd new
  CheckerAfterError errors.OutOfMemory old new = (new.lost ≡ old.lost) ⊎ CheckerFailed checks.OutOfMemory new
  CheckerAfterError e old new = new.lost ≡ old.lost

  -- `CheckerAfter r old new` holds if the own checker agrees with the result `r` of a call: after `Ok` it is at the
  -- width of the text if a step was made; after an error `e`, as `CheckerAfterError e` says
  abbrev pub CheckerAfter : {T : Type 0} → Result T SolverError → SolverView L → SolverView L → Type 0
  CheckerAfter (Ok x) old new = KeepsWidth old new
  CheckerAfter (Err e) old new = CheckerAfterError e old new

  -- `FlushFails e new` holds if an ask with a known answer can fail with `e`: with `ProofIoError`, or with a listener's
  -- error, `CounterEnd` or `OutOfMemory` if the own checker failed so
  abbrev pub FlushFails : SolverError → SolverView L → Type 0
  FlushFails (errors.ProofIoError cause) new = Unit {0}
  FlushFails (errors.ProofProcessorError cause) new = CheckerFailed (checks.Processor cause) new
  FlushFails errors.CounterEnd new = CheckerFailed checks.CounterEnd new
  FlushFails errors.OutOfMemory new = CheckerFailed checks.OutOfMemory new
  FlushFails e new = ⊥

  -- `FailedAskChecks e old new` holds if the own checker agrees with an ask that failed with `e`; if the answer was
  -- known before, only the target or the own checker failed
  pub record FailedAskChecks (e : SolverError) (old new : SolverView L) : Type 0 where
    pub after : CheckerAfterError e old new
    pub known : (old.answer ≡ states.Unknown → ⊥) → FlushFails e new

  -- `CheckerAfterAsk r old new` holds if the own checker agrees with the result `r` of an ask: after an answer or
  -- `Interrupted` it has received and announced everything; after a refusal `lost` is unchanged
  abbrev pub CheckerAfterAsk : Result Bool SolverError → SolverView L → SolverView L → Type 0
  CheckerAfterAsk (Ok sat) old new = ReportsAsk old new
  CheckerAfterAsk (Err errors.Interrupted) old new = ReportsAsk old new
  CheckerAfterAsk (Err errors.HasFailed) old new = new.lost ≡ old.lost
  CheckerAfterAsk (Err e) old new = FailedAskChecks e old new

  -- `CheckerAfterLast e old new` holds if `e` is not `OutOfMemory`, or no step was made, or the own checker ran out of
  -- memory: so memory can't run out elsewhere once the last step of a proof is made
  abbrev pub CheckerAfterLast : SolverError → SolverView L → SolverView L → Type 0
  CheckerAfterLast errors.OutOfMemory old new = (new.steps ≡ old.steps) ⊎ CheckerFailed checks.OutOfMemory new
  CheckerAfterLast e old new = Unit {0}

  -- `CheckerAfterClosing r old new` holds if the own checker agrees with the result `r` of closing a proof: if a target
  -- is returned, it has received every step and has announced everything
  abbrev pub CheckerAfterClosing : {T : Type 0} → Result (Option T) SolverError → SolverView L → SolverView L → Type 0
  CheckerAfterClosing (Ok None) old new = Unit {0}
  CheckerAfterClosing (Ok (Some given)) old new = AllStepsReported new
  CheckerAfterClosing (Err e) old new = CheckerAfterError e old new × CheckerAfterLast e old new
