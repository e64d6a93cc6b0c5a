-- What contracts see of a checker: the accepted steps (input clauses included), whether it has failed, and what its
-- listeners received.
use Rattle.std.specs.Prelude.{ℕ, ◌≡◌, ◌⊎◌, Bool, true, false, List, ◌∷◌, Result, Ok, Err, IfErr}
use Rattle.sat_base.specs.steps.Steps.{Step, AddClause}
use Rattle.sat_checker.specs.Counters.{CountersExhausted, ExhaustsCounters}
use Rattle.sat_checker.specs.Accepts.{Accepts, stored_after, ready_after}
use Rattle.sat_checker.specs.KernelView as kernels
use Rattle.sat_checker.specs.announcements.Announcements.{Notice, notices_after, all_notices_after}
use Rattle.sat_checker.specs.listeners.Receiving.{CallListeners, call_listeners, ReceivesSince, ReceivesSinceUpToFault, notices_made}
use Rattle.sat_checker.specs.listeners.Notifying.{Listeners}
use Rattle.sat_checker.specs.listeners.ProcessingView.{listeners_of, ErrorNeedsListener}
use Rattle.sat_checker.specs.declared.kernel.Kernel.{Kernel}
use Rattle.sat_checker.specs.declared.checker.Checker.{Checker}
use Rattle.sat_checker.specs.declared.processing.Processing.{Processing}
use Rattle.sat_checker.specs.declared.error.CheckerError.{CheckerError}
use Rattle.sat_checker.specs.declared.error.CheckerError.TheVariants as errors
use Rattle.sat_checker.specs.declared.processing.ProcessingError.{ProcessingError}
use Rattle.sat_checker.specs.declared.processing.ProcessingError.TheVariants as faults

-- What contracts see of a checker: the kernel, which checks the steps, and the listeners.
pub record CheckerView (L : Type 0) : Type 0 where
  pub kernel : Kernel
  pub listeners : L

-- The view of this kernel with these listeners.
abbrev pub checker_view : {L : Type 0} → Kernel → L → CheckerView L
checker_view kernel listeners = record { kernel = kernel; listeners = listeners }

-- The kernel of a checker, which checks steps.
abbrev pub kernel_of : {P T : Type 0} → Checker P T → Kernel
kernel_of c = c.kernel

-- The view of a checker, with the processors and transcripts that were added.
abbrev pub view_of : {P T : Type 0} → Checker P T → CheckerView (Processing P T)
view_of c = checker_view c.kernel c.processing

-- The processors and the transcripts that were added to a checker, in order.
abbrev pub added_listeners : {P T : Type 0} → Checker P T → Listeners P T
added_listeners c = listeners_of c.processing

-- The view of a checker with the additional processor `own`, which is borrowed for one call and notified first.
abbrev pub view_with : {V P T : Type 0} → V → Checker P T → CheckerView (CallListeners V (Processing P T))
view_with own c = checker_view c.kernel (call_listeners own c.processing)

-- `checker_has_failed c` is true if the checker only returns `HasFailed` from now on.
abbrev pub checker_has_failed : {L : Type 0} → CheckerView L → Bool
checker_has_failed c = c.kernel.failed

-- The number of looks of the checker.
abbrev pub looks_of : {L : Type 0} → CheckerView L → ℕ
looks_of c = c.kernel.looks

-- `HasNoPendingConflict c` holds if no unit conflict is pending.
abbrev pub HasNoPendingConflict : {L : Type 0} → CheckerView L → Type 0
HasNoPendingConflict c = kernels.KernelHasNoPendingConflict c.kernel

-- `FaultNeedsListener result old` holds if the result is a fault of a listener (`ProofProcessorError`) only if a
-- processor or a transcript was added to the checker `old`.
abbrev pub FaultNeedsListener : {P T : Type 0} → Result Unit CheckerError → Checker P T → Type 0
FaultNeedsListener result old = (steps : List Step) → kernels.KernelHasAccepted (kernel_of old) steps → IfErr result (ErrorNeedsListener old.processing)

-- `FailsAgain fault result old new` holds if, whenever `old` has failed, `result` is the error `fault`, and `new` is
-- `old`.
abbrev pub FailsAgain : {E P T : Type 0} → E → Result Unit E → Checker P T → Checker P T → Type 0
FailsAgain fault result old new = kernels.kernel_has_failed (kernel_of old) ≡ true → (result ≡ Err fault) × (new ≡ old)

-- `AddListenerResult result old new listened listen more` holds if the result of adding a listener is correct. `old`
-- and `new` are the kernel before and after the call, `listened` and `listen` are the listeners. If the result is `Ok`,
-- the listeners are `more`. After an error, the listeners are unchanged; if memory ran out, the checker has failed.
abbrev pub AddListenerResult : {L : Type 0} → Result Unit CheckerError → Kernel → Kernel → L → L → L → Type 0
AddListenerResult (Ok x) old new listened listen more = (kernels.kernel_has_failed old ≡ false) × (new ≡ old) × (listen ≡ more)
AddListenerResult (Err errors.OutOfMemory) old new listened listen more = (kernels.kernel_has_failed old ≡ false) × (new ≡ record old { failed = true }) × (listen ≡ listened)
AddListenerResult (Err errors.HasFailed) old new listened listen more = (kernels.kernel_has_failed old ≡ true) × (new ≡ old) × (listen ≡ listened)
AddListenerResult (Err errors.CheckFailed) old new listened listen more = ⊥
AddListenerResult (Err errors.CounterEnd) old new listened listen more = ⊥
AddListenerResult (Err (errors.ProofProcessorError cause)) old new listened listen more = ⊥
AddListenerResult (Err errors.ProofIncomplete) old new listened listen more = ⊥
AddListenerResult (Err errors.IoError) old new listened listen more = ⊥
AddListenerResult (Err errors.ParseError) old new listened listen more = ⊥

-- `Receives` is how listeners receive an announcement. The listeners were `begun` after the announcements `before`.
module _ {L : Type 0} (Receives : L → Notice → Result Unit ProcessingError → L → Type 0) (before : List Notice) (begun : L) where
  -- `HasAccepted Receives before begun checker steps` holds if the checker has accepted these steps, the newest first.
  -- Unless it has failed, it stores what is stored after them, and its listeners, starting as `begun`, received their
  -- announcements after the first ones, `before`.
  pub record HasAccepted (checker : CheckerView L) (steps : List Step) : Type 0 where
    pub kernel : kernels.KernelHasAccepted checker.kernel steps
    pub heard : checker_has_failed checker ≡ false → ReceivesSince Receives before (notices_made checker.kernel.state.formula.status.conflict steps) begun checker.listeners

  -- `HasFailedAfter Receives before begun new steps` holds if the checker has accepted these steps and has failed, so
  -- it only returns `HasFailed` from now on.
  pub record HasFailedAfter (new : CheckerView L) (steps : List Step) : Type 0 where
    pub valid : HasAccepted new steps
    pub failed : checker_has_failed new ≡ true

  -- `FailsByRefusal Receives before begun new steps` holds if the checker has accepted these steps and then failed, and
  -- its listeners received all their announcements, including the empty clause of a pending unit conflict.
  pub record FailsByRefusal (new : CheckerView L) (steps : List Step) : Type 0 where
    pub fails : HasFailedAfter new steps
    pub heard : ReceivesSince Receives before (all_notices_after steps) begun new.listeners

  -- `FailsBeforeStep Receives before begun new steps` holds if the checker has accepted these steps and then failed,
  -- and its listeners received their announcements, with or without the empty clause of a pending unit conflict.
  pub record FailsBeforeStep (new : CheckerView L) (steps : List Step) : Type 0 where
    pub fails : HasFailedAfter new steps
    pub heard : ReceivesSince Receives before (notices_after steps) begun new.listeners ⊎ ReceivesSince Receives before (all_notices_after steps) begun new.listeners

  -- `FailsByListenerFault Receives before begun e reported new steps` holds if the checker has accepted these steps and
  -- has failed, and its listeners received the announcements `reported` up to one for which a listener returned the
  -- fault `e`.
  pub record FailsByListenerFault (e : ProcessingError) (reported : List Notice) (new : CheckerView L) (steps : List Step) : Type 0 where
    pub fails : HasFailedAfter new steps
    pub heard : ReceivesSinceUpToFault Receives e before reported begun new.listeners

  -- `ListenerFailsAtStep Receives before begun e new step steps` holds if a listener returned the fault `e`, and the
  -- checker failed, when a pending unit conflict or the accepted step was announced. In the second case, the step
  -- counts as accepted.
  abbrev pub ListenerFailsAtStep : ProcessingError → CheckerView L → Step → List Step → Type 0
  ListenerFailsAtStep e new step steps =
      (kernels.ConflictIsPending steps × FailsByListenerFault e (all_notices_after steps) new steps)
      ⊎ (Accepts (ready_after steps) step × FailsByListenerFault e (notices_after (step ∷ steps)) new (step ∷ steps))

  -- `RunsOutOfMemoryAt Receives before begun new step steps` holds if the checker failed because memory ran out, either
  -- for the step, which the rules accept, or while it or a pending unit conflict was announced.
  abbrev pub RunsOutOfMemoryAt : CheckerView L → Step → List Step → Type 0
  RunsOutOfMemoryAt new step steps = (Accepts (ready_after steps) step × FailsBeforeStep new steps) ⊎ ListenerFailsAtStep faults.OutOfMemory new step steps

  -- `StepIsAccepted Receives before begun new step steps` holds if the rules accept the step, and the checker has
  -- accepted it and has not failed.
  pub record StepIsAccepted (new : CheckerView L) (step : Step) (steps : List Step) : Type 0 where
    pub accepts : Accepts (ready_after steps) step
    pub valid : HasAccepted new (step ∷ steps)
    pub goes_on : checker_has_failed new ≡ false

  -- `StepResultAfter Receives before begun result old step new steps` holds if the result for the step is correct, when
  -- `steps` were accepted before. `CheckFailed` means that the rules refuse it, `CounterEnd` that an id or a count does
  -- not fit in 64 bits. After any error, the checker has failed.
  abbrev pub StepResultAfter : Result Unit CheckerError → CheckerView L → Step → CheckerView L → List Step → Type 0
  StepResultAfter (Ok x) old step new steps = (checker_has_failed old ≡ false) × StepIsAccepted new step steps
  StepResultAfter (Err errors.CheckFailed) old step new steps = (checker_has_failed old ≡ false) × (Accepts (ready_after steps) step → ⊥) × FailsByRefusal new steps
  StepResultAfter (Err errors.CounterEnd) old step new steps = (checker_has_failed old ≡ false) × ExhaustsCounters step (stored_after steps) × FailsBeforeStep new steps
  StepResultAfter (Err errors.OutOfMemory) old step new steps = (checker_has_failed old ≡ false) × RunsOutOfMemoryAt new step steps
  StepResultAfter (Err (errors.ProofProcessorError cause)) old step new steps = (checker_has_failed old ≡ false) × ListenerFailsAtStep (faults.ProofProcessorError cause) new step steps
  StepResultAfter (Err errors.HasFailed) old step new steps = (checker_has_failed old ≡ true) × (new ≡ old)
  StepResultAfter (Err errors.ProofIncomplete) old step new steps = ⊥
  StepResultAfter (Err errors.IoError) old step new steps = ⊥
  StepResultAfter (Err errors.ParseError) old step new steps = ⊥

  -- `SettlingResultAfter Receives before begun result old new steps` holds if the result of settling a pending unit
  -- conflict is correct, when `steps` were accepted before. `Ok` means that none is pending any more, `CounterEnd` that
  -- an id or a count does not fit in 64 bits.
  abbrev pub SettlingResultAfter : Result Unit CheckerError → CheckerView L → CheckerView L → List Step → Type 0
  SettlingResultAfter (Ok x) old new steps = (checker_has_failed old ≡ false) × (looks_of new ≡ looks_of old) × HasAccepted new steps × (checker_has_failed new ≡ false) × HasNoPendingConflict new
  SettlingResultAfter (Err errors.CounterEnd) old new steps = (checker_has_failed old ≡ false) × (looks_of new ≡ looks_of old) × CountersExhausted (ready_after steps) × FailsBeforeStep new steps
  SettlingResultAfter (Err errors.OutOfMemory) old new steps =
      (checker_has_failed old ≡ false) × (looks_of new ≡ looks_of old) × kernels.ConflictIsPending steps × FailsByListenerFault faults.OutOfMemory (all_notices_after steps) new steps
  SettlingResultAfter (Err (errors.ProofProcessorError cause)) old new steps =
      (checker_has_failed old ≡ false) × (looks_of new ≡ looks_of old) × kernels.ConflictIsPending steps × FailsByListenerFault (faults.ProofProcessorError cause) (all_notices_after steps) new steps
  SettlingResultAfter (Err errors.HasFailed) old new steps = (checker_has_failed old ≡ true) × (new ≡ old)
  SettlingResultAfter (Err errors.CheckFailed) old new steps = ⊥
  SettlingResultAfter (Err errors.ProofIncomplete) old new steps = ⊥
  SettlingResultAfter (Err errors.IoError) old new steps = ⊥
  SettlingResultAfter (Err errors.ParseError) old new steps = ⊥

  -- `AddClauseResultAfter Receives before begun result old clause new steps` holds if the result of adding an input
  -- clause is correct, when `steps` were accepted before. A refused clause (`CheckFailed`) changes nothing; after any
  -- other error, the checker has failed.
  abbrev pub AddClauseResultAfter : Result Unit CheckerError → CheckerView L → List ℕ → CheckerView L → List Step → Type 0
  AddClauseResultAfter (Ok x) old clause new steps = StepResultAfter (Ok x) old (AddClause clause) new steps
  AddClauseResultAfter (Err errors.CheckFailed) old clause new steps = (checker_has_failed old ≡ false) × (Accepts (ready_after steps) (AddClause clause) → ⊥) × (new ≡ old)
  AddClauseResultAfter (Err errors.CounterEnd) old clause new steps = StepResultAfter (Err errors.CounterEnd) old (AddClause clause) new steps
  AddClauseResultAfter (Err errors.OutOfMemory) old clause new steps = StepResultAfter (Err errors.OutOfMemory) old (AddClause clause) new steps
  AddClauseResultAfter (Err (errors.ProofProcessorError cause)) old clause new steps = StepResultAfter (Err (errors.ProofProcessorError cause)) old (AddClause clause) new steps
  AddClauseResultAfter (Err errors.HasFailed) old clause new steps = StepResultAfter (Err errors.HasFailed) old (AddClause clause) new steps
  AddClauseResultAfter (Err errors.ProofIncomplete) old clause new steps = ⊥
  AddClauseResultAfter (Err errors.IoError) old clause new steps = ⊥
  AddClauseResultAfter (Err errors.ParseError) old clause new steps = ⊥

module _ {L : Type 0} (Receives : L → Notice → Result Unit ProcessingError → L → Type 0) where
  -- `StepResult Receives result old step new` holds if the result for the step is correct after whatever steps `old`
  -- has accepted: `Ok` means that the rules accept it, `CheckFailed` that they refuse it; other errors have other
  -- causes. After any error, the checker has failed.
  abbrev pub StepResult : Result Unit CheckerError → CheckerView L → Step → CheckerView L → Type 0
  StepResult result old step new = (before : List Notice) (begun : L) (steps : List Step) → HasAccepted Receives before begun old steps → StepResultAfter Receives before begun result old step new steps

  -- `SettlingResult Receives result old new` holds if the result of settling a pending unit conflict is correct after
  -- whatever steps `old` has accepted. `Ok` means that none is pending any more, and the empty clause was announced.
  -- After any error, the checker has failed.
  abbrev pub SettlingResult : Result Unit CheckerError → CheckerView L → CheckerView L → Type 0
  SettlingResult result old new = (before : List Notice) (begun : L) (steps : List Step) → HasAccepted Receives before begun old steps → SettlingResultAfter Receives before begun result old new steps

  -- `AddClauseResult Receives result old clause new` holds if the result of adding an input clause is correct after
  -- whatever steps `old` has accepted. `CheckFailed` means that the rules refuse it, and changes nothing. After any
  -- other error, the checker has failed.
  abbrev pub AddClauseResult : Result Unit CheckerError → CheckerView L → List ℕ → CheckerView L → Type 0
  AddClauseResult result old clause new = (before : List Notice) (begun : L) (steps : List Step) → HasAccepted Receives before begun old steps → AddClauseResultAfter Receives before begun result old clause new steps
