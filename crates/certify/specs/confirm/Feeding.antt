-- What happens when a checker is fed a step.
use Rattle.std.specs.Prelude.{◌≡◌, false, Result, Ok, Err, List, ◌∷◌}
use Rattle.sat_base.specs.steps.Steps.{Step}
use Rattle.sat_checker.specs.Accepts.{Accepts, stored_after, ready_after}
use Rattle.sat_checker.specs.KernelView.{KernelHasAccepted, kernel_has_failed, kernel_looks}
use Rattle.sat_checker.specs.Counters.{CountersExhausted, ExhaustsCounters}
use Rattle.sat_checker.specs.declared.kernel.Kernel.{Kernel}
use Rattle.sat_checker.specs.declared.error.CheckerError.{CheckerError}
use Rattle.sat_checker.specs.declared.error.CheckerError.TheVariants as errors
use Rattle.certify.specs.declared.confirm.stop.Stop.{Stop}
use Rattle.certify.specs.declared.confirm.stop.Stop.TheVariants as stop
use Rattle.certify.specs.declared.verdict.Why.TheVariants.{StepRefused}

-- `HasAcceptedSteps checker steps` holds if the checker accepted exactly these steps, the newest first, and has not
-- failed.
pub record HasAcceptedSteps (checker : Kernel) (steps : List Step) : Type 0 where
  pub valid : KernelHasAccepted checker steps
  pub goes_on : kernel_has_failed checker ≡ false

-- the error of a call if a step is not accepted; a checker that has not failed can only refuse the step, run out of
-- memory, or reach the end of a counter
abbrev pub stop_for_checker : CheckerError → Stop
stop_for_checker errors.CheckFailed = stop.No StepRefused
stop_for_checker errors.OutOfMemory = stop.OutOfMemory
stop_for_checker errors.CounterEnd = stop.CounterEnd
stop_for_checker errors.HasFailed = stop.No StepRefused
stop_for_checker errors.ProofIncomplete = stop.No StepRefused
stop_for_checker errors.IoError = stop.No StepRefused
stop_for_checker errors.ParseError = stop.No StepRefused
-- cannot occur, because there is no listener
stop_for_checker (errors.ProofProcessorError cause) = stop.OutOfMemory

-- `FeedsStep result old step new` holds if the checker accepts the step after the earlier steps (`Ok`), refuses it
-- (`No`), runs out of memory, or reaches a number that does not fit into 64 bits.
abbrev pub FeedsStep : Result (Unit {0}) Stop → Kernel → Step → Kernel → Type 0
FeedsStep (Ok x) old step new = (steps : List Step) → HasAcceptedSteps old steps → Accepts (ready_after steps) step × HasAcceptedSteps new (step ∷ steps)
FeedsStep (Err (stop.No why)) old step new = (steps : List Step) → HasAcceptedSteps old steps → Accepts (ready_after steps) step → ⊥
FeedsStep (Err stop.CertificateRead) old step new = ⊥
FeedsStep (Err stop.OutOfMemory) old step new = Unit {0}
FeedsStep (Err stop.CounterEnd) old step new = (steps : List Step) → HasAcceptedSteps old steps → ExhaustsCounters step (stored_after steps)
FeedsStep (Err stop.ScriptRead) old step new = ⊥
FeedsStep (Err stop.AnswersRead) old step new = ⊥
FeedsStep (Err stop.TooMany) old step new = ⊥

-- `SettlesConflict result old new` holds if the checker gives a pending unit conflict, if there is one, its empty
-- clause or, with an error, an id does not fit into 64 bits or memory runs out. No step is added, and there are no
-- further looks.
abbrev pub SettlesConflict : Result (Unit {0}) Stop → Kernel → Kernel → Type 0
SettlesConflict (Ok x) old new = (steps : List Step) → HasAcceptedSteps old steps → HasAcceptedSteps new steps × (kernel_looks new ≡ kernel_looks old)
SettlesConflict (Err (stop.No why)) old new = (steps : List Step) → HasAcceptedSteps old steps → ⊥
SettlesConflict (Err stop.CertificateRead) old new = ⊥
SettlesConflict (Err stop.OutOfMemory) old new = (steps : List Step) → HasAcceptedSteps old steps → kernel_looks new ≡ kernel_looks old
SettlesConflict (Err stop.CounterEnd) old new = (steps : List Step) → HasAcceptedSteps old steps → CountersExhausted (ready_after steps) × (kernel_looks new ≡ kernel_looks old)
SettlesConflict (Err stop.ScriptRead) old new = ⊥
SettlesConflict (Err stop.AnswersRead) old new = ⊥
SettlesConflict (Err stop.TooMany) old new = ⊥
