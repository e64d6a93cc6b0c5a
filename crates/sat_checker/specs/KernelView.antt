-- What contracts see of the kernel, the part of a checker that checks steps: the accepted steps (input clauses
-- included), and whether it has failed. Listeners are left out.
use Rattle.std.specs.Prelude.{ℕ, ◌≡◌, ◌≢◌, ◌⊎◌, ◌+◌, ◌≤◌, Bool, true, false, None, List, ◌∷◌, Result, Ok, Err}
use Rattle.sat_base.specs.steps.Steps.{Step}
use Rattle.sat_checker.specs.Stored.{Stored}
use Rattle.sat_checker.specs.Counters.{CountersExhausted, ExhaustsCounters}
use Rattle.sat_checker.specs.Accepts.{Accepts, AcceptsAll, stored_after, ready_after}
use Rattle.sat_checker.specs.Looks.{most_looks}
use Rattle.sat_checker.specs.inner.StateView.{RepresentsStored}
use Rattle.sat_checker.specs.inner.VariablesView.{variable_at}
use Rattle.sat_checker.specs.declared.kernel.Kernel.{Kernel}
use Rattle.sat_checker.specs.declared.state.CheckerState.{CheckerState}
use Rattle.sat_checker.specs.declared.state.status.Records.{Records}
use Rattle.sat_checker.specs.declared.error.CheckerError.{CheckerError}
use Rattle.sat_checker.specs.declared.error.CheckerError.TheVariants as errors
use Rattle.sat_checker.specs.declared.kernel.StepRefusal.{StepRefusal}
use Rattle.sat_checker.specs.declared.kernel.StepRefusal.TheVariants as refusals

-- `kernel_has_failed k` is true if the kernel only returns `HasFailed` from now on.
abbrev pub kernel_has_failed : Kernel → Bool
kernel_has_failed k = k.failed

-- The number of looks of the kernel.
abbrev pub kernel_looks : Kernel → ℕ
kernel_looks k = k.looks

-- `KernelHasNoPendingConflict k` holds if no unit conflict is pending.
abbrev pub KernelHasNoPendingConflict : Kernel → Type 0
KernelHasNoPendingConflict k = k.state.formula.status.conflict ≡ None

-- `RepresentsStoredAfter state steps` holds if the code's state represents what is stored after these steps, the newest
-- first. A unit conflict that was pending then may be settled.
pub record RepresentsStoredAfter (state : CheckerState) (steps : List Step) : Type 0 where
  pub formula : Stored
  pub keeps : RepresentsStored state formula
  pub left : (formula ≡ stored_after steps) ⊎ (formula ≡ ready_after steps)

-- Whether `f` records unsat, the end, and the deletion of a variable. These records remain available after a later step
-- has failed.
abbrev pub records_of : Stored → Records
records_of f = record { unsat = f.unsat; ended = f.ended; var_deleted = f.var_deleted }

-- `KernelHasAccepted kernel steps` holds if the kernel has accepted these steps, the newest first, and stores what is
-- stored after them, unless it has failed. Even after it has failed, its records and variables are those after these
-- steps.
pub record KernelHasAccepted (kernel : Kernel) (steps : List Step) : Type 0 where
  pub accepted : AcceptsAll steps
  pub records : kernel.records ≡ records_of (stored_after steps)
  pub variables : (v : ℕ) → variable_at kernel.state.variables v ≡ (ready_after steps).variables v
  pub kept : kernel.failed ≡ false → RepresentsStoredAfter kernel.state steps

-- `KernelHasFailedAfter new steps` holds if the kernel has accepted these steps and has failed, so it only returns
-- `HasFailed` from now on.
pub record KernelHasFailedAfter (new : Kernel) (steps : List Step) : Type 0 where
  pub valid : KernelHasAccepted new steps
  pub failed : kernel_has_failed new ≡ true

-- `ConflictIsPending steps` holds if a unit conflict is pending after these steps, the newest first.
abbrev pub ConflictIsPending : List Step → Type 0
ConflictIsPending steps = (stored_after steps).conflict ≢ None

-- `KernelAcceptsStep new step steps` holds if the rules accept the step, and the kernel has accepted it and has not
-- failed.
pub record KernelAcceptsStep (new : Kernel) (step : Step) (steps : List Step) : Type 0 where
  pub accepts : Accepts (ready_after steps) step
  pub valid : KernelHasAccepted new (step ∷ steps)
  pub goes_on : kernel_has_failed new ≡ false

-- `KernelStepResultAfter result old step new steps` holds if the result for the step is correct, when `steps` were
-- accepted before. `CheckFailed` means that the rules refuse it, `CounterEnd` that an id or a count does not fit in 64
-- bits. After any error, the kernel has failed.
abbrev pub KernelStepResultAfter : Result Unit CheckerError → Kernel → Step → Kernel → List Step → Type 0
KernelStepResultAfter (Ok x) old step new steps = (kernel_has_failed old ≡ false) × KernelAcceptsStep new step steps
KernelStepResultAfter (Err errors.CheckFailed) old step new steps = (kernel_has_failed old ≡ false) × (Accepts (ready_after steps) step → ⊥) × KernelHasFailedAfter new steps
KernelStepResultAfter (Err errors.CounterEnd) old step new steps = (kernel_has_failed old ≡ false) × ExhaustsCounters step (stored_after steps) × KernelHasFailedAfter new steps
-- Memory ran out for a step that would be accepted, while a pending conflict was announced, or while the step was
-- announced. In the last case, the step counts as accepted.
KernelStepResultAfter (Err errors.OutOfMemory) old step new steps =
    (kernel_has_failed old ≡ false)
    × ((Accepts (ready_after steps) step × KernelHasFailedAfter new steps)
    ⊎ ((ConflictIsPending steps × KernelHasFailedAfter new steps)
    ⊎ (Accepts (ready_after steps) step × KernelHasFailedAfter new (step ∷ steps))))
KernelStepResultAfter (Err errors.HasFailed) old step new steps = (kernel_has_failed old ≡ true) × KernelHasFailedAfter new steps
KernelStepResultAfter (Err errors.ProofIncomplete) old step new steps = ⊥
KernelStepResultAfter (Err errors.IoError) old step new steps = ⊥
KernelStepResultAfter (Err errors.ParseError) old step new steps = ⊥
-- a listener returned a fault, for a pending conflict or for the step; in the second case, the step counts as accepted
KernelStepResultAfter (Err (errors.ProofProcessorError cause)) old step new steps =
    (kernel_has_failed old ≡ false) × ((ConflictIsPending steps × KernelHasFailedAfter new steps) ⊎ (Accepts (ready_after steps) step × KernelHasFailedAfter new (step ∷ steps)))

-- The checker's error for the reason why the kernel refused a step.
abbrev pub step_error : StepRefusal → CheckerError
step_error refusals.HasFailed = errors.HasFailed
step_error refusals.CheckFailed = errors.CheckFailed
step_error refusals.OutOfMemory = errors.OutOfMemory
step_error refusals.CounterEnd = errors.CounterEnd

-- The checker's result for a result of the kernel, when no listener is notified of the step.
abbrev pub step_result_of : Result Unit StepRefusal → Result Unit CheckerError
step_result_of (Ok x) = Ok x
step_result_of (Err refusal) = Err (step_error refusal)

-- `KernelStepResult result old step new` holds if the result for the step is correct after whatever steps `old` has
-- accepted: `Ok` means that the rules accept it, `CheckFailed` that they refuse it; other errors have other causes.
-- After any error, the kernel has failed.
abbrev pub KernelStepResult : Result Unit CheckerError → Kernel → Step → Kernel → Type 0
KernelStepResult result old step new = (steps : List Step) → KernelHasAccepted old steps → KernelStepResultAfter result old step new steps

-- `LooksAtMost old step new` holds if the looks rise at most by the bound of the step, whatever steps were accepted
-- before.
abbrev pub LooksAtMost : Kernel → Step → Kernel → Type 0
LooksAtMost old step new = (steps : List Step) → KernelHasAccepted old steps → kernel_looks new ≤ kernel_looks old + most_looks (ready_after steps) step

-- `KernelSettlingResultAfter result old new steps` holds if the result of settling a pending unit conflict is correct,
-- when `steps` were accepted before. `Ok` means that none is pending any more, `CounterEnd` that an id or a count does
-- not fit in 64 bits.
abbrev pub KernelSettlingResultAfter : Result Unit CheckerError → Kernel → Kernel → List Step → Type 0
KernelSettlingResultAfter (Ok x) old new steps = (kernel_has_failed old ≡ false) × (kernel_looks new ≡ kernel_looks old) × KernelHasAccepted new steps × (kernel_has_failed new ≡ false) × KernelHasNoPendingConflict new
KernelSettlingResultAfter (Err errors.CounterEnd) old new steps = (kernel_has_failed old ≡ false) × (kernel_looks new ≡ kernel_looks old) × CountersExhausted (ready_after steps) × KernelHasFailedAfter new steps
KernelSettlingResultAfter (Err errors.HasFailed) old new steps = (kernel_has_failed old ≡ true) × KernelHasFailedAfter new steps
KernelSettlingResultAfter (Err errors.CheckFailed) old new steps = ⊥
-- memory ran out while the conflict was announced
KernelSettlingResultAfter (Err errors.OutOfMemory) old new steps = (kernel_has_failed old ≡ false) × (kernel_looks new ≡ kernel_looks old) × ConflictIsPending steps × KernelHasFailedAfter new steps
KernelSettlingResultAfter (Err (errors.ProofProcessorError cause)) old new steps = (kernel_has_failed old ≡ false) × (kernel_looks new ≡ kernel_looks old) × ConflictIsPending steps × KernelHasFailedAfter new steps
KernelSettlingResultAfter (Err errors.ProofIncomplete) old new steps = ⊥
KernelSettlingResultAfter (Err errors.IoError) old new steps = ⊥
KernelSettlingResultAfter (Err errors.ParseError) old new steps = ⊥

-- `KernelSettlingResult result old new` holds if the result of settling a pending unit conflict is correct after
-- whatever steps `old` has accepted. `Ok` means that none is pending any more. After any error, the kernel has failed.
abbrev pub KernelSettlingResult : Result Unit CheckerError → Kernel → Kernel → Type 0
KernelSettlingResult result old new = (steps : List Step) → KernelHasAccepted old steps → KernelSettlingResultAfter result old new steps
