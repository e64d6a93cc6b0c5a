-- How confirming treats what a checker returns for a step.
use Rattle.std.proofs.Common.{Ok, Err, sym, ◌∙◌}
use Rattle.std.proofs.lemmas.Bool.{true≢false}
use Rattle.sat_base.specs.steps.Steps.{Step}
use Rattle.sat_checker.specs.KernelView.{KernelStepResult, KernelSettlingResult}
use Rattle.sat_checker.specs.declared.kernel.Kernel.{Kernel}
use Rattle.sat_checker.specs.declared.error.CheckerError.{CheckerError}
use Rattle.sat_checker.specs.declared.error.CheckerError.TheVariants as errors
use Rattle.certify.specs.confirm.Feeding.{stop_for_checker, FeedsStep, SettlesConflict}

pub fed : (old : Kernel) (step : Step) (new : Kernel) → KernelStepResult (Ok tt) old step new → FeedsStep (Ok tt) old step new
fed old step new h = λ steps t. let x = h steps t.valid in (x.1.accepts, record { valid = x.1.valid; goes_on = x.1.goes_on })

pub unfed : (e : CheckerError) (old : Kernel) (step : Step) (new : Kernel) → KernelStepResult (Err e) old step new → FeedsStep (Err (stop_for_checker e)) old step new
unfed errors.CheckFailed old step new h = λ steps t. (h steps t.valid).1
unfed errors.OutOfMemory old step new h = tt
unfed errors.CounterEnd old step new h = λ steps t. (h steps t.valid).1
unfed errors.HasFailed old step new h = λ steps t. absurd (true≢false (sym (h steps t.valid).0 ∙ t.goes_on))
unfed (errors.ProofProcessorError cause) old step new h = tt
unfed e old step new h = λ steps t. absurd (h steps t.valid)

-- A PENDING UNIT CONFLICT

pub settles : (old new : Kernel) → KernelSettlingResult (Ok tt) old new → SettlesConflict (Ok tt) old new
settles old new h = λ steps t. let x = h steps t.valid in (record { valid = x.2; goes_on = x.3 }, x.1)

pub unsettled : (e : CheckerError) (old new : Kernel) → KernelSettlingResult (Err e) old new → SettlesConflict (Err (stop_for_checker e)) old new
unsettled errors.CounterEnd old new h = λ steps t. let x = h steps t.valid in (x.2, x.1)
unsettled errors.HasFailed old new h = λ steps t. true≢false (sym (h steps t.valid).0 ∙ t.goes_on)
unsettled errors.OutOfMemory old new h = λ steps t. (h steps t.valid).1
unsettled (errors.ProofProcessorError cause) old new h = λ steps t. (h steps t.valid).1
unsettled e old new h = λ steps t. h steps t.valid
