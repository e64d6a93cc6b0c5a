-- Underlying errors that are stored until they are reported.
use Rattle.std.specs.Prelude.{◌≡◌, Option, Some}
use Rattle.anyhow.specs.declared.error.Error.{Error}
use Rattle.sat_solver.specs.declared.proof.emitted.CheckFault.{CheckFault}
use Rattle.sat_solver.specs.declared.proof.emitted.CheckFault.TheVariants as checks

-- `IsListenerError fault complaint` holds if `complaint` is the listener's error that `fault` carries; if `fault` is no
-- listener's error, it always holds
abbrev pub IsListenerError : CheckFault → Option Error → Type 0
IsListenerError checks.OutOfMemory complaint = Unit {0}
IsListenerError checks.CounterEnd complaint = Unit {0}
IsListenerError (checks.Processor cause) complaint = complaint ≡ Some cause
