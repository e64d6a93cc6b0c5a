-- Why a call failed, as the solver reports it, and where the underlying error is stored until then.
use Rattle.std.specs.Prelude.{◌≡◌, ◌⊎◌, Some}
use Rattle.sat_checker.specs.declared.processing.ProofProcessor.{Ghosts}
use Rattle.sat_solver.specs.proof.ProofView.{CheckerFailed, has_missed_step}
use Rattle.sat_solver.specs.declared.proof.emitted.CheckFault.TheVariants as checks
use Rattle.sat_solver.specs.declared.proof.Proof.{Proof}
use Rattle.sat_solver.specs.declared.cdcl.fault.FaultKind.{FaultKind}
use Rattle.sat_solver.specs.declared.cdcl.fault.FaultKind.TheVariants as kinds
use Rattle.sat_solver.specs.declared.error.SolverError.{SolverError}
use Rattle.sat_solver.specs.declared.error.SolverError.TheVariants as errors

-- the error that the solver reports for a fault of this kind, one to one
abbrev pub error_of_fault : FaultKind → SolverError
error_of_fault (kinds.Write cause) = errors.ProofIoError cause
error_of_fault (kinds.Processor cause) = errors.ProofProcessorError cause
error_of_fault kinds.OutOfMemory = errors.OutOfMemory
error_of_fault kinds.StoreFull = errors.StoreFull
error_of_fault kinds.VariableLimit = errors.VariableLimit
error_of_fault kinds.CounterEnd = errors.CounterEnd

-- `StoresError e p` holds if the proof `p` stores the error that the target or the listener returned, if `e` reports
-- one; otherwise nothing is demanded
abbrev pub StoresError : {W L : Type 0} {G : Ghosts L} → SolverError → Proof W L G → Type 0
StoresError (errors.ProofIoError cause) p = p.cause ≡ Some cause
StoresError (errors.ProofProcessorError cause) p = p.made.complaint ≡ Some cause
StoresError e p = Unit {0}

-- `MissesOnlyByFault e old new` holds if `e` is an error of the target or of the own checker, or the checker has missed
-- a step by `new` exactly if it had by `old`. An `OutOfMemory` outside the checker never makes it miss one.
abbrev pub MissesOnlyByFault : {W L : Type 0} {G : Ghosts L} → SolverError → Proof W L G → Proof W L G → Type 0
MissesOnlyByFault (errors.ProofIoError cause) old new = Unit {0}
MissesOnlyByFault (errors.ProofProcessorError cause) old new = Unit {0}
MissesOnlyByFault errors.CounterEnd old new = Unit {0}
MissesOnlyByFault errors.OutOfMemory old new = (has_missed_step new ≡ has_missed_step old) ⊎ CheckerFailed checks.OutOfMemory new
MissesOnlyByFault e old new = has_missed_step new ≡ has_missed_step old
