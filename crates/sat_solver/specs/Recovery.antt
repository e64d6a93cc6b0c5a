-- The errors after which a solver can still be used.
use Rattle.std.specs.Prelude.{Bool, true, false}
use Rattle.sat_store.specs.declared.clause.alloc.StoreError.{StoreError}
use Rattle.sat_store.specs.declared.clause.alloc.StoreError.TheVariants as stores
use Rattle.sat_solver.specs.declared.error.SolverError.{SolverError}
use Rattle.sat_solver.specs.declared.error.SolverError.TheVariants as errors

-- `is_recoverable e` is true if a call that returns `e` leaves the solver usable, as after a refusal; false if every
-- later call fails. It is false for `OutOfMemory`, although the solver is usable if `model` returned it.
abbrev pub is_recoverable : SolverError → Bool
is_recoverable errors.Interrupted = true
is_recoverable (errors.ProofProcessorError cause) = false
is_recoverable (errors.ProofIoError cause) = false
is_recoverable errors.OutOfMemory = false
is_recoverable errors.WitnessVariable = true
is_recoverable errors.AssumedVariable = true
is_recoverable errors.TooLate = true
is_recoverable errors.NotInDrat = true
is_recoverable errors.StoreFull = false
is_recoverable errors.VariableLimit = true
is_recoverable errors.CounterEnd = false
is_recoverable errors.HasFailed = false
is_recoverable errors.Read = true
is_recoverable errors.Malformed = true
is_recoverable errors.OutOfRange = true

-- the solver's error for an error of the clause buffer: full, or out of memory
abbrev pub error_of_buffer : StoreError → SolverError
error_of_buffer stores.StoreFull = errors.StoreFull
error_of_buffer stores.OutOfMemory = errors.OutOfMemory
