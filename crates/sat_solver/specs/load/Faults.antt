-- Why a call over names failed, as the solver reports it.
use Rattle.sat_solver.specs.declared.variables.error.NameError.{NameError}
use Rattle.sat_solver.specs.declared.variables.error.NameError.TheVariants as names
use Rattle.sat_solver.specs.declared.error.SolverError.{SolverError}
use Rattle.sat_solver.specs.declared.error.SolverError.TheVariants as errors
use Rattle.sat_solver.specs.cdcl.StepEffects.{error_of_check}

-- the solver's error for an error of a call over names, one to one; a fault of the own checker becomes `OutOfMemory`,
-- `CounterEnd` or the listener's error
abbrev pub error_of_name_call : NameError → SolverError
error_of_name_call names.VariableLimit = errors.VariableLimit
error_of_name_call names.OutOfMemory = errors.OutOfMemory
error_of_name_call (names.Write cause) = errors.ProofIoError cause
error_of_name_call (names.Check fault) = error_of_check fault
