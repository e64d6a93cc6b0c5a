-- Faults of a formula's text, as the engine reports them.
use Rattle.std.specs.Prelude.{ℕ, Bool, true, false}
use Rattle.sat_base.specs.declared.dimacs.error.DimacsError.{DimacsError}
use Rattle.sat_base.specs.declared.dimacs.error.DimacsError.TheVariants as texts
use Rattle.sat_checker.specs.declared.processing.ProofProcessor.{Ghosts}
use Rattle.sat_solver.specs.declared.error.SolverError.{SolverError}
use Rattle.sat_solver.specs.declared.error.SolverError.TheVariants as errors
use Rattle.sat_solver.specs.declared.solver.Engine.{Engine}

-- the solver's error for an error of a DIMACS text; the number of its line is dropped
abbrev pub text_fault : DimacsError → SolverError
text_fault (texts.Malformed line) = errors.Malformed
text_fault (texts.Limit line) = errors.VariableLimit
text_fault texts.Read = errors.Read
text_fault texts.OutOfMemory = errors.OutOfMemory
text_fault texts.HasFailed = errors.HasFailed

-- `is_solver_out_of_memory fault` is true if this error is an allocation failure, after which the solver has failed
abbrev pub is_solver_out_of_memory : DimacsError → Bool
is_solver_out_of_memory (texts.Malformed line) = false
is_solver_out_of_memory (texts.Limit line) = false
is_solver_out_of_memory texts.Read = false
is_solver_out_of_memory texts.OutOfMemory = true
is_solver_out_of_memory texts.HasFailed = false

-- the engine, marked as failed if the flag is true, and as not failed otherwise
abbrev pub with_failed : {W L : Type 0} {G : Ghosts L} → Bool → Engine W L G → Engine W L G
with_failed b s = record s { failed = b }
