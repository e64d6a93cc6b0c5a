-- How calls that make steps of the search change the proof. Lists of steps have the newest first.
use Rattle.std.specs.Prelude.{ℕ, ◌≡◌, Bool, true, false, Option, Some, List, map, MatchResult, IfErr, Result, Ok, Err}
use Rattle.std.specs.List.{AllByRecursion}
use Rattle.sat_base.specs.device.Device.{Writer}
use Rattle.sat_base.specs.values.Literals.{variable}
use Rattle.sat_base.specs.steps.Steps.{Step, AtClause, UnitClauses, DeleteClause}
use Rattle.sat_checker.specs.declared.processing.ProofProcessor.{Ghosts}
use Rattle.sat_solver.specs.session.Quiet.{AreQuiet}
use Rattle.sat_solver.specs.cdcl.Faults.{StoresError, MissesOnlyByFault}
use Rattle.sat_solver.specs.proof.ProofView.{EmitsExactly, FailsToEmit, FailsCheck, EmitsChecked, HasAllowedSteps, session_of}
use Rattle.sat_solver.specs.declared.proof.emitted.CheckFault.{CheckFault}
use Rattle.sat_solver.specs.declared.proof.emitted.CheckFault.TheVariants as checks
use Rattle.sat_solver.specs.declared.proof.Proof.{Proof}
use Rattle.sat_solver.specs.declared.proof.ProofError.{ProofError}
use Rattle.sat_solver.specs.declared.proof.ProofError.TheVariants.{Write, OutOfMemory, Check}
use Rattle.sat_solver.specs.declared.error.SolverError.{SolverError}
use Rattle.sat_solver.specs.declared.error.SolverError.TheVariants as errors

-- `is_search_step step` is true if the step derives a clause or units, or deletes a clause
abbrev pub is_search_step : Step → Bool
is_search_step (AtClause redundant clause hashes) = true
is_search_step (UnitClauses units) = true
is_search_step (DeleteClause clause proof) = true
is_search_step step = false

-- `HaveIndices names ls` holds if every literal of `ls` is over a variable that has an index
abbrev pub HaveIndices : (ℕ → Option ℕ) → List ℕ → Type 0
HaveIndices names = AllByRecursion (λ l. (x : ℕ) × (names (variable l) ≡ Some x))

-- `IsSearchStep names step` holds if `step` derives a clause or units, over variables that have indices by `names`, or
-- deletes a clause
abbrev pub IsSearchStep : (ℕ → Option ℕ) → Step → Type 0
IsSearchStep names (AtClause redundant clause hashes) = HaveIndices names clause
IsSearchStep names (UnitClauses units) = HaveIndices names (map (λ u. u.0) units)
IsSearchStep names (DeleteClause clause proof) = Unit {0}
IsSearchStep names step = ⊥

-- `AreSearchSteps names steps` holds if each of the steps derives a clause or units, over variables that have indices
-- by `names`, or deletes a clause
abbrev pub AreSearchSteps : (ℕ → Option ℕ) → List Step → Type 0
AreSearchSteps names = AllByRecursion (IsSearchStep names)

-- the solver's error for a failure of its own checker: out of memory, an exhausted counter, or a listener's error
abbrev pub error_of_check : CheckFault → SolverError
error_of_check checks.OutOfMemory = errors.OutOfMemory
error_of_check checks.CounterEnd = errors.CounterEnd
error_of_check (checks.Processor cause) = errors.ProofProcessorError cause

-- the solver's error for a step that was not written, or not checked: an error of the target, out of memory, or a
-- failure of its own checker
abbrev pub error_of_proof : ProofError → SolverError
error_of_proof (Write cause) = errors.ProofIoError cause
error_of_proof OutOfMemory = errors.OutOfMemory
error_of_proof (Check fault) = error_of_check fault

-- `IsFaultOr full e` holds if `e` is out of memory, an exhausted counter, an error of the target or of a listener, or
-- `StoreFull` if `full` holds
abbrev pub IsFaultOr : (full : Type 0) → SolverError → Type 0
IsFaultOr full errors.OutOfMemory = Unit {0}
IsFaultOr full errors.StoreFull = full
IsFaultOr full (errors.ProofIoError cause) = Unit {0}
IsFaultOr full (errors.ProofProcessorError cause) = Unit {0}
IsFaultOr full errors.CounterEnd = Unit {0}
IsFaultOr full e = ⊥

-- `IsFault e` holds if `e` is out of memory, an exhausted counter, or an error of the target or of a listener
abbrev pub IsFault : SolverError → Type 0
IsFault = IsFaultOr ⊥

-- `EmitsUpToFault seen result steps old new` holds if exactly `steps` were made and written or are pending; on
-- `ProofIoError` the target failed while their text was written. On `CounterEnd` or a listener's error, the own checker
-- failed after they were written.
abbrev pub EmitsUpToFault : {A W L : Type 0} {G : Ghosts L} → (W → Writer) → Result A SolverError → List Step → Proof W L G → Proof W L G → Type 0
EmitsUpToFault seen (Ok x) steps old new = EmitsChecked seen steps old new
EmitsUpToFault seen (Err (errors.ProofIoError cause)) steps old new = FailsToEmit seen steps old new
EmitsUpToFault seen (Err (errors.ProofProcessorError cause)) steps old new = FailsCheck seen (checks.Processor cause) steps old new
EmitsUpToFault seen (Err errors.CounterEnd) steps old new = FailsCheck seen checks.CounterEnd steps old new
EmitsUpToFault seen (Err e) steps old new = EmitsExactly seen steps old new

-- `AreQuietUnless learns steps` holds if `learns` is true, or none of `steps` is an `AtClause` step with a nonempty
-- clause and two or more hashes
abbrev pub AreQuietUnless : Bool → List Step → Type 0
AreQuietUnless true steps = Unit {0}
AreQuietUnless false steps = AreQuiet steps

-- `EmitsStepsWith full learns seen result old new Answers` holds if the call made only derivations and deletions, all
-- allowed, and `result` is a value that satisfies `Answers` with the steps (quiet ones unless `learns`), or an error,
-- which is stored; `StoreFull` only if `full` holds
pub record EmitsStepsWith {A W L : Type 0} {G : Ghosts L} (full : Type 0) (learns : Bool) (seen : W → Writer) (result : Result A SolverError) (old new : Proof W L G) (Answers : A → List Step → Type 0) : Type 0 where
  pub steps : List Step
  pub went : EmitsUpToFault seen result steps old new
  pub searched : AreSearchSteps (session_of old).solver_names steps
  pub quiet : MatchResult result (λ _. AreQuietUnless learns steps) (λ _. Unit {0})
  pub keeps : HasAllowedSteps new
  pub kept : IfErr result (λ e. StoresError e new)
  pub loss : IfErr result (λ e. MissesOnlyByFault e old new)
  pub ends : MatchResult result (λ x. Answers x steps) (IsFaultOr full)

-- `EmitsStepsOr full seen result old new Answers` holds if the call, which may learn clauses, made only derivations and
-- deletions, all allowed, and `result` is a value that satisfies `Answers` with the steps, or an error, which is
-- stored; `StoreFull` only if `full` holds
abbrev pub EmitsStepsOr : {A W L : Type 0} {G : Ghosts L} → (full : Type 0) → (W → Writer) → Result A SolverError → Proof W L G → Proof W L G → (A → List Step → Type 0) → Type 0
EmitsStepsOr full seen result old new Answers = EmitsStepsWith full true seen result old new Answers

-- `EmitsSteps seen result old new Answers` holds if the call made only derivations and deletions, all allowed, that
-- never derive an empowering clause, and `result` is a value that satisfies `Answers` with the steps, or an error other
-- than `StoreFull`, which is stored
abbrev pub EmitsSteps : {A W L : Type 0} {G : Ghosts L} → (W → Writer) → Result A SolverError → Proof W L G → Proof W L G → (A → List Step → Type 0) → Type 0
EmitsSteps seen result old new Answers = EmitsStepsWith ⊥ false seen result old new Answers
