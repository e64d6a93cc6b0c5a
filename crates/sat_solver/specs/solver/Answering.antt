-- How an ask is answered.
use Rattle.std.specs.Prelude.{ℕ, ◌≡◌, List, [], ◌∷◌, map, MatchResult, Result, Err}
use Rattle.sat_base.specs.device.Device.{Writer}
use Rattle.sat_base.specs.steps.Steps.{Step, Model}
use Rattle.sat_checker.specs.declared.processing.ProofProcessor.{Ghosts}
use Rattle.sat_solver.specs.proof.ProofView.{FailsToEmit, FailsCheck, EmitsChecked, session_of}
use Rattle.sat_solver.specs.assumptions.Core.{CoreWasWritten}
use Rattle.sat_parts.specs.parts.Full.{IsBufferFull}
use Rattle.sat_solver.specs.cdcl.Faults.{StoresError, MissesOnlyByFault}
use Rattle.sat_solver.specs.cdcl.StepEffects.{IsFaultOr, EmitsUpToFault}
use Rattle.sat_solver.specs.Models.{model_to, named_to}
use Rattle.sat_solver.specs.variables.Variables.{names_used, variables_used}
use Rattle.sat_solver.specs.declared.error.SolverError.{SolverError}
use Rattle.sat_solver.specs.declared.error.SolverError.TheVariants as errors
use Rattle.sat_solver.specs.declared.variables.Variables.{Variables}
use Rattle.sat_solver.specs.declared.context.Context.{Context}
use Rattle.sat_solver.specs.declared.proof.emitted.CheckFault.TheVariants as checks
use Rattle.sat_solver.specs.declared.proof.Proof.{Proof}
use Rattle.sat_solver.specs.solver.Joined.{NamesSearchInvariant, lit_over_names}

-- one literal code for every proof variable in use, by increasing variable, with its value in the search, or its unit's
-- without an index; a variable without a value is negative
abbrev pub model_of : {W L : Type 0} {G : Ghosts L} → Variables → Context W L G → List ℕ
model_of n c = model_to n c.search.parts.assignment.current (variables_used n)

-- one literal code over names for every name in use, by increasing name, with the value of its variable in the search;
-- a variable without a value is false
abbrev pub line_of_names : {W L : Type 0} {G : Ghosts L} → Variables → Context W L G → List ℕ
line_of_names n c = named_to n c.search.parts.assignment.current (names_used n)

-- `CallFails seen e a b` holds if a call failed with `e` (memory, counters, target, listener) after some steps, which
-- are written up to a fault; `StoreFull` is returned only if the clause buffer is full
pub record CallFails {W L : Type 0} {G : Ghosts L} (seen : W → Writer) (e : SolverError) (a b : Context W L G) : Type 0 where
  pub fault : IsFaultOr (IsBufferFull b.search.parts) e
  pub steps : List Step
  pub went : EmitsUpToFault {A = Unit {0}} seen (Err e) steps a.proof b.proof
  pub loss : MissesOnlyByFault e a.proof b.proof

-- `CallFailsWithStoredError seen e a b` holds if a call failed with `e` after some steps, as `CallFails` says, and the
-- proof stores the underlying error of the target or listener until it is reported
abbrev pub CallFailsWithStoredError : {W L : Type 0} {G : Ghosts L} → (W → Writer) → SolverError → Context W L G → Context W L G → Type 0
CallFailsWithStoredError seen e a b = CallFails seen e a b × StoresError e b.proof

-- `EngineFlushFails seen e old new` holds if a call that made no step failed with `e`: writing pending bytes failed, or
-- the solver's own checker failed at a pending unit conflict
abbrev pub EngineFlushFails : {W L : Type 0} {G : Ghosts L} → (W → Writer) → SolverError → Proof W L G → Proof W L G → Type 0
EngineFlushFails seen (errors.ProofIoError cause) old new = FailsToEmit seen [] old new
EngineFlushFails seen errors.OutOfMemory old new = FailsCheck seen checks.OutOfMemory [] old new
EngineFlushFails seen errors.CounterEnd old new = FailsCheck seen checks.CounterEnd [] old new
EngineFlushFails seen (errors.ProofProcessorError cause) old new = FailsCheck seen (checks.Processor cause) [] old new
EngineFlushFails seen e old new = ⊥

-- `WritesModel seen n a b` holds if exactly one step was made, the model of all proof variables in use; names, search
-- and parameters are unchanged
pub record WritesModel {W L : Type 0} {G : Ghosts L} (seen : W → Writer) (n : Variables) (a b : Context W L G) : Type 0 where
  pub adds : EmitsChecked seen (Model (model_of n a) ∷ []) a.proof b.proof
  pub joined : NamesSearchInvariant n b
  pub search : b.search ≡ a.search
  pub config : b.config ≡ a.config

-- `WritesModelOrFails seen r n a b` holds if `r` is `Ok` and the step with the model of all proof variables was made,
-- or `r` is an error (`StoresError`)
abbrev pub WritesModelOrFails : {W L : Type 0} {G : Ghosts L} → (W → Writer) → Result (Unit {0}) SolverError → Variables → Context W L G → Context W L G → Type 0
WritesModelOrFails seen r n a b = MatchResult r (λ _. WritesModel seen n a b) (λ e. CallFailsWithStoredError seen e a b)

-- `WritesFailedCore seen n a b core` holds if the search's failed core was written as a step; `core` has the same
-- literals as codes over names
pub record WritesFailedCore {W L : Type 0} {G : Ghosts L} (seen : W → Writer) (n : Variables) (a b : Context W L G) (core : List ℕ) : Type 0 where
  pub steps : List Step
  pub adds : EmitsChecked seen steps a.proof b.proof
  pub reported : CoreWasWritten steps (session_of b.proof) a.search b.search
  pub joined : NamesSearchInvariant n b
  pub config : b.config ≡ a.config
  pub named : core ≡ map (lit_over_names n) b.search.analysis.core

-- `WritesFailedCoreOrFails seen r n a b core` holds if `r` is `Ok`, exactly the step with the search's failed core was
-- made, and `core` has its literals as codes over names; or `r` is an error (`StoresError`)
abbrev pub WritesFailedCoreOrFails : {W L : Type 0} {G : Ghosts L} → (W → Writer) → Result (Unit {0}) SolverError → Variables → Context W L G → Context W L G → List ℕ → Type 0
WritesFailedCoreOrFails seen r n a b core = MatchResult r (λ _. WritesFailedCore seen n a b core) (λ e. CallFailsWithStoredError seen e a b)
