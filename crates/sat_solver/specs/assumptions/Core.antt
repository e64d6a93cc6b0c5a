-- The step for a failed core: assumptions that contradict the clauses.
use Rattle.std.specs.Prelude.{ℕ, ◌≡◌, ◌<◌, Bool, true, false, List, [], ◌∷◌, map, length, MatchResult, IfErr, Result, slice_index_or as get_or}
use Rattle.std.specs.List.{AllByRecursion, Contains}
use Rattle.sat_base.specs.device.Device.{Writer}
use Rattle.sat_base.specs.values.Hashes.{hash_of}
use Rattle.sat_base.specs.steps.Steps.{Step, FailedAssumptions}
use Rattle.sat_checker.specs.declared.processing.ProofProcessor.{Ghosts}
use Rattle.sat_solver.specs.session.LiveClauses.{with_var}
use Rattle.sat_solver.specs.proof.ProofView.{HasAllowedSteps, session_of}
use Rattle.sat_solver.specs.session.Session.{Session}
use Rattle.sat_solver.specs.declared.proof.Proof.{Proof}
use Rattle.sat_solver.specs.analyze_conflict.Derivation.{clause_of}
use Rattle.sat_parts.specs.declared.parts.SearchState.{SearchState}
use Rattle.sat_parts.specs.parts.Whole.{state}
use Rattle.sat_solver.specs.declared.error.SolverError.{SolverError}
use Rattle.sat_solver.specs.declared.context.Search.{Search}
use Rattle.sat_solver.specs.cdcl.Faults.{StoresError, MissesOnlyByFault}
use Rattle.sat_solver.specs.cdcl.StepEffects.{IsFault, EmitsUpToFault}
use Rattle.sat_solver.specs.cdcl.Joint.{global_in, SearchInvariant, SameVarsAndAssumptions}
use Rattle.sat_solver.specs.analyze_conflict.AnalysisState.{AnalysisState}
use Rattle.sat_solver.specs.assumptions.FailedAssumptions.{IsFailedAssumption}

-- `AssumptionFails p failed w` holds if the assumption `failed` fails in the search `p`: together with the other
-- assumptions in the core of `w`, it is refuted by the reasons of the used literals of `w`
abbrev pub AssumptionFails : SearchState → (failed : ℕ) → AnalysisState → Type 0
AssumptionFails p failed w = IsFailedAssumption p.clauses (state p) failed w.core w.used

-- the 64-bit hashes of the reasons of the literals `used`, in order
abbrev pub causes_hashes : SearchState → List ℕ → List ℕ
causes_hashes p used = map (λ l. hash_of (clause_of p.clauses (state p) l)) used

-- `is_core step` is true if the step is a failed core
abbrev pub is_core : Step → Bool
is_core (FailedAssumptions core hashes) = true
is_core step = false

-- `IsFailedCoreOf assumed failed core` holds if `core` begins with the failed assumption `failed`, and all its literals
-- are among the assumptions `assumed`
pub record IsFailedCoreOf (assumed : List ℕ) (failed : ℕ) (core : List ℕ) : Type 0 where
  pub some : 0 < length core
  pub first : get_or core 0 0 ≡ failed
  pub among : (k : ℕ) → k < length core → Contains assumed (get_or core k 0)

-- `CoreWasWritten steps s c c'` holds if `steps` is the one step that writes the core of `c'`, which begins with the
-- failed assumption and has only assumptions, with the hashes of the reasons used. The parts are unchanged, and the
-- invariant of the search holds.
pub record CoreWasWritten (steps : List Step) (s : Session) (c c' : Search) : Type 0 where
  pub is : steps ≡ FailedAssumptions (map (with_var (global_in c)) c'.analysis.core) (causes_hashes c.parts c'.analysis.used) ∷ []
  pub failed : IsFailedCoreOf c.assumptions.lits.items c.failed c'.analysis.core
  pub search : SearchInvariant s c'
  pub moved : SameVarsAndAssumptions c c'
  pub same : c'.parts ≡ c.parts

-- `WritesCoreStep seen result old new c c'` holds if `result` is `Ok` and exactly the step with the failed core was
-- made, or `result` is an error (`StoresError`); no other kind of step was made
pub record WritesCoreStep {W L : Type 0} {G : Ghosts L} (seen : W → Writer) (result : Result (Unit {0}) SolverError) (old new : Proof W L G) (c c' : Search) : Type 0 where
  pub steps : List Step
  pub went : EmitsUpToFault seen result steps old new
  pub core : AllByRecursion (λ step. is_core step ≡ true) steps
  pub keeps : HasAllowedSteps new
  pub kept : IfErr result (λ e. StoresError e new)
  pub loss : IfErr result (λ e. MissesOnlyByFault e old new)
  pub ends : MatchResult result (λ _. CoreWasWritten steps (session_of new) c c') IsFault
