-- A clause, or assumptions, over names: how names, search and proof change.
use Rattle.std.specs.Prelude.{ℕ, ◌≡◌, ◌⊎◌, Bool, true, false, List, [], ◌∷◌, ◌++◌, map, MatchResult, Result, Err}
use Rattle.sat_base.specs.device.Device.{Writer}
use Rattle.sat_base.specs.script.ScriptState.{introduce_all, with_clause}
use Rattle.sat_base.specs.steps.Steps.{Step}
use Rattle.sat_checker.specs.declared.processing.ProofProcessor.{Ghosts}
use Rattle.sat_solver.specs.session.Emitting.{EmitsSomeChecked}
use Rattle.sat_solver.specs.proof.ProofView.{steps_of, session_of}
use Rattle.sat_solver.specs.declared.error.SolverError.{SolverError}
use Rattle.sat_solver.specs.declared.error.SolverError.TheVariants as errors
use Rattle.sat_parts.specs.parts.Full.{IsBufferFull}
use Rattle.sat_solver.specs.cdcl.Faults.{StoresError, MissesOnlyByFault}
use Rattle.sat_solver.specs.cdcl.StepEffects.{IsFaultOr, EmitsUpToFault}
use Rattle.sat_solver.specs.load.Literals.{user_literal, AreImages}
use Rattle.sat_solver.specs.variables.Calls.{ChangesScriptState}
use Rattle.sat_solver.specs.variables.NamingSteps.{IsClauseStep, IsLiteralsStep}
use Rattle.sat_solver.specs.variables.Ordering.{AddsInOrder}
use Rattle.sat_solver.specs.session.AllowedSteps.{OnlyAllowedSteps}
use Rattle.sat_checker.specs.matching.Expected.{Outcome, Adds, Opens, steps_introducing}
use Rattle.sat_solver.specs.variables.Naming.{KeepsNames}
use Rattle.sat_solver.specs.variables.Refusing.{names_in}
use Rattle.sat_solver.specs.declared.variables.Variables.{Variables}
use Rattle.sat_solver.specs.declared.load.literals.MappedLits.{MappedLits}
use Rattle.sat_solver.specs.declared.context.Context.{Context}
use Rattle.sat_solver.specs.solver.Joined.{NamesSearchInvariant, AreNamedAssumptions}

-- `KeepsImages n n'` holds if every literal over names that has a search literal by the names `n` has the same one by
-- the names `n'`
abbrev pub KeepsImages : Variables → Variables → Type 0
KeepsImages n n' = (user order : List ℕ) → AreImages n user order → AreImages n' user order

-- `NamesSearchInvariantOrUnsat left n c` holds if the invariant of names and search holds or, if `left` (the formula
-- may still be satisfiable) is false, the proof has recorded unsat
abbrev pub NamesSearchInvariantOrUnsat : Bool → {W L : Type 0} {G : Ghosts L} → Variables → Context W L G → Type 0
NamesSearchInvariantOrUnsat true n c = NamesSearchInvariant n c
NamesSearchInvariantOrUnsat false n c = (session_of c.proof).unsat ≡ true

-- `ClauseAddedToSearch seen n n' a b user left` holds if the clause `user` was added, which changed the names from `n`
-- to `n'` and proof and search from `a` to `b`; if `left` is false, unsat is recorded. Assumptions and parameters are
-- unchanged.
pub record ClauseAddedToSearch {W L : Type 0} {G : Ghosts L} (seen : W → Writer) (n n' : Variables) (a b : Context W L G) (user : List ℕ) (left : Bool) : Type 0 where
  pub does : ChangesScriptState n n' (steps_of a.proof) (steps_of b.proof) (λ j. with_clause (map user_literal user) (introduce_all (names_in user) j)) (λ j. steps_introducing (names_in user) j ++ (Adds (map user_literal user) ∷ []))
  pub took : EmitsSomeChecked seen a.proof b.proof
  pub comes : OnlyAllowedSteps (IsClauseStep (names_in user)) (steps_of a.proof) (steps_of b.proof)
  pub order : AddsInOrder (steps_of a.proof) (steps_of b.proof)
  pub goes_on : NamesSearchInvariantOrUnsat left n' b
  pub names : KeepsNames n n'
  pub images : KeepsImages n n'
  pub lits : b.search.assumptions.lits ≡ a.search.assumptions.lits
  pub config : b.config ≡ a.config
  pub assumed : (session_of b.proof).assumed ≡ (session_of a.proof).assumed

-- `IsNameErrorOr full e` holds if a call over names may return `e` when it fails: `VariableLimit`, out of memory, an
-- exhausted counter, an error of target or listener, or `StoreFull` if `full` holds
abbrev pub IsNameErrorOr : (full : Type 0) → SolverError → Type 0
IsNameErrorOr full e = IsFaultOr full e ⊎ (e ≡ errors.VariableLimit)

-- `NameStepsFailOr full seen e a b` holds if a call over names failed with `e` after some steps, which are written up
-- to a fault; the own checker missed a step only if `e` is its fault or the target's. `StoreFull` is returned only if
-- `full` holds.
pub record NameStepsFailOr {W L : Type 0} {G : Ghosts L} (full : Type 0) (seen : W → Writer) (e : SolverError) (a b : Context W L G) : Type 0 where
  pub fault : IsNameErrorOr full e
  pub steps : List Step
  pub went : EmitsUpToFault {A = Unit {0}} seen (Err e) steps a.proof b.proof
  pub loss : MissesOnlyByFault e a.proof b.proof

-- `NameStepsFail seen e a b` holds if a call over names that stores no clause failed with `e` (never `StoreFull`) after
-- some steps, which are written up to a fault
abbrev pub NameStepsFail : {W L : Type 0} {G : Ghosts L} → (W → Writer) → SolverError → Context W L G → Context W L G → Type 0
NameStepsFail seen e a b = NameStepsFailOr ⊥ seen e a b

-- `NameStepsFailWithStoredError full seen e a b` holds if a call over names failed with `e` after some steps, as
-- `NameStepsFailOr` says, and the proof stores the underlying error of the target or listener until it is reported
abbrev pub NameStepsFailWithStoredError : {W L : Type 0} {G : Ghosts L} → (full : Type 0) → (W → Writer) → SolverError → Context W L G → Context W L G → Type 0
NameStepsFailWithStoredError full seen e a b = NameStepsFailOr full seen e a b × StoresError e b.proof

-- `AddsClauseToSearch seen r n n' a b user` holds if `r` is the result of adding the clause `user` to names, search and
-- proof: false if unsat was recorded, true otherwise, or an error, `StoreFull` only if the buffer is full
abbrev pub AddsClauseToSearch : {W L : Type 0} {G : Ghosts L} → (W → Writer) → Result Bool SolverError → Variables → Variables → Context W L G → Context W L G → List ℕ → Type 0
AddsClauseToSearch seen r n n' a b user = MatchResult r (ClauseAddedToSearch seen n n' a b user) (λ e. NameStepsFailWithStoredError (IsBufferFull b.search.parts) seen e a b)

-- `AssumptionsSetInSearch seen n n' a b user t` holds if the assumptions `user` replaced the earlier ones in names,
-- search and proof; `t` has them as literals of the search and of the proof
pub record AssumptionsSetInSearch {W L : Type 0} {G : Ghosts L} (seen : W → Writer) (n n' : Variables) (a b : Context W L G) (user : List ℕ) (t : MappedLits) : Type 0 where
  pub does : (o : Outcome) → ChangesScriptState n n' (steps_of a.proof) (steps_of b.proof) (introduce_all (names_in user)) (λ j. steps_introducing (names_in user) j ++ (Opens (map user_literal user) o ∷ []))
  pub comes : OnlyAllowedSteps (IsLiteralsStep (names_in user)) (steps_of a.proof) (steps_of b.proof)
  pub took : EmitsSomeChecked seen a.proof b.proof
  pub joined : NamesSearchInvariant n' b
  pub config : b.config ≡ a.config
  pub asked : AreNamedAssumptions n' b user t

-- `SetsAssumptionsInSearch seen r n n' a b user t` holds if `r` is the result of setting the assumptions `user` in
-- names, search and proof: they replace the earlier ones, or an error is returned and stored
abbrev pub SetsAssumptionsInSearch : {W L : Type 0} {G : Ghosts L} → (W → Writer) → Result (Unit {0}) SolverError → Variables → Variables → Context W L G → Context W L G → List ℕ → MappedLits → Type 0
SetsAssumptionsInSearch seen r n n' a b user t = MatchResult r (λ _. AssumptionsSetInSearch seen n n' a b user t) (λ e. NameStepsFailWithStoredError ⊥ seen e a b)
