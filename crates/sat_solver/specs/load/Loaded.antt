-- How loading a clause changes a search.
use Rattle.std.specs.Prelude.{ℕ, ◌≡◌, ◌<◌, ◌*◌, Bool, true, false, List, [], ◌∷◌, map, length, Result, slice_index_or as get_or}
use Rattle.sat_base.specs.device.Device.{Writer}
use Rattle.sat_base.specs.steps.Steps.{Step, AddClause, DeleteClause, Satisfied}
use Rattle.sat_checker.specs.declared.processing.ProofProcessor.{Ghosts}
use Rattle.sat_checker.specs.LiteralSets.{is_tautology}
use Rattle.sat_parts.specs.clause.Orders.{AreDistinct}
use Rattle.sat_solver.specs.session.Session.{Session, session_after}
use Rattle.sat_solver.specs.session.LiveClauses.{with_var, AreMapped}
use Rattle.sat_solver.specs.proof.ProofView.{steps_of, session_of}
use Rattle.sat_solver.specs.declared.proof.Proof.{Proof}
use Rattle.sat_solver.specs.declared.error.SolverError.{SolverError}
use Rattle.sat_parts.specs.parts.Full.{IsBufferFull}
use Rattle.sat_solver.specs.cdcl.StepEffects.{EmitsSteps, EmitsStepsOr}
use Rattle.sat_solver.specs.cdcl.Joint.{global_in, SearchInvariant, SameVarsAndAssumptions}
use Rattle.sat_solver.specs.declared.context.Search.{Search}

-- `CanLoad c ls` holds if the search is at level 0, and the clause `ls` (search literals) is over different variables
-- below the number of indices, so that it may be loaded
pub record CanLoad (c : Search) (ls : List ℕ) : Type 0 where
  pub bottom : c.parts.trail.starts ≡ []
  pub differ : AreDistinct ls
  pub plain : is_tautology ls ≡ false
  pub below : (k : ℕ) → k < length ls → get_or ls k 0 < 2 * length c.parts.assignment.current

-- `IsAdded steps c ls` holds if the last step added the clause `ls` (search literals, written over proof variables that
-- have these indices), and the invariant of the search held before that step
pub record IsAdded (steps : List Step) (c : Search) (ls : List ℕ) : Type 0 where
  pub earlier : List Step
  pub added : steps ≡ AddClause (map (with_var (global_in c)) ls) ∷ earlier
  pub search : SearchInvariant (session_after earlier) c
  pub named : AreMapped (global_in c) (session_after earlier).solver_names ls

-- `SearchInvariantOrUnsat left s c` holds if the invariant of the search holds or, if the flag `left` (the formula may
-- still be satisfiable) is false, unsat is recorded in the session
abbrev pub SearchInvariantOrUnsat : Bool → Session → Search → Type 0
SearchInvariantOrUnsat true s c = SearchInvariant s c
SearchInvariantOrUnsat false s c = s.unsat ≡ true

-- `IsLoaded left s c c'` holds if the search is at level 0, and its invariant holds or, if the flag `left` is false,
-- unsat is recorded in the session; variables and assumptions are unchanged
pub record IsLoaded (left : Bool) (s : Session) (c c' : Search) : Type 0 where
  pub goes_on : SearchInvariantOrUnsat left s c'
  pub moved : SameVarsAndAssumptions c c'
  pub bottom : c'.parts.trail.starts ≡ []

-- the step that deletes the clause `ls` (search literals, written over their proof variables) because one of its
-- literals is true
abbrev pub satisfied_step : (global : ℕ → ℕ) → List ℕ → Step
satisfied_step global ls = DeleteClause (map (with_var global) ls) Satisfied

-- `DeletesSatisfied seen r p p' global ls` holds if exactly one step was made, which deletes the clause `ls` (written
-- over proof variables by `global`) because one of its literals is true; or `r` is an error
abbrev pub DeletesSatisfied : {W L : Type 0} {G : Ghosts L} → (W → Writer) → Result (Unit {0}) SolverError → Proof W L G → Proof W L G → (global : ℕ → ℕ) → List ℕ → Type 0
DeletesSatisfied seen r p p' global ls = EmitsSteps seen r p p' (λ _ _. steps_of p' ≡ satisfied_step global ls ∷ steps_of p)

-- `DeletesTrue seen r p p' global ls` holds if exactly one step was made, which deletes the clause `ls` because one of
-- its literals is true, and `r` is true: the formula may still be satisfiable; or `r` is an error
abbrev pub DeletesTrue : {W L : Type 0} {G : Ghosts L} → (W → Writer) → Result Bool SolverError → Proof W L G → Proof W L G → (global : ℕ → ℕ) → List ℕ → Type 0
DeletesTrue seen r p p' global ls = EmitsSteps seen r p p' (λ left _. (left ≡ true) × (steps_of p' ≡ satisfied_step global ls ∷ steps_of p))

-- `LoadsClause seen r p p' c c'` holds if the steps made only derive or delete clauses, and at level 0 `r` is true and
-- the search matches the session again, with the clause that was added before, or `r` is false and unsat is recorded;
-- or `r` is an error, `StoreFull` only if the buffer is full
abbrev pub LoadsClause : {W L : Type 0} {G : Ghosts L} → (W → Writer) → Result Bool SolverError → Proof W L G → Proof W L G → Search → Search → Type 0
LoadsClause seen r p p' c c' = EmitsStepsOr (IsBufferFull c'.parts) seen r p p' (λ left _. IsLoaded left (session_of p') c c')
