-- How learning a clause changes proof and search.
use Rattle.std.specs.Prelude.{ℕ, ◌≡◌, Bool, List, ◌∷◌, ◌++◌, length, Result}
use Rattle.sat_base.specs.device.Device.{Writer}
use Rattle.sat_base.specs.steps.Steps.{Step, AtClause}
use Rattle.sat_checker.specs.declared.processing.ProofProcessor.{Ghosts}
use Rattle.sat_store.specs.clause.Header.{Header}
use Rattle.sat_store.specs.heap.Vsids.{decayed}
use Rattle.sat_parts.specs.declared.prop.graph.Conflict.{Conflict}
use Rattle.sat_parts.specs.clause.Activity.{ActivityScale}
use Rattle.sat_parts.specs.clause.Glue.{levels_of, count_distinct}
use Rattle.sat_solver.specs.analyze_conflict.AnalysisState.{AnalysisState}
use Rattle.sat_parts.specs.declared.parts.SearchState.{SearchState}
use Rattle.sat_parts.specs.parts.Frame.{SameClauses, KeepsLevelsTo, AddsLearnedClause}
use Rattle.sat_parts.specs.parts.Whole.{state, SearchStateInvariant}
use Rattle.sat_parts.specs.parts.Words.{TrailWordIncreases}
use Rattle.sat_parts.specs.parts.Full.{IsBufferFull}
use Rattle.sat_solver.specs.proof.ProofView.{steps_of, session_of}
use Rattle.sat_solver.specs.session.Session.{Session, session_after}
use Rattle.sat_solver.specs.declared.proof.Proof.{Proof}
use Rattle.sat_solver.specs.declared.error.SolverError.{SolverError}
use Rattle.sat_solver.specs.session.Empowering.{IsEmpowering}
use Rattle.sat_solver.specs.session.MatchingLaws.{named_hashes}
use Rattle.sat_solver.specs.session.Learning.{MatchesAfterLearning}
use Rattle.sat_solver.specs.session.Quiet.{AreQuiet}
use Rattle.sat_solver.specs.declared.context.Search.{Search}
use Rattle.sat_solver.specs.clause.Activity.{all_bumped}
use Rattle.sat_solver.specs.cdcl.StepEffects.{EmitsStepsOr}
use Rattle.sat_solver.specs.clause.Assessed.{learned_header, clause_level_count, BumpsClauses}
use Rattle.sat_solver.specs.cdcl.Joint.{SearchInvariant, SameVarsAndAssumptions}
use Rattle.sat_solver.specs.unit_simplify.AfterUnits.{SameSize}

-- `LastIsEmpowering earlier steps` holds if the newest of `steps` derives a clause that is empowering after all steps
-- before it, and no other one is an `AtClause` step with a nonempty clause and two or more hashes
pub record LastIsEmpowering (earlier steps : List Step) : Type 0 where
  pub redundant : Bool
  pub clause : List ℕ
  pub hashes : List ℕ
  pub rest : List Step
  pub is : steps ≡ AtClause redundant clause hashes ∷ rest
  pub advances : IsEmpowering (session_after (rest ++ earlier)) clause
  pub quiet : AreQuiet rest

-- `LearnEffect earlier steps s c c'` holds if the newest of `steps` derived an empowering clause, the word that encodes
-- the trail rose lexicographically, variables and assumptions are unchanged, and the invariant of the search holds
pub record LearnEffect (earlier steps : List Step) (s : Session) (c c' : Search) : Type 0 where
  pub search : SearchInvariant s c'
  pub moved : SameVarsAndAssumptions c c'
  pub rises : TrailWordIncreases c.parts c'.parts
  pub last : LastIsEmpowering earlier steps

-- `LearnsClause seen r p p' c c'` holds if `r` is `Ok` and an empowering clause was learned from a conflict, with its
-- step, or `r` is an error (`StoresError`); `StoreFull` only if the buffer is full
abbrev pub LearnsClause : {W L : Type 0} {G : Ghosts L} → (W → Writer) → Result (Unit {0}) SolverError → Proof W L G → Proof W L G → Search → Search → Type 0
LearnsClause seen r p p' c c' = EmitsStepsOr (IsBufferFull c'.parts) seen r p p' (λ _ steps. LearnEffect (steps_of p) steps (session_of p') c c')

-- the 64-bit hashes of the clauses from which the learned clause follows: the reasons of the used literals, in order,
-- and the falsified clause last
abbrev pub learned_hashes : SearchState → AnalysisState → Conflict → List ℕ
learned_hashes p w e = named_hashes p.clauses (state p) w.used e

-- `UndoesAndLearns p p' header ls level` holds if the levels above `level` were undone and the learned clause `ls` was
-- stored with this header; sessions that matched still match after its step, and the word that encodes the trail rose
pub record UndoesAndLearns (p p' : SearchState) (header : Header) (ls : List ℕ) (level : ℕ) : Type 0 where
  pub holds : SearchStateInvariant p'
  pub fits : MatchesAfterLearning p p' header ls
  pub rises : TrailWordIncreases p p'
  pub size : SameSize p p'
  pub keeps : KeepsLevelsTo level (state p) (state p')
  pub starts : length p'.trail.starts ≡ level

-- `BumpsAntecedents p s w header p' s'` holds if the activity of every antecedent was bumped, the falsified clause
-- first, and its glue updated by the levels before backtracking; then activities decayed, and a clause with this
-- header was stored
pub record BumpsAntecedents (p : SearchState) (s : ActivityScale) (w : AnalysisState) (header : Header) (p' : SearchState) (s' : ActivityScale) : Type 0 where
  pub between : SearchState
  pub take : BumpsClauses (clause_level_count p) p.db.refs w.antecedents p.clauses s between.clauses s'
  pub refs : between.db.refs ≡ p.db.refs
  pub learnt : AddsLearnedClause between p' header w.clause

-- `SearchBumpsAntecedents c c'` holds if the activity of every antecedent was bumped and its glue updated, activities
-- of clauses decayed, and the learned clause was stored, with one less than the number of levels of its literals as its
-- glue
abbrev pub SearchBumpsAntecedents : Search → Search → Type 0
SearchBumpsAntecedents c c' = BumpsAntecedents c.parts c.activity c'.analysis (learned_header (count_distinct (levels_of c.parts.graph c'.analysis.clause))) c'.parts c'.activity

-- `BumpsSeenVars c c'` holds if antecedents were bumped and the learned clause stored, then every seen variable was
-- bumped, and activities of variables decayed; the latter changes no clause
pub record BumpsSeenVars (c c' : Search) : Type 0 where
  pub following : Search
  pub rated : SearchBumpsAntecedents c following
  pub rest : c' ≡ record following { parts = c'.parts }
  pub clauses : SameClauses following.parts c'.parts
  pub queue : c'.parts.vsids ≡ decayed (all_bumped following.analysis.seen following.parts.vsids)
