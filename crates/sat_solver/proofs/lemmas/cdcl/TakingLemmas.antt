-- A learned clause is stored after levels were undone and headers changed.
use Rattle.std.proofs.Common.{ℕ, ◌≡◌, ◌∙◌, Bool, List, length, get_or, refl, ap, subst, Result, Ok, Err, OnOk}
use Rattle.sat_store.specs.clause.Header.{Header}
use Rattle.sat_parts.specs.clause.Activity.{ActivityScale}
use Rattle.sat_parts.specs.clause.Db.{Db}
use Rattle.sat_parts.specs.prop.State.{PropagationState}
use Rattle.sat_parts.specs.prop.Trails.{TrailState, without_levels_above, with_lit}
use Rattle.sat_parts.specs.prop.TrailWord.{LevelsBeginWithDecisions}
use Rattle.sat_store.specs.heap.Vsids.{Queue}
use Rattle.sat_solver.specs.analyze_conflict.AnalysisState.{AnalysisState}
use Rattle.sat_parts.specs.declared.parts.SearchState.{SearchState}
use Rattle.sat_parts.specs.parts.Frame.{SameClauses, AddsNoUnit, KeepsLevelsTo, AddsLearnedClause, ChangesHeaders}
use Rattle.sat_parts.specs.parts.Learned.{IsAnalyzedClause, IsUnitAfterBacktracking}
use Rattle.sat_parts.specs.parts.Whole.{state, SearchStateInvariant}
use Rattle.sat_parts.specs.parts.Words.{KeepsRemovedAndIdle, KeepsRemovedAndIdleForAll}
use Rattle.sat_parts.proofs.lemmas.parts.KeepLemmas.{keeps_trans}
use Rattle.sat_parts.proofs.lemmas.parts.WordSteps.{rises_taken}
use Rattle.sat_solver.proofs.lemmas.fits.FramedParts.{fits_headed}
use Rattle.sat_solver.proofs.lemmas.fits.LearnedLemmas.{size_learnt, fits_learnt, fits_undone, false_signs}
use Rattle.sat_solver.specs.clause.Assessed.{clause_level_count, BumpsClauses, AreAntecedents}
use Rattle.sat_solver.specs.declared.context.Search.{Search}
use Rattle.sat_solver.specs.cdcl.Joint.{HasClearFlags, SameVarsAndAssumptions}
use Rattle.sat_solver.specs.cdcl.Learning.{UndoesAndLearns, BumpsAntecedents}
use Rattle.sat_solver.proofs.lemmas.cdcl.LearningLemmas.{keeps_learnt, starts_learnt}

module _ (p mid q n : SearchState) (header : Header) (ls : List ℕ) (top : ℕ) (levelled : LevelsBeginWithDecisions (state p)) (learned : IsAnalyzedClause (state p) ls top)
    (trail : mid.trail ≡ without_levels_above top p.trail) (starts : length mid.trail.starts ≡ top) (same : SameClauses p mid) (carries : AddsNoUnit (state p) (state mid)) (keeps : KeepsLevelsTo top (state p) (state mid)) (stay : KeepsRemovedAndIdleForAll p mid)
    (pending : IsUnitAfterBacktracking (state mid) mid.vsids ls) (headed : ChangesHeaders mid q) (holds : SearchStateInvariant q) where
  same_state : state q ≡ state mid
  same_state = rw (headed.same.0.0, headed.same.0.1, headed.same.0.2) (refl {a = state mid})

  pub still_pending : IsUnitAfterBacktracking (state q) q.vsids ls
  still_pending = rw (same_state, headed.same.2) pending

  stay_before : KeepsRemovedAndIdleForAll q n → KeepsRemovedAndIdleForAll mid n
  stay_before x am = subst (λ (v : Queue). KeepsRemovedAndIdle am (state mid) v (state n) n.vsids) headed.same.2 (subst (λ (s : PropagationState). KeepsRemovedAndIdle am s q.vsids (state n) n.vsids) same_state (x am))

  taken : SearchStateInvariant n → n.trail ≡ with_lit (get_or ls 0 0) q.trail → AddsLearnedClause q n header ls → KeepsRemovedAndIdleForAll q n → UndoesAndLearns p n header ls top
  taken after last learnt more = record {
    holds = after;
    fits = λ s global hashes flag flags names fits.
        fits_learnt q n s global header ls hashes flag flags (false_signs p.assignment.current ls learned.falsified) names holds still_pending learnt (fits_headed mid q s global (fits_undone p mid s global same carries fits) headed);
    rises = rises_taken p mid n (get_or ls 0 0) top stay (stay_before more) trail (last ∙ ap (λ (t : TrailState). with_lit (get_or ls 0 0) t) headed.same.0.2) levelled learned.below;
    size = size_learnt q n header ls learnt ∙ ap (λ (s : PropagationState). length s.values) same_state ∙ carries.size;
    keeps = keeps_trans top (state p) (state mid) (state n) keeps (subst (λ (s : PropagationState). KeepsLevelsTo top s (state n)) same_state (keeps_learnt q n header ls top holds still_pending learnt));
    starts = ap (λ (xs : List ℕ). length xs) (starts_learnt q n header ls learnt) ∙ ap (λ (t : TrailState). length t.starts) headed.same.0.2 ∙ starts;
  }

  pub taken_ok : {E : Type 0} (r : Result (Unit {0}) E) → OnOk r (SearchStateInvariant n) → OnOk r (n.trail ≡ with_lit (get_or ls 0 0) q.trail) → OnOk r (AddsLearnedClause q n header ls) → OnOk r (KeepsRemovedAndIdleForAll q n) → OnOk r (UndoesAndLearns p n header ls top)
  taken_ok (Ok x) a b c d = taken a b c d
  taken_ok (Err e) a b c d = tt

-- undoing levels changes neither clauses nor the levels of nodes
module _ (p mid : SearchState) (same : SameClauses p mid) (graph : mid.graph ≡ p.graph) where
  pub involved_undone : (flags : List Bool) (os : List ℕ) → AreAntecedents p flags os → AreAntecedents mid flags os
  involved_undone flags os x = record {
    live = rw (same.0, same.1) x.live;
    levels = rw (same.0, graph) x.levels;
    clear = x.clear;
  }

  module _ (q n : SearchState) (s s' : ActivityScale) (w : AnalysisState) (header : Header) where
    -- the antecedents were bumped, and the learned clause was stored
    pub rated_ok : {E : Type 0} → q.db.refs ≡ mid.db.refs → BumpsClauses (clause_level_count mid) mid.db.refs w.antecedents mid.clauses s q.clauses s' → (r : Result (Unit {0}) E) → OnOk r (AddsLearnedClause q n header w.clause) → OnOk r (BumpsAntecedents p s w header n s')
    rated_ok refs take (Ok x) learnt = record {
      between = q;
      take = rw (same.0, same.1, graph) at take;
      refs = refs ∙ ap (λ (d : Db). d.refs) same.1;
      learnt = learnt;
    }
    rated_ok refs take (Err e) learnt = tt

-- `HasClearFlags` is preserved if the flags are as before
pub free_taken : (c c' : Search) → HasClearFlags c → SameVarsAndAssumptions c c' → c'.analysis ≡ c.analysis → c'.flags.flags.items ≡ c.flags.flags.items → HasClearFlags c'
free_taken c c' f moved analysis flags = record {
  names = rw (moved.globals, moved.size) f.names;
  size = rw (analysis, moved.size) f.size;
  clear = rw analysis f.clear;
  flags_size = rw (flags, moved.size) f.flags_size;
  flags_clear = rw flags f.flags_clear;
}
