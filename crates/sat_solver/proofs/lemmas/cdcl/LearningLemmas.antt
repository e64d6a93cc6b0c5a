-- A clause is learned, written and stored.
use Rattle.std.proofs.Common.{ℕ, ◌<◌, ◌≡◌, ◌∙◌, Bool, true, List, [], ◌∷◌, length, map, get_or, refl, sym, ap, subst, Some}
use Rattle.sat_base.specs.steps.Steps.{Step, AtClause}
use Rattle.sat_store.specs.clause.Header.{Header}
use Rattle.sat_parts.specs.declared.prop.graph.Conflict.{Conflict}
use Rattle.sat_parts.specs.prop.ReasonLits.{conflict_lits}
use Rattle.sat_parts.specs.clause.Db.{live_refs}
use Rattle.sat_solver.specs.session.Session.{CanDerive, after, session_after}
use Rattle.sat_solver.specs.session.LiveClauses.{with_var, AreMapped}
use Rattle.sat_solver.specs.analyze_conflict.AnalysisState.{AnalysisState}
use Rattle.sat_solver.specs.analyze_conflict.Derivation.{AnalysisResult}
use Rattle.sat_parts.specs.declared.parts.SearchState.{SearchState}
use Rattle.sat_parts.specs.parts.Whole.{state, SearchStateInvariant, HasConflict}
use Rattle.sat_parts.specs.parts.Words.{TrailWordIncreases}
use Rattle.sat_solver.specs.session.MatchingLaws.{named_hashes}
use Rattle.sat_solver.specs.session.Matching.{SessionMatchesParts, FlagMatches, SearchStateSessionInvariant, TrueLitsHaveIndices}
use Rattle.sat_solver.specs.session.Learning.{MatchesAfterLearning}
use Rattle.sat_solver.proofs.lemmas.fits.MayLemmas.{learned_may}
use Rattle.sat_solver.proofs.lemmas.fits.AdvanceLemmas.{learned_clause_advances}
use Rattle.sat_solver.proofs.lemmas.session.UnitLemmas.{units_consistent}
use Rattle.sat_parts.specs.declared.prop.graph.Reason.{Reason}
use Rattle.sat_parts.specs.prop.State.{PropagationState, enqueued}
use Rattle.sat_parts.specs.parts.Assumed.{PlacesAreCorrect}
use Rattle.sat_parts.specs.parts.Frame.{AddsLearnedClause, learned_unit, learned_binary, learned_long, KeepsLevelsTo}
use Rattle.sat_parts.specs.parts.Learned.{IsUnitAfterBacktracking}
use Rattle.sat_parts.proofs.lemmas.parts.KeepLemmas.{keeps_enqueued}
use Rattle.sat_solver.specs.declared.context.Search.{Search}
use Rattle.sat_solver.specs.cdcl.StepEffects.{is_search_step}
use Rattle.sat_solver.specs.cdcl.Joint.{global_in, HasClearFlags, IsReadySearch, SameVarsAndAssumptions, assumed_indices}
use Rattle.sat_solver.specs.unit_simplify.AfterUnits.{SameSize}
use Rattle.sat_solver.specs.cdcl.Learning.{LastIsEmpowering, LearnEffect}
use Rattle.sat_solver.proofs.lemmas.cdcl.AskedLemmas.{leaves_after}
use Rattle.sat_solver.proofs.lemmas.cdcl.TurnLemmas.{ready_moved}
use Rattle.sat_base.specs.values.Literals.{variable, negated}
use Rattle.sat_solver.proofs.lemmas.fits.FitLemmas.{all_at}
use Rattle.sat_parts.proofs.lemmas.prop.StateLemmas.{negated_variable, true_from_false}

module _ (p : SearchState) (e : Conflict) (w : AnalysisState) (back : ℕ) (steps : List Step) (global : ℕ → ℕ) (refuted : HasConflict p e) (above : 0 < length p.trail.starts) (fits : SessionMatchesParts p (session_after steps) global) (names : TrueLitsHaveIndices p.assignment.current (session_after steps) global)
    (learns : AnalysisResult p.clauses (state p) (conflict_lits p.clauses e) w back) where
  clause_named : AreMapped global (session_after steps).solver_names w.clause
  clause_named = all_at (λ l. (session_after steps).solver_names (global (variable l)) ≡ Some (variable l)) w.clause (λ k lt.
      let l : ℕ = get_or w.clause k 0 in
      subst (λ v. (session_after steps).solver_names (global v) ≡ Some v) (negated_variable l) (names (negated l) (true_from_false p.assignment.current l (learns.asserting.fails k lt))))

  -- the step that derives the learned clause may be written
  pub learned_allowed : (clause hashes : List ℕ) → clause ≡ map (with_var global) w.clause → hashes ≡ named_hashes p.clauses (state p) w.used e → CanDerive (session_after steps) clause hashes
  learned_allowed clause hashes c h =
      rw (c, h)
      (learned_may p.clauses (live_refs p.clauses p.db.refs) p.binary.implied (state p) (session_after steps) global e w back fits refuted.0.propagation.agrees refuted.0.propagation.clauses (refuted.2 above).0 refuted.0.reasons refuted.1 learns)

  -- after this step, parts with the stored clause match the session
  pub learned_stands : (q : SearchState) (header : Header) (clause hashes : List ℕ) (flag : Bool) (new : List Step) → clause ≡ map (with_var global) w.clause → FlagMatches flag header w.clause →
      new ≡ AtClause flag clause hashes ∷ steps → SearchStateInvariant q → MatchesAfterLearning p q header w.clause → SearchStateSessionInvariant q (session_after new) global
  learned_stands q header clause hashes flag new c flags added holds takes = record {
    holds = holds;
    fits = subst (λ t. SessionMatchesParts q t global) (sym (ap session_after added ∙ ap (λ ls. after (AtClause flag ls hashes) (session_after steps)) c)) (takes (session_after steps) global hashes flag flags clause_named fits);
  }

  pub learned_last : (clause hashes : List ℕ) (flag : Bool) → clause ≡ map (with_var global) w.clause → LastIsEmpowering steps (AtClause flag clause hashes ∷ [])
  learned_last clause hashes flag c = record {
    redundant = flag;
    clause = clause;
    hashes = hashes;
    rest = [];
    is = refl;
    quiet = tt;
    advances = rw c (learned_clause_advances p e w back (session_after steps) global (units_consistent steps) refuted fits names learns);
  }

-- the search after a clause was learned
pub learned_whole : (steps new : List Step) (step : Step) (c c' : Search) → IsReadySearch (session_after steps) c → is_search_step step ≡ true → new ≡ step ∷ steps → SearchStateSessionInvariant c'.parts (session_after new) (global_in c) → TrailWordIncreases c.parts c'.parts → SameSize c.parts c'.parts → LastIsEmpowering steps (step ∷ []) →
    c'.globals ≡ c.globals → c'.assumptions.lits ≡ c.assumptions.lits → PlacesAreCorrect c'.assumptions (state c'.parts) → HasClearFlags c' → LearnEffect steps (step ∷ []) (session_after new) c c'
learned_whole steps new step c c' ready s added valid rises size last globals lits placed free =
    let moved : SameVarsAndAssumptions c c' = record { globals = globals; lits = lits; size = size } in
    record {
      search = record { valid = rw globals valid; ready = ready_moved (session_after steps) (session_after new) c c' ready (rw added (leaves_after (step ∷ []) steps (s, tt))) moved (rises (assumed_indices c)).0 placed free };
      moved = moved;
      rises = rises;
      last = last;
    }

-- enqueuing the first literal preserves the levels up to `top`
module _ (p q : SearchState) (header : Header) (ls : List ℕ) (top : ℕ) (h : SearchStateInvariant p) (pending : IsUnitAfterBacktracking (state p) p.vsids ls) where
  enqueued_by : (r : Reason) → state q ≡ enqueued (get_or ls 0 0) r (state p) → KeepsLevelsTo top (state p) (state q)
  enqueued_by r e = subst (λ s. KeepsLevelsTo top (state p) s) (sym e) (keeps_enqueued top (state p) (get_or ls 0 0) r h.below.propagation.agrees h.below.levelled pending.open_first pending.there)

  pub keeps_learnt : AddsLearnedClause p q header ls → KeepsLevelsTo top (state p) (state q)
  keeps_learnt (learned_unit n same r caused e) = enqueued_by r e
  keeps_learnt (learned_binary n cs db b r caused e) = enqueued_by r e
  keeps_learnt (learned_long n o adds b r caused e) = enqueued_by r e

pub starts_learnt : (p q : SearchState) (header : Header) (ls : List ℕ) → AddsLearnedClause p q header ls → q.trail.starts ≡ p.trail.starts
starts_learnt p q header ls (learned_unit n same r caused e) = ap (λ (s : PropagationState). s.trail.starts) e
starts_learnt p q header ls (learned_binary n cs db b r caused e) = ap (λ (s : PropagationState). s.trail.starts) e
starts_learnt p q header ls (learned_long n o adds b r caused e) = ap (λ (s : PropagationState). s.trail.starts) e
