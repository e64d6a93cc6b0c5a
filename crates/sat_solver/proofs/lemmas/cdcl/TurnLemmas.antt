-- The iterations of a search.
use Rattle.std.proofs.Common.{ℕ, ◌+◌, ◌<◌, ◌≡◌, ◌∙◌, Ok, Option, None, Some, List, length, refl, ap, arith, inl, inr, sym, subst}
use Rattle.sat_base.specs.device.Device.{Writer}
use Rattle.sat_checker.specs.declared.processing.ProofProcessor.{Ghosts}
use Rattle.sat_parts.specs.declared.prop.graph.Conflict.{Conflict}
use Rattle.sat_parts.specs.clause.Db.{live_refs}
use Rattle.sat_parts.specs.prop.Ready.{IsConflict}
use Rattle.sat_parts.specs.declared.parts.SearchState.{SearchState}
use Rattle.sat_parts.specs.parts.Assumed.{PlacesAreCorrect}
use Rattle.sat_parts.specs.parts.Frame.{ReordersLits, AddsNoUnit, KeepsLevelsTo}
use Rattle.sat_parts.specs.parts.Round.{UnitsHaveNoReason, LevelZeroInvariant}
use Rattle.sat_parts.specs.parts.Whole.{state, SearchStateInvariantBelow, IsFullyPropagated}
use Rattle.sat_parts.specs.parts.Words.{TrailWordExtends, TrailWordExtendsFor, KeepsRemovedAndIdle}
use Rattle.sat_parts.proofs.lemmas.parts.AssumeLemmas.{placed_kept}
use Rattle.sat_parts.proofs.lemmas.parts.WordSteps.{extends_after}
use Rattle.sat_solver.specs.proof.ProofView.{steps_of, session_of}
use Rattle.sat_solver.specs.declared.proof.Proof.{Proof}
use Rattle.sat_solver.specs.session.Session.{Session, session_after}
use Rattle.sat_solver.specs.session.Naming.{global_of_index}
use Rattle.sat_solver.specs.session.Matching.{SessionMatchesParts, TrueLitsHaveIndices}
use Rattle.sat_solver.proofs.lemmas.fits.LearnedLemmas.{fits_undone}
use Rattle.sat_solver.proofs.lemmas.fits.StepLemmas.{fits_propagated}
use Rattle.sat_solver.specs.declared.cdcl.find_conflict.FoundConflict.{FoundConflict}
use Rattle.sat_solver.specs.declared.cdcl.find_conflict.FoundConflict.TheVariants.{Falsified, Complete, Failed}
use Rattle.sat_solver.specs.declared.context.Search.{Search}
use Rattle.sat_solver.specs.cdcl.StepEffects.{EmitsSteps}
use Rattle.sat_solver.proofs.lemmas.cdcl.AskedLemmas.{leaves_after, kinds_of}
use Rattle.sat_solver.specs.cdcl.Joint.{global_in, assumed_indices, HasClearFlags, IsReadySearch, SearchInvariant, SameVarsAndAssumptions, SameAssumedAndNames}
use Rattle.sat_solver.specs.unit_simplify.AfterUnits.{TakesUnitsOff}
use Rattle.sat_solver.specs.cdcl.Iterations.{DecisionEffect, IsPropagated, OpensLevelOrStops, IterationResult, IterationEffect, StopsSearch}
use Rattle.sat_base.specs.values.Literals.{variable}
use Rattle.sat_parts.proofs.lemmas.prop.RoomLemmas.{below_from_value}

pub moved_refl : (c : Search) → SameVarsAndAssumptions c c
moved_refl c = record { globals = refl; lits = refl; size = refl }

pub moved_trans : (a b c : Search) → SameVarsAndAssumptions a b → SameVarsAndAssumptions b c → SameVarsAndAssumptions a c
moved_trans a b c x y = record { globals = y.globals ∙ x.globals; lits = y.lits ∙ x.lits; size = y.size ∙ x.size }

-- variables of true literals have their solver names
none_some : {A : Type 0} (x : A) → None ≡ Some x → ⊥
none_some x e = cc

pub ready_names : (s : Session) (c : Search) → IsReadySearch s c → TrueLitsHaveIndices c.parts.assignment.current s (global_in c)
ready_names s c r l t = elim (r.used (variable l) (below_from_value c.parts.assignment.current (variable l) _ t)) [
  | inl own ↦ own
  | inr idle ↦ absurd (none_some _ (sym idle.0 ∙ t))
]

pub leaves_refl : (s : Session) → SameAssumedAndNames s s
leaves_refl s = record { assumed = refl; names = λ v. refl }

-- `IsReadySearch` is preserved if variables, assumptions and names stay the same, and idle variables stay idle
pub ready_moved : (s s' : Session) (c c' : Search) → IsReadySearch s c → SameAssumedAndNames s s' → SameVarsAndAssumptions c c' → KeepsRemovedAndIdle (assumed_indices c) (state c.parts) c.parts.vsids (state c'.parts) c'.parts.vsids → PlacesAreCorrect c'.assumptions (state c'.parts) → HasClearFlags c' → IsReadySearch s' c'
ready_moved s s' c c' r leaves moved goes placed free = record {
  free = free;
  placed = placed;
  there = rw (moved.lits, moved.size) r.there;
  asked = rw (moved.lits, moved.globals) (leaves.assumed ∙ r.asked);
  used = λ v lt. elim (r.used v (subst (λ n. v < n) moved.size lt)) [
    | inl own ↦ inl (rw moved.globals (leaves.names (global_in c v) ∙ own))
    | inr idle ↦ inr (rw moved.lits (goes.idle v idle))
  ];
}

-- `HasClearFlags` is preserved if the working lists of analysis and the number of variables are unchanged
pub free_moved : (c c' : Search) → HasClearFlags c → SameVarsAndAssumptions c c' → c'.analysis ≡ c.analysis → c'.flags ≡ c.flags → HasClearFlags c'
free_moved c c' f moved analysis flags = record {
  names = rw (moved.globals, moved.size) f.names;
  size = rw (analysis, moved.size) f.size;
  clear = rw analysis f.clear;
  flags_size = rw (flags, moved.size) f.flags_size;
  flags_clear = rw flags f.flags_clear;
}

-- PROPAGATION

-- everything was propagated without a conflict
pub record Propagation (s : Session) (c d : Search) : Type 0 where
  pub whole : IsPropagated s d
  pub moved : SameVarsAndAssumptions c d
  pub word : TrailWordExtendsFor (assumed_indices c) c.parts d.parts
  pub starts : d.parts.trail.starts ≡ c.parts.trail.starts

module _ (s : Session) (c c' : Search) (search : SearchInvariant s c) (globals : c'.globals ≡ c.globals) (assumptions : c'.assumptions ≡ c.assumptions) (analysis : c'.analysis ≡ c.analysis) (flags : c'.flags ≡ c.flags)
    (starts : c'.parts.trail.starts ≡ c.parts.trail.starts) (moved : ReordersLits c.parts c'.parts) (carries : AddsNoUnit (state c.parts) (state c'.parts)) (word : TrailWordExtends c.parts c'.parts) (keeps : (top : ℕ) → KeepsLevelsTo top (state c.parts) (state c'.parts)) where
  pub propagated_moved : SameVarsAndAssumptions c c'
  propagated_moved = record { globals = globals; lits = ap (λ a. a.lits) assumptions; size = carries.size }

  propagated_ready : IsReadySearch s c'
  propagated_ready =
      let a = search.ready.placed in
      ready_moved s s c c' search.ready (leaves_refl s) propagated_moved (word (assumed_indices c)).0
      (rw assumptions (placed_kept c.assumptions.lits.items c.assumptions.below.items c.assumptions.place (length c.assumptions.below.items) (state c.parts) (state c'.parts) a (keeps (length c.assumptions.below.items)) (omega arith)
      (rw starts a.levels) (rw starts a.all)))
      (free_moved c c' search.ready.free propagated_moved analysis flags)

  propagated_fits : SearchStateInvariantBelow (length c'.parts.trail.starts) c'.parts → SessionMatchesParts c'.parts s (global_in c')
  propagated_fits holds = rw globals (fits_propagated c.parts c'.parts s (global_in c) moved carries holds.propagation.clauses search.valid.fits)

  propagated_fits_all : SearchStateInvariantBelow (length c'.parts.trail.starts + 1) c'.parts → SessionMatchesParts c'.parts s (global_in c')
  propagated_fits_all holds = rw globals (fits_propagated c.parts c'.parts s (global_in c) moved carries holds.propagation.clauses search.valid.fits)

  pub propagation : SearchStateInvariantBelow (length c'.parts.trail.starts + 1) c'.parts → IsFullyPropagated c'.parts → (0 < length c.parts.trail.starts → UnitsHaveNoReason (state c.parts) → UnitsHaveNoReason (state c'.parts)) →
      (0 < length c.parts.trail.starts → LevelZeroInvariant c.parts.trail → LevelZeroInvariant c'.parts.trail) → Propagation s c c'
  propagation holds done units base = record {
    whole = record {
      holds = holds;
      done = done;
      units = λ some. (let old : 0 < length c.parts.trail.starts = rw starts at some in (units old search.valid.holds.units, base old search.valid.holds.base));
      fits = propagated_fits_all holds;
      ready = propagated_ready;
    };
    moved = propagated_moved;
    word = word (assumed_indices c);
    starts = starts;
  }

  pub falsified_whole : (e : Conflict) → SearchStateInvariantBelow (length c'.parts.trail.starts) c'.parts → IsConflict c'.parts.clauses (live_refs c'.parts.clauses c'.parts.db.refs) c'.parts.binary.implied c'.parts.assignment.current e →
      (0 < length c.parts.trail.starts → UnitsHaveNoReason (state c.parts) → UnitsHaveNoReason (state c'.parts)) → (0 < length c.parts.trail.starts → LevelZeroInvariant c.parts.trail → LevelZeroInvariant c'.parts.trail) → IterationEffect (Some (Falsified e)) s c c'
  falsified_whole e holds conflict units base = record {
    says = record {
      refuted = (holds, conflict, λ some. let old : 0 < length c.parts.trail.starts = rw starts at some in (units old search.valid.holds.units, base old search.valid.holds.base));
      fits = propagated_fits holds;
      ready = propagated_ready;
    };
    moved = propagated_moved;
    word = word (assumed_indices c);
  }

-- A NEW LEVEL, OR THE SEARCH STOPS

-- the result of an iteration also holds from an earlier state of the same level
pub turned_from : (found : Option FoundConflict) (s : Session) (a b c : Search) → SameVarsAndAssumptions a b → TrailWordExtendsFor (assumed_indices a) a.parts b.parts → length b.parts.trail.starts ≡ length a.parts.trail.starts → IterationEffect found s b c → IterationEffect found s a c
turned_from found s a b c moved word starts t = record {
  says = later found t.says;
  moved = moved_trans a b c moved t.moved;
  word = extends_after (assumed_indices a) a.parts b.parts c.parts word (rw moved.lits at t.word);
}
  where
    later : (f : Option FoundConflict) → IterationResult f s b c → IterationResult f s a c
    later None x = (x.0, x.1 ∙ ap (λ n. n + 1) starts)
    later (Some stop) x = x

pub stopped_from : (stop : FoundConflict) (s : Session) (a b c : Search) → SameVarsAndAssumptions a b → TrailWordExtendsFor (assumed_indices a) a.parts b.parts → IterationEffect (Some stop) s b c → StopsSearch stop s a c
stopped_from stop s a b c moved word t = record {
  says = t.says;
  moved = moved_trans a b c moved t.moved;
  word = extends_after (assumed_indices a) a.parts b.parts c.parts word (rw moved.lits at t.word);
}

module _ (s s' : Session) (c c' : Search) (mid : SearchState) (propagated : IsPropagated s c) (leaves : SameAssumedAndNames s s') (settled : TakesUnitsOff c.parts mid s' (global_in c))
    (globals : c'.globals ≡ c.globals) (analysis : c'.analysis ≡ c.analysis) (flags : c'.flags ≡ c.flags) where
  pub gone_on : (found : Option FoundConflict) → DecisionEffect found c.assumptions c'.assumptions mid c'.parts → IterationEffect found s' c c'
  gone_on found d = record {
    says = says found d.stops;
    moved = moved;
    word = word;
  }
    where
      word : TrailWordExtendsFor (assumed_indices c) c.parts c'.parts
      word = extends_after (assumed_indices c) c.parts mid c'.parts (settled.word (assumed_indices c)) d.word

      moved : SameVarsAndAssumptions c c'
      moved = record { globals = globals; lits = d.lits; size = d.carries.size ∙ settled.size }

      search : SearchInvariant s' c'
      search = record {
        valid = record { holds = d.holds; fits = rw globals (fits_undone mid c'.parts s' (global_in c) d.same d.carries settled.valid.fits) };
        ready = ready_moved s s' c c' propagated.ready leaves moved word.0 d.placed (free_moved c c' propagated.ready.free moved analysis flags);
      }

      says : (f : Option FoundConflict) → OpensLevelOrStops f c.assumptions.lits.items mid c'.parts → IterationResult f s' c c'
      says None x = (search, x ∙ ap (λ ss. length ss + 1) settled.starts)
      says (Some (Falsified e)) x = absurd x
      says (Some Complete) x = (search, rw d.lits x)
      says (Some (Failed l)) x = (search, rw d.lits x)

-- AN ITERATION

-- an iteration: propagation, then units are written, then a level begins or the search stops
module _ {W L : Type 0} {G : Ghosts L} (seen : W → Writer) (p q : Proof W L G) (c d e : Search) (mid : SearchState) (went : Propagation (session_of p) c d) (gs : List ℕ) (same : gs ≡ d.globals.items)
    (settles : EmitsSteps {A = Unit {0}} seen (Ok tt) p q (λ _ _. TakesUnitsOff d.parts mid (session_of q) (global_of_index gs))) (globals : e.globals ≡ d.globals) (analysis : e.analysis ≡ d.analysis) (flags : e.flags ≡ d.flags) where
  pub turned : (found : Option FoundConflict) → DecisionEffect found d.assumptions e.assumptions mid e.parts → IterationEffect found (session_of q) c e
  turned found deeper =
      let leaves : SameAssumedAndNames (session_of p) (session_of q) = subst (λ ss. SameAssumedAndNames (session_of p) (session_after ss)) (sym settles.went.history) (leaves_after settles.steps (steps_of p) (kinds_of (session_of p).solver_names settles.steps settles.searched)) in
      let settled : TakesUnitsOff d.parts mid (session_of q) (global_in d) = subst (λ hs. TakesUnitsOff d.parts mid (session_of q) (global_of_index hs)) same settles.ends in
      turned_from found (session_of q) c d e went.moved went.word (ap (λ ss. length ss) went.starts) (gone_on (session_of p) (session_of q) d e mid went.whole leaves settled globals analysis flags found deeper)
