-- Reductions leave the search unchanged except for its clauses.
use Rattle.std.proofs.Common.{ℕ, ◌<◌, ◌≡◌, ◌≢◌, ◌∙◌, ◌==◌, ◌&&◌, Bool, true, false, List, length, map, get_or, refl, sym, ap, subst, arith}
use Rattle.std.proofs.lemmas.Bool.{eqb-true}
use Rattle.std.proofs.lemmas.List.Sorted.{IsPermutation-sym, Contains-permutation}
use Rattle.std.specs.List.{Contains, filter}
use Rattle.std.specs.List.Sorted.{IsPermutation}
use Rattle.sat_base.specs.steps.Steps.{Step, DeleteClause, Redundant}
use Rattle.sat_store.specs.clause.Buffer.{IsClause, lits_at, header_at}
use Rattle.sat_store.specs.clause.Header.{is_learned, tier_index}
use Rattle.sat_store.specs.declared.clause.tier.Tier.{Tier}
use Rattle.sat_store.specs.declared.clause.tier.Tier.TheVariants.{Irred, Local}
use Rattle.sat_parts.specs.clause.Db.{live_refs, is_live, is_live_in_tier}
use Rattle.sat_parts.proofs.lemmas.clause.ListLemmas.{place_in}
use Rattle.sat_parts.proofs.lemmas.clause.OrderLemmas.{shuffled_eq}
use Rattle.sat_solver.specs.session.LiveClauses.{with_var}
use Rattle.sat_solver.specs.session.Session.{Session, IsAllowedStep, after}
use Rattle.sat_parts.specs.declared.parts.SearchState.{SearchState}
use Rattle.sat_parts.specs.parts.Assumed.{PlacesAreCorrect}
use Rattle.sat_parts.specs.parts.Frame.{SameState, ChangesHeaders, DeletesLongClause, MovesLongClauses}
use Rattle.sat_parts.specs.parts.Whole.{state, SearchStateInvariant}
use Rattle.sat_parts.specs.parts.Words.{TrailWordExtends}
use Rattle.sat_parts.proofs.lemmas.parts.AssumeLemmas.{placed_kept}
use Rattle.sat_parts.proofs.lemmas.parts.ReduceLemmas.{filter_in}
use Rattle.sat_parts.proofs.lemmas.parts.WordSteps.{extends_after, extends_refl}
use Rattle.sat_solver.specs.session.Matching.{SessionMatchesParts}
use Rattle.sat_solver.proofs.lemmas.fits.FramedParts.{fits_headed, fits_copied, fits_dropped_redundant}
use Rattle.sat_solver.specs.declared.context.Search.{Search}
use Rattle.sat_solver.specs.cdcl.Joint.{global_in, assumed_indices, SearchInvariant, SameVarsAndAssumptions, SameAssumedAndNames}
use Rattle.sat_solver.specs.unit_simplify.AfterUnits.{SameSize}
use Rattle.sat_solver.specs.clause.Reduced.{IsLearnedLong, IsReason, TriesToDelete, ReductionEffect}
use Rattle.sat_solver.proofs.lemmas.cdcl.TurnLemmas.{moved_refl, moved_trans, ready_moved, free_moved, leaves_refl}

same_state : (p p' : SearchState) → SameState p p' → state p' ≡ state p
same_state p p' x = rw (x.0, x.1, x.2) refl

-- LISTS

pub clause_stands : (p : SearchState) (o : ℕ) → SearchStateInvariant p → Contains (live_refs p.clauses p.db.refs) o → IsClause p.clauses o
clause_stands p o h live = h.below.propagation.clauses.holds_clauses.clauses o live

local_learned : (tier : Tier) → tier_index tier ≡ 3 → is_learned tier ≡ true
local_learned Irred e = absurd (omega (arith, e))
local_learned x e = refl

second_true : (a b : Bool) → (a && b) ≡ true → b ≡ true
second_true true b e = e
second_true false b e = absurd cc

-- clauses of tier Local are learned
pub locals_learned : (p : SearchState) (list : List ℕ) → IsPermutation (filter (is_live_in_tier p.clauses Local) p.db.refs) list →
    ((k : ℕ) → k < length list → Contains (live_refs p.clauses p.db.refs) (get_or list k 0)) → (k : ℕ) → k < length list → IsLearnedLong p (get_or list k 0)
locals_learned p list perm live k lt =
    let there : Contains (filter (is_live_in_tier p.clauses Local) p.db.refs) (get_or list k 0) =
    Contains-permutation list (filter (is_live_in_tier p.clauses Local) p.db.refs) (get_or list k 0) (IsPermutation-sym (filter (is_live_in_tier p.clauses Local) p.db.refs) list perm) (place_in list k lt) in
    let both : is_live_in_tier p.clauses Local (get_or list k 0) ≡ true = (filter_in (is_live_in_tier p.clauses Local) p.db.refs (get_or list k 0) there).1 in
    record {
      live = live k lt;
      learned = local_learned (header_at p.clauses (get_or list k 0)).tier (eqb-true (tier_index (header_at p.clauses (get_or list k 0)).tier) (tier_index Local) (second_true (is_live p.clauses (get_or list k 0)) (tier_index (header_at p.clauses (get_or list k 0)).tier == tier_index Local) both));
    }

-- THE REST OF THE SEARCH

pub reduced_refl : (s : Session) (c : Search) → SearchInvariant s c → ReductionEffect s c c
reduced_refl s c search = record { search = search; moved = moved_refl c; word = extends_refl c.parts (assumed_indices c) }

pub reduced_trans : (s s' : Session) (a b c : Search) → ReductionEffect s a b → ReductionEffect s' b c → ReductionEffect s' a c
reduced_trans s s' a b c x y = record {
  search = y.search;
  moved = moved_trans a b c x.moved y.moved;
  word = extends_after (assumed_indices a) a.parts b.parts c.parts x.word (rw x.moved.lits at y.word);
}

pub reduced_deleted : (b : Bool) (o : ℕ) (s : Session) (c c' : Search) → TriesToDelete b o s c c' → ReductionEffect s c c'
reduced_deleted b o s c c' d = record { search = d.search; moved = d.moved; word = d.word (assumed_indices c) }

module _ (s s' : Session) (c c' : Search) (search : SearchInvariant s c) (globals : c'.globals ≡ c.globals) (assumptions : c'.assumptions ≡ c.assumptions) (analysis : c'.analysis ≡ c.analysis) (flags : c'.flags ≡ c.flags) where
  pub still_moved : SameSize c.parts c'.parts → SameVarsAndAssumptions c c'
  still_moved size = record { globals = globals; lits = ap (λ a. a.lits) assumptions; size = size }

  pub still : SameAssumedAndNames s s' → SearchStateInvariant c'.parts → SessionMatchesParts c'.parts s' (global_in c) → SameSize c.parts c'.parts → TrailWordExtends c.parts c'.parts → PlacesAreCorrect c.assumptions (state c'.parts) → SearchInvariant s' c'
  still leaves holds fits size word placed = record {
    valid = record { holds = holds; fits = rw globals fits };
    ready = ready_moved s s' c c' search.ready leaves (still_moved size) (word (assumed_indices c)).0 (rw assumptions placed) (free_moved c c' search.ready.free (still_moved size) analysis flags);
  }

module _ (s : Session) (c c' : Search) (search : SearchInvariant s c) (globals : c'.globals ≡ c.globals) (assumptions : c'.assumptions ≡ c.assumptions) (analysis : c'.analysis ≡ c.analysis) (flags : c'.flags ≡ c.flags) where
  -- headers changed
  pub reduced_headed : SearchStateInvariant c'.parts → ChangesHeaders c.parts c'.parts → TrailWordExtends c.parts c'.parts → ReductionEffect s c c'
  reduced_headed holds h word =
      let size : SameSize c.parts c'.parts = ap (λ a. length a.current) h.same.0.0 in
      record {
        search = still s s c c' search globals assumptions analysis flags (leaves_refl s) holds (fits_headed c.parts c'.parts s (global_in c) search.valid.fits h) size word (rw (same_state c.parts c'.parts h.same.0) search.ready.placed);
        moved = still_moved s s c c' search globals assumptions analysis flags size;
        word = word (assumed_indices c);
      }

  -- clauses moved in the buffer
  pub reduced_copied : SearchStateInvariant c'.parts → MovesLongClauses c.parts c'.parts → TrailWordExtends c.parts c'.parts → ReductionEffect s c c'
  reduced_copied holds h word =
      let a = search.ready.placed in
      let size : SameSize c.parts c'.parts = ap (λ a. length a.current) h.values in
      record {
        search = still s s c c' search globals assumptions analysis flags (leaves_refl s) holds (fits_copied c.parts c'.parts s (global_in c) search.valid.fits h) size word
            (placed_kept c.assumptions.lits.items c.assumptions.below.items c.assumptions.place (length c.assumptions.below.items) (state c.parts) (state c'.parts) a (h.keeps (length c.assumptions.below.items)) (omega arith) (rw h.trail a.levels) (rw h.trail a.all));
        moved = still_moved s s c c' search globals assumptions analysis flags size;
        word = word (assumed_indices c);
      }

  -- the clause is a reason, so nothing was deleted
  pub deleted_none : (o : ℕ) → IsReason c.parts o → c'.parts ≡ c.parts → TriesToDelete false o s c c'
  deleted_none o reason parts =
      let size : SameSize c.parts c'.parts = ap (λ p. length p.assignment.current) parts in
      record {
        search = still s s c c' search globals assumptions analysis flags (leaves_refl s) (rw parts search.valid.holds) (rw parts search.valid.fits) size (rw parts (extends_refl c.parts)) (rw parts search.ready.placed);
        moved = still_moved s s c c' search globals assumptions analysis flags size;
        word = rw parts (extends_refl c.parts);
        others = λ p ne x. rw parts x;
        tried = (reason, parts);
      }

  module _ (o : ℕ) (learnt : IsLearnedLong c.parts o) (dropped : DeletesLongClause c.parts c'.parts o) where
    abbrev step : Step
    step = DeleteClause (map (with_var (global_in c)) (lits_at c.parts.clauses o)) Redundant

    both : IsAllowedStep s step × SessionMatchesParts c'.parts (after step s) (global_in c)
    both =
        fits_dropped_redundant c.parts c'.parts s (global_in c) search.valid.fits search.valid.holds o learnt.live (lits_at c.parts.clauses o) (shuffled_eq (lits_at c.parts.clauses o) (lits_at c.parts.clauses o) refl) dropped learnt.learned

    -- the clause may be deleted by a step
    pub deleted_may : (clause : List ℕ) → clause ≡ map (with_var (global_in c)) (lits_at c.parts.clauses o) → IsAllowedStep s (DeleteClause clause Redundant)
    deleted_may clause e = subst (λ (ls : List ℕ). IsAllowedStep s (DeleteClause ls Redundant)) (sym e) both.0

    -- deleting the clause leaves the rest of the search unchanged
    pub deleted_one : (s' : Session) (clause : List ℕ) → clause ≡ map (with_var (global_in c)) (lits_at c.parts.clauses o) → s' ≡ after (DeleteClause clause Redundant) s → SearchStateInvariant c'.parts → TrailWordExtends c.parts c'.parts →
        ((p : ℕ) → p ≢ o → Contains (live_refs c.parts.clauses c.parts.db.refs) p → Contains (live_refs c'.parts.clauses c'.parts.db.refs) p) → (IsReason c.parts o → ⊥) → TriesToDelete true o s' c c'
    deleted_one s' clause e its holds word others free =
        let size : SameSize c.parts c'.parts = ap (λ a. length a.current) dropped.same.0.0 in
        record {
          search = still s s' c c' search globals assumptions analysis flags (rw its (record { assumed = refl; names = λ v. refl })) holds (rw (its, e) both.1) size word (rw (same_state c.parts c'.parts dropped.same.0) search.ready.placed);
          moved = still_moved s s c c' search globals assumptions analysis flags size;
          word = word;
          tried = (free, dropped);
          others = λ p ne x. record {
            live = others p ne x.live;
            learned = ap (λ h. is_learned h.tier) (dropped.deletes.put.others p (filter_in (is_live c.parts.clauses) c.parts.db.refs p x.live).0 ne).header ∙ x.learned;
          };
        }
