-- A long clause that a unit satisfies is deleted.
use Rattle.std.proofs.Common.{ℕ, ◌≡◌, Bool, true, false, List, map, length, refl, ap}
use Rattle.std.specs.List.{Contains}
use Rattle.sat_base.specs.steps.Steps.{Satisfied}
use Rattle.sat_store.specs.clause.Buffer.{lits_at}
use Rattle.sat_parts.specs.clause.Db.{live_refs}
use Rattle.sat_parts.specs.clause.Stored.{lit_of}
use Rattle.sat_solver.specs.session.Session.{Session, after, IsAllowedStep}
use Rattle.sat_solver.specs.session.LiveClauses.{with_var}
use Rattle.sat_parts.specs.declared.parts.SearchState.{SearchState}
use Rattle.sat_parts.specs.parts.Frame.{DeletesLongClause, SameState}
use Rattle.sat_parts.specs.parts.Whole.{SearchStateInvariant}
use Rattle.sat_parts.specs.parts.Words.{TrailWordExtends}
use Rattle.sat_solver.specs.session.Matching.{is_redundant, SessionMatchesParts}
use Rattle.sat_solver.proofs.lemmas.fits.FitLemmas.{among_at}
use Rattle.sat_solver.proofs.lemmas.fits.FramedParts.{bottom_unit, same_state, fits_dropped_redundant, fits_dropped_satisfied}
use Rattle.sat_parts.proofs.lemmas.clause.OrderLemmas.{shuffled_eq}
use Rattle.sat_solver.specs.declared.context.Search.{Search}
use Rattle.sat_solver.specs.declared.context.Scratch.{Scratch}
use Rattle.sat_solver.specs.cdcl.Joint.{assumed_indices, global_in, SearchInvariant, SameAssumedAndNames}
use Rattle.sat_solver.proofs.lemmas.clause.ReducingLemmas.{still, still_moved}
use Rattle.sat_solver.specs.unit_simplify.StrengtheningSteps.{deleted_step}
use Rattle.sat_solver.specs.unit_simplify.EmptyTrail.{HasEmptyTrail, IsStrengthened}
use Rattle.sat_solver.specs.unit_simplify.ClauseStatus.{HasTrue}

-- the search after clauses changed and values did not
pub strengthened_by : (s t : Session) (c c' : Search) → SearchInvariant s c → c'.globals ≡ c.globals → c'.assumptions ≡ c.assumptions → c'.analysis ≡ c.analysis → c'.flags ≡ c.flags → SameAssumedAndNames s t → SearchStateInvariant c'.parts → SessionMatchesParts c'.parts t (global_in c) →
    SameState c.parts c'.parts → TrailWordExtends c.parts c'.parts → c'.parts.db.refs ≡ c.parts.db.refs → IsStrengthened t c c'
strengthened_by s t c c' h globals assumptions analysis flags leaves holds fits same word refs =
    let size : length c'.parts.assignment.current ≡ length c.parts.assignment.current = ap (λ a. length a.current) same.0 in
    record {
      search = still s t c c' h globals assumptions analysis flags leaves holds fits size word (rw (same_state c.parts c'.parts same) h.ready.placed);
      moved = still_moved s t c c' h globals assumptions analysis flags size;
      word = word (assumed_indices c);
      state = same;
      refs = refs;
    }

-- A TRUE CLAUSE

module _ (s : Session) (c : Search) (p : SearchState) (o : ℕ) (h : SearchInvariant s c) (flat : HasEmptyTrail c.parts) (there : Contains (live_refs c.parts.clauses c.parts.db.refs) o) (has : HasTrue c.parts o) (dropped : DeletesLongClause c.parts p o) where
  abbrev mapped : List ℕ
  mapped = map (with_var (global_in c)) (lits_at c.parts.clauses o)

  -- its step may be written, and then parts and session match
  pub true_goes : (b : Bool) → is_redundant c.parts.clauses o ≡ b → IsAllowedStep s (deleted_step b Satisfied mapped) × SessionMatchesParts p (after (deleted_step b Satisfied mapped) s) (global_in c)
  true_goes true e = fits_dropped_redundant c.parts p s (global_in c) h.valid.fits h.valid.holds o there (lits_at c.parts.clauses o) (shuffled_eq (lits_at c.parts.clauses o) (lits_at c.parts.clauses o) refl) dropped e
  true_goes false e =
      fits_dropped_satisfied c.parts p s (global_in c) h.valid.fits h.valid.holds o there (lits_at c.parts.clauses o) (shuffled_eq (lits_at c.parts.clauses o) (lits_at c.parts.clauses o) refl) dropped e
      (lit_of c.parts.clauses o has.0) (among_at (lits_at c.parts.clauses o) has.0 has.1.0) (bottom_unit c.parts (lit_of c.parts.clauses o has.0) h.valid.holds flat.bottom has.1.1)

  leaves_deleted : (b : Bool) → SameAssumedAndNames s (after (deleted_step b Satisfied mapped) s)
  leaves_deleted true = record { assumed = refl; names = λ v. refl }
  leaves_deleted false = record { assumed = refl; names = λ v. refl }

  -- then the search satisfies its invariant
  pub true_lighter : (b : Bool) → is_redundant c.parts.clauses o ≡ b → (x : Scratch) → SearchStateInvariant p → TrailWordExtends c.parts p → IsStrengthened (after (deleted_step b Satisfied mapped) s) c (record c { parts = p; scratch = x })
  true_lighter b e x holds word =
      strengthened_by s (after (deleted_step b Satisfied mapped) s) c (record c { parts = p; scratch = x }) h refl refl refl refl (leaves_deleted b) holds (true_goes b e).1
      dropped.same.0 word dropped.deletes.refs
