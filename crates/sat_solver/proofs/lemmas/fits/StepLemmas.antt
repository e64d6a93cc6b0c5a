-- What the steps of learning require, and what they preserve.
use Rattle.std.proofs.Common.{ℕ, ◌≡◌, ◌<◌, ◌≤◌, List, [], ◌∷◌, length, get_or, refl, ◌∙◌, ap, subst, arith}
use Rattle.sat_base.specs.values.Literals.{variable}
use Rattle.sat_store.specs.clause.Buffer.{IsClause, lits_at}
use Rattle.sat_parts.specs.declared.prop.graph.Reason.TheVariants.{Long}
use Rattle.sat_parts.specs.declared.prop.graph.Conflict.{Conflict}
use Rattle.sat_parts.specs.declared.prop.graph.Conflict.TheVariants as conflicts
use Rattle.sat_parts.specs.clause.Db.{live_refs}
use Rattle.sat_parts.specs.prop.ReasonLits.{conflict_lits}
use Rattle.sat_parts.specs.prop.Ready.{IsConflict}
use Rattle.sat_parts.specs.prop.State.{node, lit_at}
use Rattle.sat_parts.proofs.lemmas.prop.RoomLemmas.{below_from_value}
use Rattle.sat_solver.specs.session.Session.{Session}
use Rattle.sat_solver.specs.analyze_conflict.AnalysisState.{AnalysisState}
use Rattle.sat_solver.specs.analyze_conflict.Marks.{IsReasoned}
use Rattle.sat_solver.specs.analyze_conflict.Derivation.{AnalysisResult}
use Rattle.sat_solver.proofs.lemmas.analyze_conflict.Callers.{stands_by}
use Rattle.sat_parts.specs.declared.parts.SearchState.{SearchState}
use Rattle.sat_parts.specs.parts.Whole.{state, SearchStateInvariantBelow, HasConflict}
use Rattle.sat_parts.specs.parts.Frame.{AddsNoUnit, ReordersLits}
use Rattle.sat_solver.specs.session.Matching.{SessionMatchesParts}
use Rattle.sat_solver.specs.session.WritingUnits.{IsReadyForUnits}
use Rattle.sat_parts.specs.clause.Stored.{AreLongClauses}
use Rattle.sat_solver.proofs.lemmas.fits.FitLemmas.{fits_carried, fits_reordered}

module _ (p : SearchState) (e : Conflict) (w : AnalysisState) (back : ℕ) (refuted : HasConflict p e) (learns : AnalysisResult p.clauses (state p) (conflict_lits p.clauses e) w back) where
  valid : (k o : ℕ) → k < length w.used → (node (state p) (get_or w.used k 0)).reason ≡ Long o → IsClause p.clauses o × (0 < length (lits_at p.clauses o))
  valid k o lt r =
      let x : IsReasoned (state p) 0 (get_or w.used k 0) = learns.reasons k lt in
      stands_by p.clauses (live_refs p.clauses p.db.refs) p.binary.implied (state p) x.place o (node (state p) (lit_at (state p) x.place)).reason (length p.assignment.current) refuted.0.propagation.clauses
      (refuted.0.reasons x.place (omega arith) x.within) (ap (λ l. (node (state p) l).reason) x.there ∙ r)

  pub used_clause : (k o : ℕ) → k < length w.used → (node (state p) (get_or w.used k 0)).reason ≡ Long o → IsClause p.clauses o
  used_clause k o lt r = (valid k o lt r).0

  pub used_some : (k o : ℕ) → k < length w.used → (node (state p) (get_or w.used k 0)).reason ≡ Long o → 0 < length (lits_at p.clauses o)
  used_some k o lt r = (valid k o lt r).1

  pub used_there : (k : ℕ) → k < length w.used → variable (get_or w.used k 0) < length p.graph
  used_there k lt =
      let x : IsReasoned (state p) 0 (get_or w.used k 0) = learns.reasons k lt in
      let v : variable (lit_at (state p) x.place) < length p.assignment.current = below_from_value p.assignment.current (variable (lit_at (state p) x.place)) _ (refuted.0.propagation.agrees.holds x.place x.within) in
      subst (λ l. variable l < length p.graph) x.there (omega (arith, refuted.0.propagation.agrees.nodes))

pub conflict_clause : (p : SearchState) (e : Conflict) → HasConflict p e → (o : ℕ) → e ≡ conflicts.Long o → IsClause p.clauses o
conflict_clause p e refuted o is =
    let c : IsConflict p.clauses (live_refs p.clauses p.db.refs) p.binary.implied p.assignment.current (conflicts.Long o) = subst (λ x. IsConflict p.clauses (live_refs p.clauses p.db.refs) p.binary.implied p.assignment.current x) is refuted.1 in
    refuted.0.propagation.clauses.holds_clauses.clauses o c.0

pub clause_below : (p : SearchState) (e : Conflict) (w : AnalysisState) (back count : ℕ) → length p.assignment.current ≤ count → AnalysisResult p.clauses (state p) (conflict_lits p.clauses e) w back → (k : ℕ) → k < length w.clause → variable (get_or w.clause k 0) < count
clause_below p e w back count le learns k lt =
    let v : variable (get_or w.clause k 0) < length p.assignment.current = below_from_value p.assignment.current (variable (get_or w.clause k 0)) _ (learns.asserting.fails k lt) in omega arith

module _ (p : SearchState) (h : IsReadyForUnits p) where
  pub orderly_below : (count : ℕ) → length p.assignment.current ≤ count → (i : ℕ) → i < length p.trail.lits → variable (get_or p.trail.lits i 0) < count
  orderly_below count le i lt = (let v : variable (lit_at (state p) i) < length p.assignment.current = below_from_value p.assignment.current (variable (lit_at (state p) i)) _ (h.agrees.holds i lt) in omega arith)

  pub orderly_there : (i : ℕ) → i < length p.trail.lits → variable (get_or p.trail.lits i 0) < length p.graph
  orderly_there i lt = (let v : variable (lit_at (state p) i) < length p.assignment.current = below_from_value p.assignment.current (variable (lit_at (state p) i)) _ (h.agrees.holds i lt) in omega (arith, h.agrees.nodes))

  orderly_both : (i : ℕ) → i < length p.trail.lits → (o : ℕ) → (node (state p) (get_or p.trail.lits i 0)).reason ≡ Long o → IsClause p.clauses o × (0 < length (lits_at p.clauses o))
  orderly_both i lt o r =
      stands_by p.clauses (live_refs p.clauses p.db.refs) p.binary.implied (state p) i o (node (state p) (lit_at (state p) i)).reason (length p.assignment.current) h.clauses (h.turns i (omega arith) lt) r

  pub orderly_clause : (i : ℕ) → i < length p.trail.lits → (o : ℕ) → (node (state p) (get_or p.trail.lits i 0)).reason ≡ Long o → IsClause p.clauses o
  orderly_clause i lt o r = (orderly_both i lt o r).0

  pub orderly_some : (i : ℕ) → i < length p.trail.lits → (o : ℕ) → (node (state p) (get_or p.trail.lits i 0)).reason ≡ Long o → 0 < length (lits_at p.clauses o)
  orderly_some i lt o r = (orderly_both i lt o r).1

empty_from : (xs : List ℕ) → length xs ≡ 0 → xs ≡ []
empty_from [] e = refl
empty_from (x ∷ xs) e = absurd (omega arith)

pub starts_none : (p : SearchState) → length p.trail.starts ≡ 0 → p.trail.starts ≡ []
starts_none p e = empty_from p.trail.starts e

pub orderly_from : (p : SearchState) (top : ℕ) → SearchStateInvariantBelow top p → IsReadyForUnits p
orderly_from p top h = record { agrees = h.propagation.agrees; clauses = h.propagation.clauses; turns = h.reasons }

-- PROPAGATION

pub fits_propagated : (p p' : SearchState) (s : Session) (global : ℕ → ℕ) → ReordersLits p p' → AddsNoUnit (state p) (state p') → AreLongClauses p'.clauses (live_refs p'.clauses p'.db.refs) (length p'.assignment.current) → SessionMatchesParts p s global → SessionMatchesParts p' s global
fits_propagated p p' s global moved carries clauses fits =
    let here : AreLongClauses p'.clauses (live_refs p.clauses p.db.refs) (length p.assignment.current) = subst (λ n. AreLongClauses p'.clauses (live_refs p.clauses p.db.refs) n) carries.size (subst (λ os. AreLongClauses p'.clauses os (length p'.assignment.current)) moved.live clauses) in
    rw (moved.live, moved.binary)
    (fits_carried p'.clauses (live_refs p.clauses p.db.refs) p.binary.implied (state p) (state p') s global carries
    (fits_reordered p.clauses p'.clauses (live_refs p.clauses p.db.refs) p.binary.implied (state p) s global here moved.kept fits))
