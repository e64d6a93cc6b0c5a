-- Binary clauses with an assigned variable are removed from the parts, while the trail is empty.
use Rattle.std.proofs.Common.{ℕ, ◌+◌, ◌<◌, ◌≤◌, ◌≡◌, true, false, ltb, List, [], ◌∷◌, map, length, get_or, ap, arith, ◌⊎◌, inl, inr}
use Rattle.sat_base.specs.values.Literals.{negated}
use Rattle.sat_base.specs.steps.Steps.{DeleteClause, Satisfied}
use Rattle.sat_parts.specs.clause.Db.{live_refs}
use Rattle.sat_parts.specs.prop.Binaries.{implied_by, RemovesAssigned}
use Rattle.sat_parts.specs.prop.Values.{IsTrueLit}
use Rattle.sat_parts.specs.prop.State.{level, current_level, HasLeftQueue, StateIsConsistent}
use Rattle.sat_parts.proofs.lemmas.prop.StateLemmas.{level_low}
use Rattle.sat_solver.specs.session.Session.{Session, after, IsAllowedStep}
use Rattle.sat_solver.specs.session.LiveClauses.{with_var}
use Rattle.sat_solver.specs.session.SolverClauses.{pair, is_open_clause}
use Rattle.sat_parts.specs.declared.parts.SearchState.{SearchState}
use Rattle.sat_parts.specs.parts.Whole.{state, SearchStateInvariant}
use Rattle.sat_solver.specs.session.Matching.{ArePaired, SessionMatchesParts}
use Rattle.sat_solver.specs.session.Listed.{MatchesDuringRemoval}
use Rattle.sat_solver.proofs.lemmas.fits.RemovedLemmas.{removal_begins, removal_goes_on, removal_passes, removal_deletes, removal_ends}

module _ (p : SearchState) (global : ℕ → ℕ) (holds : SearchStateInvariant p) (paired : ArePaired p.binary.implied) (bottom : p.trail.starts ≡ []) (empty : p.trail.lits ≡ []) where
  abbrev live : List ℕ
  live = live_refs p.clauses p.db.refs

  agrees : StateIsConsistent (state p)
  agrees = holds.below.propagation.agrees

  none : length p.trail.starts ≡ 0
  none = ap (λ (xs : List ℕ). length xs) bottom

  -- everything was propagated, so literals implied by true ones are true
  complete : (l k : ℕ) → k < length (implied_by p.binary.implied l) → IsTrueLit p.assignment.current l → IsTrueLit p.assignment.current (get_or (implied_by p.binary.implied l) k 0)
  complete l k lt t =
      let nothing : length p.trail.lits ≡ 0 = ap (λ (xs : List ℕ). length xs) empty in
      let left : HasLeftQueue (state p) l = elim (agrees.known l t) [ inl b ↦ absurd (omega (arith, b.within)) | inr r ↦ inr r ] in
      let low : level (state p) l < length p.trail.starts + 1 = (let z : level (state p) l ≤ current_level (state p) = level_low (state p) l agrees t in omega arith) in
      (holds.below.propagation.binary l k left low lt).0

  pub parts_removal_begins : (s : Session) → SessionMatchesParts p s global → MatchesDuringRemoval p s global 0 0
  parts_removal_begins = removal_begins p.clauses live p.binary (state p) global agrees holds.units none paired complete

  pub parts_removal_goes_on : (s : Session) (l : ℕ) → l < length p.binary.implied → MatchesDuringRemoval p s global l (length (implied_by p.binary.implied l)) → MatchesDuringRemoval p s global (l + 1) 0
  parts_removal_goes_on = removal_goes_on p.clauses live p.binary (state p) global agrees holds.units none paired complete

  module _ (s : Session) (l k : ℕ) (lt : k < length (implied_by p.binary.implied l)) (h : MatchesDuringRemoval p s global l k) where
    abbrev m : ℕ
    m = get_or (implied_by p.binary.implied l) k 0

    pub parts_removal_passes : (ltb (negated l) m ≡ false) ⊎ (is_open_clause p.assignment.current (pair (negated l) m) ≡ true) → MatchesDuringRemoval p s global l (k + 1)
    parts_removal_passes = removal_passes p.clauses live p.binary (state p) global agrees holds.units none paired complete s l k lt h

    pub parts_removal_deletes : negated l < m → is_open_clause p.assignment.current (pair (negated l) m) ≡ false →
        IsAllowedStep s (DeleteClause (map (with_var global) (negated l ∷ m ∷ [])) Satisfied) × MatchesDuringRemoval p (after (DeleteClause (map (with_var global) (negated l ∷ m ∷ [])) Satisfied) s) global l (k + 1)
    parts_removal_deletes = removal_deletes p.clauses live p.binary (state p) global agrees holds.units none paired complete s l k lt h

  -- after all steps, parts without these clauses match the session
  pub parts_removal_ends : (p' : SearchState) (s : Session) → MatchesDuringRemoval p s global (length p.binary.implied) 0 → RemovesAssigned p.assignment.current p.binary p'.binary → p'.clauses ≡ p.clauses → p'.db ≡ p.db → state p' ≡ state p → SessionMatchesParts p' s global
  parts_removal_ends p' s h gone words db same = rw (words, db, same) (removal_ends p.clauses live p.binary (state p) global agrees holds.units none paired complete s p'.binary h gone)
