-- Every level of the literals of antecedents has a flag.
use Rattle.std.proofs.Common.{ℕ, zero, suc, ◌*◌, ◌<◌, ◌≤◌, ◌≡◌, ◌∙◌, Bool, List, [], ◌∷◌, length, get_or, sym, ap, subst, arith, inl, inr}
use Rattle.std.proofs.lemmas.List.Elements.{Contains-append_cases}
use Rattle.std.specs.List.{Contains}
use Rattle.sat_base.specs.values.Literals.{variable, negated}
use Rattle.sat_store.specs.clause.Buffer.{lits_at}
use Rattle.sat_parts.specs.declared.prop.graph.Conflict.{Conflict}
use Rattle.sat_parts.specs.declared.prop.graph.Conflict.TheVariants as conflicts
use Rattle.sat_parts.specs.declared.prop.graph.Reason.{Reason}
use Rattle.sat_parts.specs.declared.prop.graph.Reason.TheVariants.{Unit as NoCause, Binary, Long}
use Rattle.sat_parts.specs.clause.Db.{live_refs}
use Rattle.sat_parts.specs.clause.Glue.{FlagsAreClear}
use Rattle.sat_parts.specs.clause.Stored.{lit_of}
use Rattle.sat_parts.specs.prop.ReasonLits.{conflict_lits}
use Rattle.sat_parts.specs.prop.Graphs.{node_of}
use Rattle.sat_parts.specs.prop.Ready.{IsConflict}
use Rattle.sat_parts.specs.prop.Reasons.{IsFalseBefore, ReasonImplies}
use Rattle.sat_parts.specs.prop.State.{PropagationState, node, level, current_level, lit_at, StateIsConsistent}
use Rattle.sat_parts.specs.prop.Values.{IsTrueLit}
use Rattle.sat_parts.proofs.lemmas.clause.ListLemmas.{at_place, in_head, in_tail}
use Rattle.sat_parts.proofs.lemmas.prop.RoomLemmas.{below_from_value}
use Rattle.sat_parts.proofs.lemmas.prop.StateLemmas.{negated_variable, true_from_false, level_low}
use Rattle.sat_solver.specs.analyze_conflict.AnalysisState.{AnalysisState, long_of, long_falsified}
use Rattle.sat_solver.specs.analyze_conflict.Marks.{IsReasoned}
use Rattle.sat_solver.specs.analyze_conflict.Derivation.{AnalysisResult}
use Rattle.sat_solver.specs.analyze_conflict.Seen.{longs_of, IsResolution}
use Rattle.sat_parts.specs.declared.parts.SearchState.{SearchState}
use Rattle.sat_parts.specs.parts.Whole.{state, HasConflict}
use Rattle.sat_solver.specs.clause.Assessed.{AreAntecedents}
use Rattle.sat_solver.proofs.lemmas.clause.GlueLemmas.{levels_below}

module _ (words live : List ℕ) (implied : List (List ℕ)) (s : PropagationState) (agrees : StateIsConsistent s) where
  -- no literal of the clause is of a level above the current one
  abbrev AreLow : ℕ → Type 0
  AreLow o = (k : ℕ) → k < length (lits_at words o) → level s (lit_of words o k) ≤ current_level s

  negated_low : (l : ℕ) → IsTrueLit s.values (negated l) → level s l ≤ current_level s
  negated_low l t = (let e : level s (negated l) ≡ level s l = ap (λ v. (node_of s.nodes v).level) (negated_variable l) in omega (arith, e, level_low s (negated l) agrees t))

  before_low : (i l : ℕ) → IsFalseBefore s i l → level s l ≤ current_level s
  before_low i l h = elim h [
    | inl b ↦ negated_low l (subst (λ m. IsTrueLit s.values m) b.there (agrees.holds b.place b.within))
    | inr r ↦ negated_low l r.holds
  ]

  reason_low : (p o : ℕ) (r : Reason) → p < length s.trail.lits → ReasonImplies words live implied s p r → Contains (long_of r) o → AreLow o
  reason_low p o NoCause lt h c = absurd (omega (arith, c.1))
  reason_low p o (Binary ls) lt h c = absurd (omega (arith, c.1))
  reason_low p o (Long q) lt h c =
      let e : 0 ≡ c.0 = omega (arith, c.1) in
      subst (λ z. AreLow z) (ap (λ k. get_or (q ∷ []) k 0) e ∙ at_place (q ∷ []) o c) (all q h)
    where
      all : (q : ℕ) → ReasonImplies words live implied s p (Long q) → AreLow q
      all q h zero b = subst (λ l. level s l ≤ current_level s) (sym h.1) (level_low s (lit_at s p) agrees (agrees.holds p lt))
      all q h (suc k) b = before_low p (lit_of words q (suc k)) (h.2 (suc k) (omega arith) b)

  longs_low : (o : ℕ) (ls : List ℕ) → ((l : ℕ) → Contains ls l → (p : ℕ) × ((p < length s.trail.lits) × ReasonImplies words live implied s p (node s l).reason)) → Contains (longs_of s ls) o → AreLow o
  longs_low o [] h c = absurd (omega (arith, c.1))
  longs_low o (l ∷ ls) h c = elim (Contains-append_cases (long_of (node s l).reason) (longs_of s ls) o c) [
    | inl x ↦ (let i = h l (in_head l ls) in reason_low i.0 o (node s l).reason i.1.0 i.1.1 x)
    | inr y ↦ longs_low o ls (λ m d. h m (in_tail l ls m d)) y
  ]

  conflict_low : (o : ℕ) (e : Conflict) → IsConflict words live implied s.values e → Contains (long_falsified e) o → AreLow o
  conflict_low o (conflicts.Binary ls) h c = absurd (omega (arith, c.1))
  conflict_low o (conflicts.Long q) h c =
      let e : 0 ≡ c.0 = omega (arith, c.1) in
      subst (λ z. AreLow z) (ap (λ k. get_or (q ∷ []) k 0) e ∙ at_place (q ∷ []) o c) (λ k b. negated_low (lit_of words q k) (true_from_false s.values (lit_of words q k) (h.1 k b)))

-- antecedents are live, and every level of their literals has a flag
pub are_involved : (p : SearchState) (e : Conflict) (w : AnalysisState) (back : ℕ) (flags : List Bool) → HasConflict p e → AnalysisResult p.clauses (state p) (conflict_lits p.clauses e) w back → IsResolution p.clauses (state p) e w →
    ((o : ℕ) → Contains w.antecedents o → Contains (live_refs p.clauses p.db.refs) o) → 2 * length p.assignment.current ≤ length flags → FlagsAreClear flags → AreAntecedents p flags w.antecedents
are_involved p e w back flags refuted learns r live le clear = record {
  live = live;
  levels = λ o c k lt. let low : level (state p) (lit_of p.clauses o k) ≤ current_level (state p) = lows o c k lt in levels_below p e (length flags) refuted some le (level (state p) (lit_of p.clauses o k)) low;
  clear = clear;
}
  where
    some : 0 < length p.assignment.current
    some = (let there : variable (get_or w.clause 0 0) < length p.assignment.current = below_from_value p.assignment.current (variable (get_or w.clause 0 0)) _ (learns.asserting.fails 0 learns.asserting.some) in omega arith)

    lows : (o : ℕ) → Contains w.antecedents o → AreLow p.clauses (live_refs p.clauses p.db.refs) p.binary.implied (state p) refuted.0.propagation.agrees o
    lows o c = elim (Contains-append_cases (long_falsified e) (longs_of (state p) r.resolved) o (subst (λ (xs : List ℕ). Contains xs o) r.antecedents c)) [
      | inl x ↦ conflict_low p.clauses (live_refs p.clauses p.db.refs) p.binary.implied (state p) refuted.0.propagation.agrees o e refuted.1 x
      | inr y ↦ longs_low p.clauses (live_refs p.clauses p.db.refs) p.binary.implied (state p) refuted.0.propagation.agrees o r.resolved (λ l d.
          let u : Contains w.used l = (r.forth l d).0 in
          let x : IsReasoned (state p) 0 l = subst (λ z. IsReasoned (state p) 0 z) (at_place w.used l u) (learns.reasons u.0 u.1) in
          (x.place, (x.within, subst (λ z. ReasonImplies p.clauses (live_refs p.clauses p.db.refs) p.binary.implied (state p) x.place (node (state p) z).reason) x.there (refuted.0.reasons x.place (omega arith) x.within)))) y
    ]
