-- How resolution begins, and how it ends.
use Rattle.std.proofs.Common.{ℕ, ◌≡◌, ◌+◌, ◌<◌, ◌≤◌, ◌⊎◌, inl, inr, Bool, false, List, [], ◌∷◌, ◌++◌, length, get_or, set, refl, sym, ap, ◌∙◌, subst, arith}
use Rattle.std.proofs.lemmas.Bool.{cases_eq, cases_lt, cases_Bool, both_ways}
use Rattle.std.proofs.lemmas.Bool.Decides.{nat_tests}
use Rattle.std.proofs.lemmas.List.{length_push, get_or_append_left, get_or_push}
use Rattle.std.proofs.lemmas.List.Edits.{swap_is}
use Rattle.std.proofs.lemmas.List.Elements.{Contains-append_left, Contains-push}
use Rattle.std.proofs.lemmas.List.Sorted.{IsPermutation-sym, Contains-permutation}
use Rattle.std.specs.List.{Contains, swap}
use Rattle.std.specs.List.Sorted.{IsPermutation}
use Rattle.sat_base.specs.values.Literals.{variable, negated}
use Rattle.sat_store.specs.clause.Buffer.{swapped}
use Rattle.sat_parts.specs.declared.prop.graph.Conflict.{Conflict}
use Rattle.sat_parts.specs.clause.Glue.{FlagsAreClear}
use Rattle.sat_parts.specs.clause.Orders.{AreDistinct, IsReordering}
use Rattle.sat_parts.specs.prop.Values.{IsFalseLit}
use Rattle.sat_parts.specs.prop.Ready.{AreAllFalse}
use Rattle.sat_parts.specs.prop.State.{PropagationState, level, current_level, lit_at, StateIsConsistent}
use Rattle.sat_parts.proofs.lemmas.clause.ListLemmas.{at_place, place_in}
use Rattle.sat_parts.proofs.lemmas.clause.OrderLemmas.{other, swapped_at, shuffled_swapped}
use Rattle.sat_parts.proofs.lemmas.prop.StateLemmas.{negated_variable, negated_twice, false_from_true, true_from_false}
use Rattle.sat_parts.proofs.lemmas.prop.RoomLemmas.{places_apart}
use Rattle.sat_solver.specs.analyze_conflict.AnalysisState.{AnalysisState, with_seen_literals, unflagged, begun_analysis, with_first}
use Rattle.sat_solver.specs.analyze_conflict.Marks.{causes_at, CanAnalyze, open_below, AreFlagsOf, IsToBeResolved, IsExplained, covered_unit, covered_clause, covered_reason, covered_core, covered_open, IsReasoned, depth, ResolutionInvariant, HasCurrentLevelLit}
use Rattle.sat_solver.specs.analyze_conflict.Derivation.{IsExplainedByUsed, explained_unit, explained_clause, explained_reason, AreExplainedByUsed, IsUnorderedDerivation, IsAsserting, ResolutionResult}
use Rattle.sat_solver.proofs.lemmas.analyze_conflict.Meeting.{level_by_variable, open_same, open_some, open_no, Met, met_all}
use Rattle.sat_solver.proofs.lemmas.analyze_conflict.Minimizing.{distinct_push}
use Rattle.sat_solver.proofs.lemmas.analyze_conflict.Resolution.{IsLastFlagged, last_high, at_current, marks_passed, passed_waiting}

-- without flags and with an empty clause, no literal is counted
pub begun_marks : (s : PropagationState) (top : ℕ) (w : AnalysisState) (at : ℕ) → at ≤ length s.trail.lits → FlagsAreClear w.flags → length w.flags ≡ length s.values → w.clause ≡ [] → w.pending ≡ 0 → AreFlagsOf s top w at
begun_marks s top w at le clear size none zero = record {
  size = size;
  within = le;
  flagged = λ v e. absurd (both_ways (get_or w.flags v false) (clear v) e);
  lower = λ k lt. absurd (omega (arith, ap (λ (xs : List ℕ). length xs) none));
  distinct = λ j k p q e. absurd (omega (arith, ap (λ (xs : List ℕ). length xs) none));
  counted = zero ∙ sym (open_same s top w.flags 0 at (omega arith) (λ q a b. clear (variable (lit_at s q))));
}

-- before any literal was used, an explained literal of the current level is still to be resolved
top_waits : (s : PropagationState) (w : AnalysisState) (at r : ℕ) → AreFlagsOf s (current_level s) w at → w.used ≡ [] → w.core ≡ [] → 0 < current_level s → level s r ≡ current_level s → IsExplained s (current_level s) w at r →
    IsToBeResolved s (current_level s) w.flags at r
top_waits s w at r m none bare above top (covered_unit z) = absurd (omega arith)
top_waits s w at r m none bare above top (covered_clause c) = absurd (omega (arith, (m.lower c.0 c.1).below, ap (λ z. level s z) (at_place w.clause r c)))
top_waits s w at r m none bare above top (covered_reason c) = absurd (omega (arith, c.1, ap (λ (xs : List ℕ). length xs) none))
top_waits s w at r m none bare above top (covered_core c) = absurd (omega (arith, c.1, ap (λ (xs : List ℕ). length xs) bare))
top_waits s w at r m none bare above top (covered_open x) = x

-- if a literal is still to be resolved, some are counted
pub waiting_counts : (s : PropagationState) (top : ℕ) (w : AnalysisState) (at r : ℕ) → AreFlagsOf s top w at → IsToBeResolved s top w.flags at r → 0 < w.pending
waiting_counts s top w at r m x = elim (cases_eq w.pending 0) [
  | inl e ↦
      let v_is : variable (lit_at s x.before.place) ≡ variable r = ap (λ z. variable z) x.before.there ∙ negated_variable r in
      absurd (open_no s top w.flags at x.before.place (sym m.counted ∙ e) x.before.before (ap (λ v. get_or w.flags v false) v_is ∙ x.flagged) (omega (arith, level_by_variable s (lit_at s x.before.place) r v_is, x.high)))
  | inr n ↦ omega arith
]

pub began : (words : List ℕ) (s : PropagationState) (conflict : List ℕ) (e : Conflict) (w : AnalysisState) → CanAnalyze words s → FlagsAreClear w.flags → length w.flags ≡ length s.values → AreAllFalse s.values conflict → HasCurrentLevelLit s conflict →
    ResolutionInvariant words s conflict (with_seen_literals s.nodes (current_level s) conflict (begun_analysis e w)) (length s.trail.lits)
began words s conflict e w can clear size fails top =
    let n : ℕ = length s.trail.lits in
    let w2 : AnalysisState = with_seen_literals s.nodes (current_level s) conflict (begun_analysis e w) in
    let m : Met s (current_level s) n conflict (begun_analysis e w) w2 =
    met_all s (current_level s) n conflict (begun_analysis e w) can.agrees (λ k lt. can.agrees.known (negated (get_or conflict k 0)) (true_from_false s.values (get_or conflict k 0) (fails k lt))) (begun_marks s (current_level s) (begun_analysis e w) (length s.trail.lits) (omega arith) clear size refl refl) in
    let x : IsToBeResolved s (current_level s) w2.flags n (get_or conflict top.0 0) = top_waits s w2 n (get_or conflict top.0 0) m.marks m.used m.core can.above top.1.1 (m.covered top.0 top.1.0) in
    let none : length w2.used ≡ 0 = ap (λ (xs : List ℕ). length xs) m.used in
    record {
      marks = m.marks;
      some = waiting_counts s (current_level s) w2 n (get_or conflict top.0 0) m.marks x;
      none = m.core;
      uses = record {
        reasons = λ k lt. absurd (omega arith);
        falling = λ j k a lt. absurd (omega arith);
        causes = λ k lt. absurd (omega arith);
      };
      start = m.covered;
    }

-- a literal was appended to a clause and then swapped with the first one
pub record Joined (xs : List ℕ) (r : ℕ) (ys : List ℕ) : Type 0 where
  pub lits : IsReordering (xs ++ r ∷ []) ys
  pub first : get_or ys 0 0 ≡ r

other_end : (n : ℕ) → other 0 n 0 ≡ n
other_end n = grind (arith, nat_tests)

pub joined : (xs : List ℕ) (r : ℕ) → Joined xs r (swap (xs ++ r ∷ []) 0 (length xs))
joined xs r =
    let n : length (xs ++ r ∷ []) ≡ length xs + 1 = length_push xs r in
    let is : swapped (xs ++ r ∷ []) 0 (length xs) ≡ swap (xs ++ r ∷ []) 0 (length xs) = swap_is (xs ++ r ∷ []) 0 (length xs) 0 (omega arith) (omega arith) in
    record {
      lits = subst (λ (ys : List ℕ). IsReordering (xs ++ r ∷ []) ys) is (shuffled_swapped (xs ++ r ∷ []) 0 (length xs) (omega arith) (omega arith));
      first = ap (λ (ys : List ℕ). get_or ys 0 0) (sym is) ∙ swapped_at (xs ++ r ∷ []) 0 (length xs) 0 (omega arith) (omega arith) ∙ ap (λ k. get_or (xs ++ r ∷ []) k 0) (other_end (length xs)) ∙ get_or_push xs r 0 (length xs) refl;
    }

-- the literal at position k of `ys` is in `xs`
record FromOld (xs ys : List ℕ) (k : ℕ) : Type 0 where
  place : ℕ
  within : place < length xs
  same : get_or xs place 0 ≡ get_or ys k 0

from_either : (xs : List ℕ) (r : ℕ) (ys : List ℕ) (k : ℕ) → Joined xs r ys → k < length ys → (get_or ys k 0 ≡ r) ⊎ FromOld xs ys k
from_either xs r ys k h lt =
    let n : length (xs ++ r ∷ []) ≡ length xs + 1 = length_push xs r in
    let o : (j : ℕ) × ((j < length (xs ++ r ∷ [])) × (get_or (xs ++ r ∷ []) j 0 ≡ get_or ys k 0)) = h.lits.back k (omega (arith, h.lits.size)) in
    elim (cases_eq o.0 (length xs)) [
      | inl e ↦ inl (sym o.1.1 ∙ get_or_push xs r 0 o.0 (sym e))
      | inr d ↦
          let b : o.0 < length xs = omega (arith, o.1.0) in
          inr (record { place = o.0; within = b; same = sym (get_or_append_left xs (r ∷ []) 0 o.0 b) ∙ o.1.1 })
    ]

joined_distinct : (xs : List ℕ) (r : ℕ) (ys : List ℕ) → Joined xs r ys → AreDistinct xs → ((k : ℕ) → k < length xs → get_or xs k 0 ≡ r → ⊥) → AreDistinct ys
joined_distinct xs r ys h d other = h.lits.apart (distinct_push xs r d other)

from_after : (xs : List ℕ) (r : ℕ) (ys : List ℕ) (k : ℕ) → Joined xs r ys → AreDistinct ys → 0 < k → k < length ys → FromOld xs ys k
from_after xs r ys k h d pos lt = elim (from_either xs r ys k h lt) [
  | inl e ↦ absurd (omega (arith, d k 0 lt (omega arith) (e ∙ sym h.first)))
  | inr o ↦ o
]

new_in : (xs : List ℕ) (r : ℕ) (ys : List ℕ) → Joined xs r ys → Contains ys r
new_in xs r ys h = Contains-permutation (xs ++ r ∷ []) ys r h.lits.order (Contains-push xs r)

old_in : (xs : List ℕ) (r : ℕ) (ys : List ℕ) (x : ℕ) → Joined xs r ys → Contains xs x → Contains ys x
old_in xs r ys x h c = Contains-permutation (xs ++ r ∷ []) ys x h.lits.order (Contains-append_left xs (r ∷ []) x c)

-- if no other flagged literal of the current level is left, every explained literal has a known cause
last_grounded : (s : PropagationState) (w : AnalysisState) (p at r : ℕ) (ys : List ℕ) → StateIsConsistent s → at ≤ length s.trail.lits → IsLastFlagged s w.flags p at → open_below s (current_level s) (set w.flags (variable (lit_at s p)) false) p ≡ 0 →
    w.core ≡ [] → Joined w.clause (negated (lit_at s p)) ys → IsExplained s (current_level s) w at r → IsExplainedByUsed s ys w.used r
last_grounded s w p at r ys a le h none bare j (covered_unit z) = explained_unit z
last_grounded s w p at r ys a le h none bare j (covered_clause c) = explained_clause (old_in w.clause (negated (lit_at s p)) ys r j c)
last_grounded s w p at r ys a le h none bare j (covered_reason c) = explained_reason c
last_grounded s w p at r ys a le h none bare j (covered_core c) = absurd (omega (arith, c.1, ap (λ (xs : List ℕ). length xs) bare))
last_grounded s w p at r ys a le h none bare j (covered_open x) = elim (passed_waiting s (current_level s) w p at r a le h x) [
  | inl y ↦
      let v_is : variable (lit_at s y.before.place) ≡ variable r = ap (λ z. variable z) y.before.there ∙ negated_variable r in
      absurd (open_no s (current_level s) (set w.flags (variable (lit_at s p)) false) p y.before.place none y.before.before
      (ap (λ v. get_or (set w.flags (variable (lit_at s p)) false) v false) v_is ∙ y.flagged)
      (omega (arith, level_by_variable s (lit_at s y.before.place) r v_is, y.high)))
  | inr e ↦ explained_clause (subst (λ z. Contains ys z) (ap (λ z. negated z) e ∙ negated_twice r) (new_in w.clause (negated (lit_at s p)) ys j))
]

-- the literal of the current level isn't the negation of a literal of the clause
not_lower : (s : PropagationState) (w : AnalysisState) (p k : ℕ) → level s (lit_at s p) ≡ current_level s → AreFlagsOf s (current_level s) (unflagged (lit_at s p) w) p → k < length w.clause → get_or w.clause k 0 ≡ negated (lit_at s p) → ⊥
not_lower s w p k top m lt e = omega (arith, (m.lower k lt).below, ap (λ z. level s z) e, level_by_variable s (negated (lit_at s p)) (lit_at s p) (negated_variable (lit_at s p)))

asserting_first : (s : PropagationState) (w : AnalysisState) (p : ℕ) (ys : List ℕ) → StateIsConsistent s → p < length s.trail.lits → level s (lit_at s p) ≡ current_level s → AreFlagsOf s (current_level s) (unflagged (lit_at s p) w) p →
    Joined w.clause (negated (lit_at s p)) ys → AreDistinct ys → IsAsserting s ys
asserting_first s w p ys a within top m j d =
    let n : length (w.clause ++ negated (lit_at s p) ∷ []) ≡ length w.clause + 1 = length_push w.clause (negated (lit_at s p)) in
    record {
      some = omega (arith, j.lits.size);
      fails = λ k lt. elim (from_either w.clause (negated (lit_at s p)) ys k j lt) [
        | inl e ↦ subst (λ z. IsFalseLit s.values z) (sym e) (false_from_true s.values (lit_at s p) (a.holds p within))
        | inr o ↦ subst (λ z. IsFalseLit s.values z) o.same (m.lower o.place o.within).fails
      ];
      top = ap (λ z. level s z) j.first ∙ level_by_variable s (negated (lit_at s p)) (lit_at s p) (negated_variable (lit_at s p)) ∙ top;
      lower = λ k b lt.
          let o : FromOld w.clause ys k = from_after w.clause (negated (lit_at s p)) ys k j d b lt in
          subst (λ z. (0 < level s z) × (level s z < current_level s)) o.same ((m.lower o.place o.within).above, (m.lower o.place o.within).below);
      distinct = d;
    }

pub distinct_by_depth : (s : PropagationState) (xs : List ℕ) → ((j k : ℕ) → j < k → k < length xs → depth s (get_or xs k 0) < depth s (get_or xs j 0)) → AreDistinct xs
distinct_by_depth s xs f j k p q e = elim (cases_eq j k) [
  | inl x ↦ x
  | inr n ↦ elim (cases_lt j k) [
    | inl lt ↦ absurd (omega (arith, f j k lt q, ap (λ z. depth s z) e))
    | inr ge ↦ absurd (omega (arith, f k j (omega arith) p, ap (λ z. depth s z) e))
  ]
]

pub finished : (words : List ℕ) (s : PropagationState) (conflict : List ℕ) (w : AnalysisState) (p at : ℕ) → CanAnalyze words s → ResolutionInvariant words s conflict w at → w.pending ≡ 1 → IsLastFlagged s w.flags p at → variable (lit_at s p) < length w.flags →
    ResolutionResult words s conflict (with_first (negated (lit_at s p)) (unflagged (lit_at s p) w))
finished words s conflict w p at can r one h b =
    let a : StateIsConsistent s = can.agrees in
    let l : ℕ = lit_at s p in
    let t : ℕ = current_level s in
    let ys : List ℕ = swap (w.clause ++ negated l ∷ []) 0 (length w.clause) in
    let j : Joined w.clause (negated l) ys = joined w.clause (negated l) in
    let within : p < length s.trail.lits = omega (arith, h.before, r.marks.within) in
    let high : current_level s ≤ level s l = last_high s t w.flags p at a r.marks.within h (open_some s t w.flags at (omega (arith, r.marks.counted))) in
    let top : level s l ≡ current_level s = at_current s p a within high in
    let m : AreFlagsOf s (current_level s) (unflagged l w) p = marks_passed s t w p at a r.marks h high b in
    let none : open_below s (current_level s) (set w.flags (variable l) false) p ≡ 0 = omega (arith, m.counted) in
    let d : AreDistinct ys = joined_distinct w.clause (negated l) ys j m.distinct (λ k lt e. not_lower s w p k top m lt e) in
    let ground : (q : ℕ) → IsExplained s (current_level s) w at q → IsExplainedByUsed s ys w.used q = λ q c. last_grounded s w p at q ys a r.marks.within h none r.none j c in
    let tops : (k : ℕ) → k < length w.used → level s (get_or w.used k 0) ≡ current_level s = λ k lt.
    let x : IsReasoned s at (get_or w.used k 0) = (r.uses.reasons k lt).0 in
    let up : current_level s ≤ level s (lit_at s x.place) = omega (arith, (r.uses.reasons k lt).1, ap (λ z. level s z) x.there) in
    ap (λ z. level s z) (sym x.there) ∙ at_current s x.place a x.within up in
    record {
      size = m.size;
      asserting = asserting_first s w p ys a within top m j d;
      grounds = record {
        reasons = λ q c.
            let x : IsReasoned s at q = subst (λ z. IsReasoned s at z) (at_place w.used q c) (r.uses.reasons c.0 c.1).0 in
            record { place = x.place; from = omega arith; within = x.within; there = x.there; above = x.above; caused = x.caused };
        causes = λ q c. subst (λ z. AreExplainedByUsed s ys w.used (causes_at words s z)) (at_place w.used q c)
            (λ i lt. ground (get_or (causes_at words s (get_or w.used c.0 0)) i 0) (r.uses.causes c.0 c.1 i lt));
        start = λ i lt. ground (get_or conflict i 0) (r.start i lt);
        apart = λ q c e.
            let x : IsReasoned s at q = subst (λ z. IsReasoned s at z) (at_place w.used q c) (r.uses.reasons c.0 c.1).0 in
            let q_top : level s q ≡ current_level s = subst (λ z. level s z ≡ current_level s) (at_place w.used q c) (tops c.0 c.1) in
            let q_at : get_or ys e.0 0 ≡ negated q = at_place ys (negated q) e in
            elim (from_either w.clause (negated l) ys e.0 j e.1) [
              | inl i ↦
                  let same : l ≡ q = sym (negated_twice l) ∙ ap (λ z. negated z) (sym i ∙ q_at) ∙ negated_twice q in
                  omega (arith, x.from, h.before, places_apart s p x.place a within x.within (ap (λ z. variable z) (same ∙ sym x.there)))
              | inr o ↦ omega (arith, (m.lower o.place o.within).below, ap (λ z. level s z) (o.same ∙ q_at), level_by_variable s (negated q) q (negated_variable q))
            ];
        distinct = distinct_by_depth s w.used r.uses.falling;
      };
      falling = r.uses.falling;
      tops = tops;
      only = λ v e. elim (m.flagged v e) [
        | inl x ↦
            let c : Contains ys (get_or w.clause x.0 0) = old_in w.clause (negated l) ys (get_or w.clause x.0 0) j (place_in w.clause x.0 x.1.0) in
            (c.0, (c.1, ap (λ z. variable z) (at_place ys (get_or w.clause x.0 0) c) ∙ x.1.1))
        | inr x ↦ absurd (both_ways (get_or (set w.flags (variable l) false) (variable (lit_at s x.place)) false)
            (no_flag s t (set w.flags (variable l) false) p x.place none x.before x.high) (ap (λ z. get_or (set w.flags (variable l) false) z false) x.there ∙ e))
      ];
      flagged = λ k pos lt.
          let o : FromOld w.clause ys k = from_after w.clause (negated l) ys k j d pos lt in
          ap (λ z. get_or (set w.flags (variable l) false) (variable z) false) (sym o.same) ∙ (m.lower o.place o.within).flagged;
    }
  where
    no_flag : (s : PropagationState) (top : ℕ) (flags : List Bool) (n q : ℕ) → open_below s top flags n ≡ 0 → q < n → top ≤ level s (lit_at s q) → get_or flags (variable (lit_at s q)) false ≡ false
    no_flag s top flags n q e lt t = elim (cases_Bool (get_or flags (variable (lit_at s q)) false)) [
      | inl f ↦ absurd (open_no s top flags n q e lt f t)
      | inr f ↦ f
    ]

-- a derivation stays one if its used literals are permuted
pub grounds_permuted : (words : List ℕ) (s : PropagationState) (conflict learned used used' : List ℕ) → IsPermutation used used' → AreDistinct used' → IsUnorderedDerivation words s conflict learned used → IsUnorderedDerivation words s conflict learned used'
grounds_permuted words s conflict learned used used' p d g =
    let back : (l : ℕ) → Contains used' l → Contains used l = λ l c. Contains-permutation used' used l (IsPermutation-sym used used' p) c in
    let forth : (r : ℕ) → IsExplainedByUsed s learned used r → IsExplainedByUsed s learned used' r = λ r x. moved s learned used used' r p x in
    record {
      reasons = λ l c. g.reasons l (back l c);
      causes = λ l c i lt. forth (get_or (causes_at words s l) i 0) (g.causes l (back l c) i lt);
      start = λ i lt. forth (get_or conflict i 0) (g.start i lt);
      apart = λ l c x. g.apart l (back l c) x;
      distinct = d;
    }
  where
    moved : (s : PropagationState) (learned used used' : List ℕ) (r : ℕ) → IsPermutation used used' → IsExplainedByUsed s learned used r → IsExplainedByUsed s learned used' r
    moved s learned used used' r p (explained_unit z) = explained_unit z
    moved s learned used used' r p (explained_clause c) = explained_clause c
    moved s learned used used' r p (explained_reason c) = explained_reason (Contains-permutation used used' (negated r) p c)
