-- The reasons of a failed assumption are traced back along the trail: start, step and end.
use Rattle.std.proofs.Common.{ℕ, ◌≡◌, ◌+◌, ◌-◌, ◌<◌, ◌≤◌, inl, inr, suc, zero, true, false, List, [], ◌∷◌, ◌++◌, length, map, get_or, refl, sym, ap, ◌∙◌, subst, arith}
use Rattle.std.proofs.lemmas.Bool.{cases_eq, cases_lt, cases_Bool, true≢false}
use Rattle.std.proofs.lemmas.List.{length_push, get_or_append_left, get_or_push}
use Rattle.std.proofs.lemmas.List.Elements.{Contains-append_left, Contains-push}
use Rattle.std.specs.List.{Contains}
use Rattle.sat_base.specs.values.Literals.{variable, negated}
use Rattle.sat_parts.specs.clause.Glue.{FlagsAreClear}
use Rattle.sat_parts.specs.clause.Orders.{AreDistinct}
use Rattle.sat_parts.specs.prop.ReasonLits.{reason_lits}
use Rattle.sat_parts.specs.prop.Graphs.{has_no_clause, node_of}
use Rattle.sat_parts.specs.prop.Reasons.{IsFalseBefore}
use Rattle.sat_parts.specs.prop.Values.{IsTrueLit, IsFalseLit}
use Rattle.sat_parts.specs.prop.State.{PropagationState, node, level, current_level, lit_at, IsOnTrailBefore, StateIsConsistent}
use Rattle.sat_parts.proofs.lemmas.clause.ListLemmas.{at_place, place_in, in_head, in_tail, there}
use Rattle.sat_parts.proofs.lemmas.prop.StateLemmas.{negated_variable, negated_twice, true_from_false, not_both, level_low}
use Rattle.sat_solver.specs.analyze_conflict.AnalysisState.{AnalysisState, with_seen_literals, unflagged, with_reason_used, with_core_literal, begun_core}
use Rattle.sat_solver.specs.analyze_conflict.Marks.{causes_at, CanAnalyze, AreFlagsOf, IsExplained, covered_unit, covered_clause, covered_reason, covered_core, covered_open, IsReasoned, depth}
use Rattle.sat_solver.specs.analyze_conflict.Derivation.{clause_of, IsExplainedByUsed, explained_unit, explained_clause, explained_reason}
use Rattle.sat_solver.specs.analyze_conflict.Minimization.{with_used}
use Rattle.sat_solver.specs.assumptions.FailedAssumptions.{IsDecisionAt, IsCoreFrom, TraceInvariant, TraceResult}
use Rattle.sat_solver.proofs.lemmas.analyze_conflict.InTurn.{above_first}
use Rattle.sat_solver.proofs.lemmas.analyze_conflict.Meeting.{level_by_variable, open_some, open_no, Met, met_all}
use Rattle.sat_solver.proofs.lemmas.analyze_conflict.Resolution.{IsLastFlagged, last_high, marks_passed, passed_waiting, taken_covered, uses_next}
use Rattle.sat_solver.proofs.lemmas.analyze_conflict.Ends.{begun_marks, distinct_by_depth}

-- the negation of a false literal above level 0 is on the trail
pub negation_before : (s : PropagationState) (l : ℕ) → StateIsConsistent s → IsFalseLit s.values l → 0 < level s l → IsOnTrailBefore s (length s.trail.lits) (negated l)
negation_before s l a f above = elim (a.known (negated l) (true_from_false s.values l f)) [
  | inl b ↦ b
  | inr x ↦ absurd (omega (arith, x.bottom, level_by_variable s (negated l) l (negated_variable l)))
]

-- its position is its depth minus 1
pub place_by_depth : (s : PropagationState) (l : ℕ) → StateIsConsistent s → IsFalseLit s.values l → 0 < level s l → (b : IsOnTrailBefore s (length s.trail.lits) (negated l)) → b.place ≡ depth s l - 1
place_by_depth s l a f above b =
    omega (arith, a.depths b.place b.within, ap (λ z. depth s z) b.there, ap (λ v. (node_of s.nodes v).depth) (negated_variable l))

-- if literals are resolved from level 1 on, the clause is empty
pub no_clause : (s : PropagationState) (w : AnalysisState) (at : ℕ) → AreFlagsOf s 1 w at → length w.clause ≡ 0
no_clause s w at m = elim (cases_eq (length w.clause) 0) [
  | inl e ↦ e
  | inr n ↦ absurd (omega (arith, (m.lower 0 (omega arith)).above, (m.lower 0 (omega arith)).below))
]

-- the causes of a literal were false before its position
before_here : (words : List ℕ) (s : PropagationState) (p : ℕ) (rs : List ℕ) → CanAnalyze words s → get_or s.trail.starts 0 0 ≤ p → p < length s.trail.lits → causes_at words s (lit_at s p) ≡ rs → (k : ℕ) → k < length rs → IsFalseBefore s p (get_or rs k 0)
before_here words s p rs can first within e k lt =
    subst (λ (ls : List ℕ). IsFalseBefore s p (get_or ls k 0)) e (can.before p k first within (subst (λ (ls : List ℕ). k < length ls) (sym e) lt))

-- the invariant holds after the reason of the failed assumption was used
pub traced_first : (words : List ℕ) (s : PropagationState) (failed p : ℕ) (w : AnalysisState) → CanAnalyze words s → FlagsAreClear w.flags → length w.flags ≡ length s.values → p < length s.trail.lits → lit_at s p ≡ negated failed → 0 < level s failed →
    has_no_clause (node s failed).reason ≡ false → TraceInvariant words s failed (with_seen_literals s.nodes 1 (causes_at words s failed) (with_used (negated failed) (begun_core failed w))) p
traced_first words s failed p w can clear size within there above caused =
    let w1 : AnalysisState = with_used (negated failed) (begun_core failed w) in
    let rs : List ℕ = causes_at words s failed in
    let w2 : AnalysisState = with_seen_literals s.nodes 1 rs w1 in
    let v_is : variable (lit_at s p) ≡ variable failed = ap (λ z. variable z) there ∙ negated_variable failed in
    let up : level s (lit_at s p) ≡ level s failed = level_by_variable s (lit_at s p) failed v_is in
    let first : get_or s.trail.starts 0 0 ≤ p = above_first s p (lit_at s p) can.agrees within refl (omega (arith, up)) can.above in
    let rs_is : causes_at words s (lit_at s p) ≡ rs = ap (λ v. reason_lits words (node_of s.nodes v).reason) v_is in
    let m : Met s 1 p rs w1 w2 =
    met_all s 1 p rs w1 can.agrees (λ k lt. before_here words s p rs can first within rs_is k lt) (begun_marks s 1 w1 p (omega arith) clear size refl refl) in
    let one : length w2.used ≡ 1 = ap (λ (xs : List ℕ). length xs) m.used in
    let head : get_or w2.used 0 0 ≡ negated failed = ap (λ (xs : List ℕ). get_or xs 0 0) m.used in
    record {
      marks = m.marks;
      uses = record {
        reasons = λ k lt.
            let e : k ≡ 0 = omega arith in
            let is : get_or w2.used k 0 ≡ negated failed = ap (λ z. get_or w2.used z 0) e ∙ head in
            subst (λ z. IsReasoned s p z × (1 ≤ level s z)) (there ∙ sym is)
            (record { place = p; from = omega arith; within = within; there = refl; above = omega (arith, up); caused = ap (λ v. has_no_clause (node_of s.nodes v).reason) v_is ∙ caused }, omega (arith, up));
        falling = λ j k a lt. absurd (omega arith);
        causes = λ k lt.
            let e : k ≡ 0 = omega arith in
            let is : get_or w2.used k 0 ≡ lit_at s p = ap (λ z. get_or w2.used z 0) e ∙ head ∙ sym there in
            subst (λ (ls : List ℕ). (i : ℕ) → i < length ls → IsExplained s 1 w2 p (get_or ls i 0)) (sym (ap (λ z. causes_at words s z) is ∙ rs_is)) m.covered;
      };
      lits = record {
        some = omega (arith, ap (λ (xs : List ℕ). length xs) m.core);
        first = ap (λ (xs : List ℕ). get_or xs 0 0) m.core;
        chosen = λ k pos lt. absurd (omega (arith, ap (λ (xs : List ℕ). length xs) m.core));
        falling = λ j k pos a lt. absurd (omega (arith, ap (λ (xs : List ℕ). length xs) m.core));
      };
      some = omega arith;
      head = head;
    }

-- what is known of the last flagged literal
pub record Reached (words : List ℕ) (s : PropagationState) (w : AnalysisState) (p at : ℕ) : Type 0 where
  pub within : p < length s.trail.lits
  pub above : 0 < level s (lit_at s p)
  pub first : get_or s.trail.starts 0 0 ≤ p
  pub marks : AreFlagsOf s 1 (unflagged (lit_at s p) w) p

pub reached : (words : List ℕ) (s : PropagationState) (w : AnalysisState) (p at : ℕ) → CanAnalyze words s → AreFlagsOf s 1 w at → 0 < w.pending → IsLastFlagged s w.flags p at → variable (lit_at s p) < length w.flags → Reached words s w p at
reached words s w p at can m some h b =
    let within : p < length s.trail.lits = omega (arith, h.before, m.within) in
    let high : 1 ≤ level s (lit_at s p) = last_high s 1 w.flags p at can.agrees m.within h (open_some s 1 w.flags at (omega (arith, m.counted))) in
    record {
      within = within;
      above = omega arith;
      first = above_first s p (lit_at s p) can.agrees within refl (omega arith) can.above;
      marks = marks_passed s 1 w p at can.agrees m h high b;
    }

from_earlier : (s : PropagationState) (failed : ℕ) (core : List ℕ) (p at : ℕ) → p ≤ at → IsCoreFrom s failed core at → IsCoreFrom s failed core p
from_earlier s failed core p at le h = record {
  some = h.some;
  first = h.first;
  chosen = λ k pos lt.
      let x : IsDecisionAt s at (get_or core k 0) = h.chosen k pos lt in
      record { place = x.place; from = omega (arith, x.from); within = x.within; there = x.there; above = x.above; free = x.free };
  falling = h.falling;
}

head_kept : (xs : List ℕ) (x h : ℕ) → 0 < length xs → get_or xs 0 0 ≡ h → get_or (xs ++ x ∷ []) 0 0 ≡ h
head_kept xs x h lt e = get_or_append_left xs (x ∷ []) 0 0 lt ∙ e

-- the last flagged literal has a clause as its reason, which is used
pub traced_used : (words : List ℕ) (s : PropagationState) (failed : ℕ) (w : AnalysisState) (p at : ℕ) → CanAnalyze words s → TraceInvariant words s failed w at → 0 < w.pending → IsLastFlagged s w.flags p at → variable (lit_at s p) < length w.flags →
    has_no_clause (node s (lit_at s p)).reason ≡ false →
    TraceInvariant words s failed (with_seen_literals s.nodes 1 (causes_at words s (lit_at s p)) (with_reason_used (node s (lit_at s p)).reason (lit_at s p) w)) p
traced_used words s failed w p at can h some last b caused =
    let l : ℕ = lit_at s p in
    let t : Reached words s w p at = reached words s w p at can h.marks some last b in
    let w1 : AnalysisState = with_reason_used (node s l).reason l w in
    let rs : List ℕ = causes_at words s l in
    let w2 : AnalysisState = with_seen_literals s.nodes 1 rs w1 in
    let marks : AreFlagsOf s 1 w1 p = record { size = t.marks.size; within = t.marks.within; flagged = t.marks.flagged; lower = t.marks.lower; distinct = t.marks.distinct; counted = t.marks.counted } in
    let m : Met s 1 p rs w1 w2 = met_all s 1 p rs w1 can.agrees (λ k lt. can.before p k t.first t.within lt) marks in
    let forth : (q : ℕ) → IsExplained s 1 w at q → IsExplained s 1 w1 p q = λ q c. taken_covered s 1 w (node s l).reason p at q can.agrees h.marks.within last c in
    let n : length (w.used ++ l ∷ []) ≡ length w.used + 1 = length_push w.used l in
    record {
      marks = m.marks;
      uses = uses_next words s 1 w w1 w2 p at can h.uses last.before t.within refl m forth (omega arith) (omega (arith, t.above)) caused;
      lits = subst (λ (xs : List ℕ). IsCoreFrom s failed xs p) (sym m.core) (from_earlier s failed w.core p at (omega (arith, last.before)) h.lits);
      some = omega (arith, ap (λ (xs : List ℕ). length xs) m.used);
      head = ap (λ (xs : List ℕ). get_or xs 0 0) m.used ∙ head_kept w.used l (negated failed) h.some h.head;
    }

chosen_covered : (s : PropagationState) (w : AnalysisState) (p at r : ℕ) → StateIsConsistent s → at ≤ length s.trail.lits → IsLastFlagged s w.flags p at → IsExplained s 1 w at r → IsExplained s 1 (with_core_literal (lit_at s p) w) p r
chosen_covered s w p at r a le h (covered_unit z) = covered_unit z
chosen_covered s w p at r a le h (covered_clause c) = covered_clause c
chosen_covered s w p at r a le h (covered_reason c) = covered_reason c
chosen_covered s w p at r a le h (covered_core c) = covered_core (Contains-append_left w.core (lit_at s p ∷ []) (negated r) c)
chosen_covered s w p at r a le h (covered_open x) = elim (passed_waiting s 1 w p at r a le h x) [
  | inl y ↦ covered_open y
  | inr e ↦ covered_core (subst (λ z. Contains (w.core ++ lit_at s p ∷ []) z) e (Contains-push w.core (lit_at s p)))
]

-- the last flagged literal is a decision, which is added to the core
pub traced_chosen : (words : List ℕ) (s : PropagationState) (failed : ℕ) (w : AnalysisState) (p at : ℕ) → CanAnalyze words s → TraceInvariant words s failed w at → 0 < w.pending → IsLastFlagged s w.flags p at → variable (lit_at s p) < length w.flags →
    has_no_clause (node s (lit_at s p)).reason ≡ true → TraceInvariant words s failed (with_core_literal (lit_at s p) w) p
traced_chosen words s failed w p at can h some last b free =
    let l : ℕ = lit_at s p in
    let t : Reached words s w p at = reached words s w p at can h.marks some last b in
    let n : length (w.core ++ l ∷ []) ≡ length w.core + 1 = length_push w.core l in
    let old : (k : ℕ) → k < length w.core → get_or (w.core ++ l ∷ []) k 0 ≡ get_or w.core k 0 = λ k lt. get_or_append_left w.core (l ∷ []) 0 k lt in
    let new : (k : ℕ) → k ≡ length w.core → get_or (w.core ++ l ∷ []) k 0 ≡ l = λ k e. get_or_push w.core l 0 k (sym e) in
    record {
      marks = record { size = t.marks.size; within = t.marks.within; flagged = t.marks.flagged; lower = t.marks.lower; distinct = t.marks.distinct; counted = t.marks.counted };
      uses = record {
        reasons = λ k lt.
            let x : IsReasoned s at (get_or w.used k 0) = (h.uses.reasons k lt).0 in
            (record { place = x.place; from = omega (arith, x.from, last.before); within = x.within; there = x.there; above = x.above; caused = x.caused }, (h.uses.reasons k lt).1);
        falling = h.uses.falling;
        causes = λ k lt i c. chosen_covered s w p at (get_or (causes_at words s (get_or w.used k 0)) i 0) can.agrees h.marks.within last (h.uses.causes k lt i c);
      };
      lits = record {
        some = omega arith;
        first = head_kept w.core l failed h.lits.some h.lits.first;
        chosen = λ k pos lt. elim (cases_eq k (length w.core)) [
          | inl e ↦ subst (λ z. IsDecisionAt s p z) (sym (new k e)) (record { place = p; from = omega arith; within = t.within; there = refl; above = t.above; free = free })
          | inr d ↦
              let q : k < length w.core = omega arith in
              let x : IsDecisionAt s at (get_or w.core k 0) = h.lits.chosen k pos q in
              subst (λ z. IsDecisionAt s p z) (sym (old k q)) (record { place = x.place; from = omega (arith, x.from, last.before); within = x.within; there = x.there; above = x.above; free = x.free })
        ];
        falling = λ j k pos a lt. elim (cases_eq k (length w.core)) [
          | inl e ↦
              let q : j < length w.core = omega arith in
              let x : IsDecisionAt s at (get_or w.core j 0) = h.lits.chosen j pos q in
              omega (arith, x.from, last.before, can.agrees.depths x.place x.within, can.agrees.depths p t.within, ap (λ z. depth s z) x.there, ap (λ z. depth s z) (old j q), ap (λ z. depth s z) (new k e))
          | inr d ↦
              let q : k < length w.core = omega arith in
              omega (arith, h.lits.falling j k pos a q, ap (λ z. depth s z) (old j (omega arith)), ap (λ z. depth s z) (old k q))
        ];
      };
      some = h.some;
      head = h.head;
    }

-- a literal whose negation is in a list is among the negations of that list
pub negation_in : (xs : List ℕ) (r : ℕ) → Contains xs (negated r) → Contains (map negated xs) r
negation_in [] r c = absurd (omega (arith, c.1))
negation_in (x ∷ xs) r c = elim (cases_eq x (negated r)) [
  | inl e ↦ subst (λ z. Contains (negated x ∷ map negated xs) z) (ap (λ z. negated z) e ∙ negated_twice r) (in_head (negated x) (map negated xs))
  | inr n ↦ in_tail (negated x) (map negated xs) r (negation_in xs r (there x xs (negated r) n c))
]

pub negation_out : (xs : List ℕ) (r : ℕ) → Contains (map negated xs) r → Contains xs (negated r)
negation_out [] r c = absurd (omega (arith, c.1))
negation_out (x ∷ xs) r c = elim (cases_eq (negated x) r) [
  | inl e ↦ subst (λ z. Contains (x ∷ xs) z) (sym (negated_twice x) ∙ ap (λ z. negated z) e) (in_head x xs)
  | inr n ↦ in_tail x xs (negated r) (negation_out xs r (there (negated x) (map negated xs) r n c))
]

core_distinct : (s : PropagationState) (failed : ℕ) (core : List ℕ) → StateIsConsistent s → IsFalseLit s.values failed → IsCoreFrom s failed core 0 → AreDistinct core
core_distinct s failed core a f h j k p q e = elim (cases_eq j k) [
  | inl x ↦ x
  | inr n ↦ elim (cases_eq j 0) [
    | inl z ↦ absurd (apart k q (omega arith) (sym e ∙ ap (λ i. get_or core i 0) z ∙ h.first))
    | inr y ↦ elim (cases_eq k 0) [
      | inl z ↦ absurd (apart j p (omega arith) (e ∙ ap (λ i. get_or core i 0) z ∙ h.first))
      | inr x ↦ elim (cases_lt j k) [
        | inl lt ↦ absurd (omega (arith, h.falling j k (omega arith) lt q, ap (λ z. depth s z) e))
        | inr ge ↦ absurd (omega (arith, h.falling k j (omega arith) (omega arith) p, ap (λ z. depth s z) e))
      ]
    ]
  ]
]
  where
    apart : (i : ℕ) → i < length core → 0 < i → get_or core i 0 ≡ failed → ⊥
    apart i lt pos is =
        let x : IsDecisionAt s 0 (get_or core i 0) = h.chosen i pos lt in
        not_both s.values failed (subst (λ z. IsTrueLit s.values z) (x.there ∙ is) (a.holds x.place x.within)) f

-- the result once no literal is left to be resolved
pub traced_end : (words : List ℕ) (s : PropagationState) (failed : ℕ) (w : AnalysisState) (at : ℕ) → CanAnalyze words s → IsFalseLit s.values failed → TraceInvariant words s failed w at → w.pending ≡ 0 → TraceResult words s failed w
traced_end words s failed w at can f h done =
    let a : StateIsConsistent s = can.agrees in
    let lits : IsCoreFrom s failed w.core 0 = from_earlier s failed w.core 0 at (omega arith) h.lits in
    let in_core : Contains w.core failed = subst (λ z. Contains w.core z) h.lits.first (place_in w.core 0 h.lits.some) in
    let ground : (q : ℕ) → IsExplained s 1 w at q → IsExplainedByUsed s (map negated w.core) w.used q = λ q c. end_grounded s w at q h.marks done c in
    let reason : (l : ℕ) → Contains w.used l → IsReasoned s 0 l = λ l c.
    let x : IsReasoned s at l = subst (λ z. IsReasoned s at z) (at_place w.used l c) (h.uses.reasons c.0 c.1).0 in
    record { place = x.place; from = omega arith; within = x.within; there = x.there; above = x.above; caused = x.caused } in
    record {
      size = h.marks.size;
      clear = λ v. elim (cases_Bool (get_or w.flags v false)) [
        | inl t ↦ elim (h.marks.flagged v t) [
          | inl x ↦ absurd (omega (arith, x.1.0, no_clause s w at h.marks))
          | inr x ↦ absurd (open_no s 1 w.flags at x.place (sym h.marks.counted ∙ done) x.before (ap (λ z. get_or w.flags z false) x.there ∙ t) x.high)
        ]
        | inr g ↦ g
      ];
      core = record { lits = lits; distinct = core_distinct s failed w.core a f lits };
      grounds = record {
        reasons = reason;
        causes = λ l c. subst (λ z. (i : ℕ) → i < length (causes_at words s z) → IsExplainedByUsed s (map negated w.core) w.used (get_or (causes_at words s z) i 0)) (at_place w.used l c)
            (λ i lt. ground (get_or (causes_at words s (get_or w.used c.0 0)) i 0) (h.uses.causes c.0 c.1 i lt));
        start = λ i lt. start_ground words s failed w at h ground in_core i lt;
        apart = λ l c d.
            let x : IsReasoned s 0 l = reason l c in
            let e : Contains w.core l = subst (λ z. Contains w.core z) (negated_twice l) (negation_out w.core (negated l) d) in
            elim (cases_eq e.0 0) [
              | inl z ↦
                  let is : failed ≡ l = sym h.lits.first ∙ ap (λ i. get_or w.core i 0) (sym z) ∙ at_place w.core l e in
                  not_both s.values failed (subst (λ m. IsTrueLit s.values m) (x.there ∙ sym is) (a.holds x.place x.within)) f
              | inr n ↦
                  let y : IsDecisionAt s 0 l = subst (λ m. IsDecisionAt s 0 m) (at_place w.core l e) (lits.chosen e.0 (omega arith) e.1) in
                  true≢false (sym y.free ∙ x.caused)
            ];
        distinct = distinct_by_depth s w.used h.uses.falling;
      };
      falling = h.uses.falling;
      some = h.some;
      head = h.head;
    }
  where
    end_grounded : (s : PropagationState) (w : AnalysisState) (at r : ℕ) → AreFlagsOf s 1 w at → w.pending ≡ 0 → IsExplained s 1 w at r → IsExplainedByUsed s (map negated w.core) w.used r
    end_grounded s w at r m done (covered_unit z) = explained_unit z
    end_grounded s w at r m done (covered_clause c) = absurd (omega (arith, c.1, no_clause s w at m))
    end_grounded s w at r m done (covered_reason c) = explained_reason c
    end_grounded s w at r m done (covered_core c) = explained_clause (negation_in w.core r c)
    end_grounded s w at r m done (covered_open x) =
        let v_is : variable (lit_at s x.before.place) ≡ variable r = ap (λ z. variable z) x.before.there ∙ negated_variable r in
        absurd (open_no s 1 w.flags at x.before.place (sym m.counted ∙ done) x.before.before (ap (λ z. get_or w.flags z false) v_is ∙ x.flagged) (omega (arith, level_by_variable s (lit_at s x.before.place) r v_is, x.high)))

    start_ground : (words : List ℕ) (s : PropagationState) (failed : ℕ) (w : AnalysisState) (at : ℕ) → TraceInvariant words s failed w at → ((q : ℕ) → IsExplained s 1 w at q → IsExplainedByUsed s (map negated w.core) w.used q) → Contains w.core failed →
        (i : ℕ) → i < length (clause_of words s (negated failed)) → IsExplainedByUsed s (map negated w.core) w.used (get_or (clause_of words s (negated failed)) i 0)
    start_ground words s failed w at h ground in_core zero lt = explained_clause (negation_in w.core (negated failed) (subst (λ z. Contains w.core z) (sym (negated_twice failed)) in_core))
    start_ground words s failed w at h ground in_core (suc i) lt =
        ground (get_or (causes_at words s (negated failed)) i 0)
        (subst (λ z. (j : ℕ) → j < length (causes_at words s z) → IsExplained s 1 w at (get_or (causes_at words s z) j 0)) h.head (h.uses.causes 0 h.some) i (omega arith))

-- the position of the negated assumption on the trail
pub record Found (words : List ℕ) (s : PropagationState) (failed p : ℕ) : Type 0 where
  pub within : p < length s.trail.lits
  pub there : lit_at s p ≡ negated failed
  pub first : get_or s.trail.starts 0 0 ≤ p
  pub node_is : node s failed ≡ node s (lit_at s p)

pub found : (words : List ℕ) (s : PropagationState) (failed : ℕ) → CanAnalyze words s → IsFalseLit s.values failed → 0 < level s failed → Found words s failed (depth s failed - 1)
found words s failed can f above =
    let b : IsOnTrailBefore s (length s.trail.lits) (negated failed) = negation_before s failed can.agrees f above in
    let e : b.place ≡ depth s failed - 1 = place_by_depth s failed can.agrees f above b in
    let v_is : variable (lit_at s b.place) ≡ variable failed = ap (λ z. variable z) b.there ∙ negated_variable failed in
    subst (λ p. Found words s failed p) e (record {
      within = b.within;
      there = b.there;
      first = above_first s b.place (lit_at s b.place) can.agrees b.within refl (omega (arith, level_by_variable s (lit_at s b.place) failed v_is)) can.above;
      node_is = ap (λ v. node_of s.nodes v) (sym v_is);
    })

-- if a literal above level 0 is false, some level is open
pub some_level : (s : PropagationState) (l : ℕ) → StateIsConsistent s → IsFalseLit s.values l → 0 < level s l → 0 < current_level s
some_level s l a f above = omega (arith, level_low s (negated l) a (true_from_false s.values l f), level_by_variable s (negated l) l (negated_variable l))
