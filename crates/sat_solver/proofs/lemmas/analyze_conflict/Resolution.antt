-- One resolution step replaces the last flagged literal of the trail by the literals of its reason.
use Rattle.std.proofs.Common.{ℕ, ◌≡◌, ◌≢◌, ◌+◌, ◌<◌, ◌≤◌, ◌⊎◌, inl, inr, suc, Bool, true, false, List, [], ◌∷◌, ◌++◌, length, get_or, set, refl, sym, ap, ◌∙◌, subst, arith, length-set, get_or-set_same, get_or-set_other}
use Rattle.std.proofs.lemmas.Bool.{cases_eq, cases_lt, both_ways, true≢false}
use Rattle.std.proofs.lemmas.List.{length_push, get_or_append_left, get_or_push}
use Rattle.std.proofs.lemmas.List.Elements.{Contains-append_left, Contains-push}
use Rattle.std.specs.List.{Contains}
use Rattle.sat_base.specs.values.Literals.{variable, negated}
use Rattle.sat_parts.specs.declared.prop.graph.Reason.{Reason}
use Rattle.sat_parts.specs.prop.Graphs.{has_no_clause}
use Rattle.sat_parts.specs.prop.State.{PropagationState, node, level, current_level, lit_at, StateIsConsistent}
use Rattle.sat_parts.proofs.lemmas.prop.StateLemmas.{negated_variable, level_low}
use Rattle.sat_parts.proofs.lemmas.prop.RoomLemmas.{places_apart}
use Rattle.sat_solver.specs.analyze_conflict.AnalysisState.{AnalysisState, with_seen_literals, unflagged, with_reason_used}
use Rattle.sat_solver.specs.analyze_conflict.Marks.{causes_at, CanAnalyze, open_below, IsLowerFlagged, AreFlagsOf, IsToBeResolved, IsExplained, covered_unit, covered_clause, covered_reason, covered_core, covered_open, AreExplained, IsReasoned, depth, AreUsed, ResolutionInvariant}
use Rattle.sat_solver.proofs.lemmas.analyze_conflict.InTurn.{above_first}
use Rattle.sat_solver.proofs.lemmas.analyze_conflict.Meeting.{level_by_variable, levels_rise, OpenPlace, open_same, open_last, open_some, open_kept, Met, met_all}

-- p is the last flagged position before `at`
pub record IsLastFlagged (s : PropagationState) (flags : List Bool) (p at : ℕ) : Type 0 where
  pub before : p < at
  pub flagged : get_or flags (variable (lit_at s p)) false ≡ true
  pub others : (q : ℕ) → p < q → q < at → get_or flags (variable (lit_at s q)) false ≡ false

-- if a flagged literal of level `top` or above is left, the last flagged literal is of such a level
pub last_high : (s : PropagationState) (top : ℕ) (flags : List Bool) (p at : ℕ) → StateIsConsistent s → at ≤ length s.trail.lits → IsLastFlagged s flags p at → OpenPlace s top flags at → top ≤ level s (lit_at s p)
last_high s top flags p at a le h x =
    let in_trail : p < length s.trail.lits = omega (arith, h.before) in
    let following : x.place ≤ p = elim (cases_lt p x.place) [
      | inl lt ↦ absurd (both_ways (get_or flags (variable (lit_at s x.place)) false) (h.others x.place lt x.before) x.flagged)
      | inr ge ↦ ge
    ] in
    omega (arith, levels_rise s x.place p a following in_trail, x.high)

-- no level is higher than the current one
pub at_current : (s : PropagationState) (p : ℕ) → StateIsConsistent s → p < length s.trail.lits → current_level s ≤ level s (lit_at s p) → level s (lit_at s p) ≡ current_level s
at_current s p a lt le = omega (arith, level_low s (lit_at s p) a (a.holds p lt))

unset_cases : (flags : List Bool) (v u : ℕ) → v < length flags → get_or (set flags v false) u false ≡ true → (u ≢ v) × (get_or flags u false ≡ true)
unset_cases flags v u lt e = elim (cases_eq u v) [
  | inl q ↦ absurd (true≢false (sym e ∙ ap (λ z. get_or (set flags v false) z false) q ∙ get_or-set_same flags v false false lt))
  | inr n ↦ (n, sym (get_or-set_other flags v u false false n) ∙ e)
]

-- the flags are as required once the last flagged literal was passed
pub marks_passed : (s : PropagationState) (top : ℕ) (w : AnalysisState) (p at : ℕ) → StateIsConsistent s → AreFlagsOf s top w at → IsLastFlagged s w.flags p at → top ≤ level s (lit_at s p) → variable (lit_at s p) < length w.flags →
    AreFlagsOf s top (unflagged (lit_at s p) w) p
marks_passed s top w p at a m h high b =
    let v : ℕ = variable (lit_at s p) in
    let in_trail : p < length s.trail.lits = omega (arith, h.before, m.within) in
    record {
      size = length-set w.flags v false ∙ m.size;
      within = omega arith;
      flagged = λ u e.
          let c : (u ≢ v) × (get_or w.flags u false ≡ true) = unset_cases w.flags v u b e in
          elim (m.flagged u c.1) [
            | inl x ↦ inl x
            | inr x ↦ inr (record {
              place = x.place;
              before = elim (cases_lt x.place p) [
                | inl lt ↦ lt
                | inr ge ↦ elim (cases_eq x.place p) [
                  | inl q ↦ absurd (c.0 (sym x.there ∙ ap (λ z. variable (lit_at s z)) q))
                  | inr n ↦ absurd (both_ways (get_or w.flags u false) (ap (λ z. get_or w.flags z false) (sym x.there) ∙ h.others x.place (omega arith) x.before) c.1)
                ]
              ];
              there = x.there;
              high = x.high;
            })
          ];
      lower = λ k l.
          let x : IsLowerFlagged s top w.flags (get_or w.clause k 0) = m.lower k l in
          let n : variable (get_or w.clause k 0) ≢ v = λ e. omega (arith, x.below, level_by_variable s (get_or w.clause k 0) (lit_at s p) e) in
          record { fails = x.fails; above = x.above; below = x.below; flagged = get_or-set_other w.flags v (variable (get_or w.clause k 0)) false false n ∙ x.flagged };
      distinct = m.distinct;
      counted =
          let all : open_below s top w.flags at ≡ open_below s top w.flags (suc p) = open_same s top w.flags (suc p) at (omega (arith, h.before)) (λ q x y. h.others q (omega arith) y) in
          let last : open_below s top w.flags (suc p) ≡ 1 + open_below s top w.flags p = open_last s top w.flags p h.flagged high in
          let rest : open_below s top (set w.flags v false) p ≡ open_below s top w.flags p = open_kept s top w.flags v false p (λ q lt. inl (λ same. omega (arith, places_apart s q p a (omega arith) in_trail same))) in
          omega (arith, m.counted);
    }

-- after a literal was passed, a literal that was to be resolved still is, unless it is the negation of the passed one
pub passed_waiting : (s : PropagationState) (top : ℕ) (w : AnalysisState) (p at r : ℕ) → StateIsConsistent s → at ≤ length s.trail.lits → IsLastFlagged s w.flags p at → IsToBeResolved s top w.flags at r →
    IsToBeResolved s top (set w.flags (variable (lit_at s p)) false) p r ⊎ (lit_at s p ≡ negated r)
passed_waiting s top w p at r a le h x =
    let v_is : variable (lit_at s x.before.place) ≡ variable r = ap (λ z. variable z) x.before.there ∙ negated_variable r in
    elim (cases_lt x.before.place p) [
      | inl lt ↦
          let n : variable r ≢ variable (lit_at s p) = λ e. omega (arith, places_apart s x.before.place p a x.before.within (omega (arith, h.before)) (v_is ∙ e)) in
          inl (record {
            flagged = get_or-set_other w.flags (variable (lit_at s p)) (variable r) false false n ∙ x.flagged;
            high = x.high;
            before = record { place = x.before.place; before = lt; within = x.before.within; there = x.before.there };
          })
      | inr ge ↦ elim (cases_eq x.before.place p) [
        | inl q ↦ inr (ap (λ z. lit_at s z) (sym q) ∙ x.before.there)
        | inr n ↦ absurd (both_ways (get_or w.flags (variable r) false) (ap (λ z. get_or w.flags z false) (sym v_is) ∙ h.others x.before.place (omega arith) x.before.before) x.flagged)
      ]
    ]

-- explained literals stay explained when a literal is used
pub taken_covered : (s : PropagationState) (top : ℕ) (w : AnalysisState) (n : Reason) (p at r : ℕ) → StateIsConsistent s → at ≤ length s.trail.lits → IsLastFlagged s w.flags p at → IsExplained s top w at r → IsExplained s top (with_reason_used n (lit_at s p) w) p r
taken_covered s top w n p at r a le h (covered_unit z) = covered_unit z
taken_covered s top w n p at r a le h (covered_clause c) = covered_clause c
taken_covered s top w n p at r a le h (covered_reason c) = covered_reason (Contains-append_left w.used (lit_at s p ∷ []) (negated r) c)
taken_covered s top w n p at r a le h (covered_core c) = covered_core c
taken_covered s top w n p at r a le h (covered_open x) = elim (passed_waiting s top w p at r a le h x) [
  | inl y ↦ covered_open y
  | inr e ↦ covered_reason (subst (λ z. Contains (w.used ++ lit_at s p ∷ []) z) e (Contains-push w.used (lit_at s p)))
]

-- a literal of the current level that is after another one isn't a decision
not_decided : (words : List ℕ) (s : PropagationState) (q p : ℕ) → CanAnalyze words s → q < p → p < length s.trail.lits → level s (lit_at s q) ≡ current_level s → has_no_clause (node s (lit_at s p)).reason ≡ false
not_decided words s q p can lt within top =
    let in_trail : q < length s.trail.lits = omega arith in
    let begun : (k : ℕ) → k < length s.trail.starts → get_or s.trail.starts k 0 ≤ q = λ k b. (can.agrees.levels q in_trail).begun k (omega arith) in
    can.levelled.caused p 0 can.above (omega (arith, begun 0 can.above)) within (λ k b e. omega (arith, begun k b))

-- resolution of one literal preserves the invariant of used literals
pub uses_next : (words : List ℕ) (s : PropagationState) (top : ℕ) (w w1 w2 : AnalysisState) (p at : ℕ) → CanAnalyze words s → AreUsed words s top w at → p < at → p < length s.trail.lits →
    w1.used ≡ w.used ++ lit_at s p ∷ [] → Met s top p (causes_at words s (lit_at s p)) w1 w2 →
    ((r : ℕ) → IsExplained s top w at r → IsExplained s top w1 p r) →
    0 < top → top ≤ level s (lit_at s p) → has_no_clause (node s (lit_at s p)).reason ≡ false → AreUsed words s top w2 p
uses_next words s top w w1 w2 p at can u before within used_is m forth some high caused =
    let l : ℕ = lit_at s p in
    let list : w2.used ≡ w.used ++ l ∷ [] = m.used ∙ used_is in
    let size : length w2.used ≡ length w.used + 1 = ap (λ (xs : List ℕ). length xs) list ∙ length_push w.used l in
    let old : (k : ℕ) → k < length w.used → get_or w2.used k 0 ≡ get_or w.used k 0 = λ k lt. ap (λ (xs : List ℕ). get_or xs k 0) list ∙ get_or_append_left w.used (l ∷ []) 0 k lt in
    let new : get_or w2.used (length w.used) 0 ≡ l = ap (λ (xs : List ℕ). get_or xs (length w.used) 0) list ∙ get_or_push w.used l 0 (length w.used) refl in
    record {
      reasons = λ k lt. elim (cases_eq k (length w.used)) [
        | inl e ↦
            let is : get_or w2.used k 0 ≡ l = ap (λ z. get_or w2.used z 0) e ∙ new in
            subst (λ z. IsReasoned s p z × (top ≤ level s z)) (sym is)
            (record { place = p; from = omega arith; within = within; there = refl; above = omega arith; caused = caused }, high)
        | inr d ↦
            let b : k < length w.used = omega arith in
            let x : IsReasoned s at (get_or w.used k 0) = (u.reasons k b).0 in
            subst (λ z. IsReasoned s p z × (top ≤ level s z)) (sym (old k b))
            (record { place = x.place; from = omega (arith, x.from); within = x.within; there = x.there; above = x.above; caused = x.caused }, (u.reasons k b).1)
      ];
      falling = λ j k a lt. elim (cases_eq k (length w.used)) [
        | inl e ↦
            let b : j < length w.used = omega arith in
            let x : IsReasoned s at (get_or w.used j 0) = (u.reasons j b).0 in
            omega (
              arith,
              x.from,
              can.agrees.depths x.place x.within,
              can.agrees.depths p within,
              ap (λ z. depth s z) x.there,
              ap (λ z. depth s z) (old j b),
              ap (λ z. depth s z) (ap (λ z. get_or w2.used z 0) e ∙ new),
            )
        | inr d ↦
            let b : k < length w.used = omega arith in
            omega (arith, u.falling j k a b, ap (λ z. depth s z) (old j (omega arith)), ap (λ z. depth s z) (old k b))
      ];
      causes = λ k lt. elim (cases_eq k (length w.used)) [
        | inl e ↦ subst (λ z. AreExplained s top w2 p (causes_at words s z)) (sym (ap (λ z. get_or w2.used z 0) e ∙ new)) m.covered
        | inr d ↦
            let b : k < length w.used = omega arith in
            subst (λ z. AreExplained s top w2 p (causes_at words s z)) (sym (old k b))
            (λ i c. m.kept (get_or (causes_at words s (get_or w.used k 0)) i 0) (forth (get_or (causes_at words s (get_or w.used k 0)) i 0) (u.causes k b i c)))
      ];
    }

-- what holds when the last flagged literal is used while another one of the current level is left
pub record Taken (words : List ℕ) (s : PropagationState) (w : AnalysisState) (p at : ℕ) : Type 0 where
  pub within : p < length s.trail.lits
  pub top : level s (lit_at s p) ≡ current_level s
  pub caused : has_no_clause (node s (lit_at s p)).reason ≡ false
  pub first : get_or s.trail.starts 0 0 ≤ p
  pub marks : AreFlagsOf s (current_level s) (with_reason_used (node s (lit_at s p)).reason (lit_at s p) w) p
  pub other : OpenPlace s (current_level s) (set w.flags (variable (lit_at s p)) false) p

pub taken : (words : List ℕ) (s : PropagationState) (w : AnalysisState) (p at : ℕ) → CanAnalyze words s → AreFlagsOf s (current_level s) w at → 1 < w.pending → IsLastFlagged s w.flags p at → variable (lit_at s p) < length w.flags → Taken words s w p at
taken words s w p at can m two h b =
    let t : ℕ = current_level s in
    let within : p < length s.trail.lits = omega (arith, h.before, m.within) in
    let high : current_level s ≤ level s (lit_at s p) = last_high s t w.flags p at can.agrees m.within h (open_some s t w.flags at (omega (arith, m.counted))) in
    let marks : AreFlagsOf s t (unflagged (lit_at s p) w) p = marks_passed s t w p at can.agrees m h high b in
    let other : OpenPlace s t (set w.flags (variable (lit_at s p)) false) p = open_some s t (set w.flags (variable (lit_at s p)) false) p (omega (arith, marks.counted)) in
    record {
      within = within;
      top = at_current s p can.agrees within high;
      caused = not_decided words s other.place p can other.before within (at_current s other.place can.agrees (omega (arith, other.before)) other.high);
      first = above_first s p (lit_at s p) can.agrees within refl (omega (arith, can.above)) can.above;
      marks = record { size = marks.size; within = marks.within; flagged = marks.flagged; lower = marks.lower; distinct = marks.distinct; counted = marks.counted };
      other = other;
    }

pub resolved : (words : List ℕ) (s : PropagationState) (start : List ℕ) (w : AnalysisState) (p at : ℕ) → CanAnalyze words s → ResolutionInvariant words s start w at → 1 < w.pending →
    IsLastFlagged s w.flags p at → variable (lit_at s p) < length w.flags →
    ResolutionInvariant words s start (with_seen_literals s.nodes (current_level s) (causes_at words s (lit_at s p)) (with_reason_used (node s (lit_at s p)).reason (lit_at s p) w)) p
resolved words s start w p at can r two h b =
    let l : ℕ = lit_at s p in
    let t : Taken words s w p at = taken words s w p at can r.marks two h b in
    let w1 : AnalysisState = with_reason_used (node s l).reason l w in
    let rs : List ℕ = causes_at words s l in
    let m : Met s (current_level s) p rs w1 (with_seen_literals s.nodes (current_level s) rs w1) =
    met_all s (current_level s) p rs w1 can.agrees (λ k lt. can.before p k t.first t.within lt) t.marks in
    let forth : (q : ℕ) → IsExplained s (current_level s) w at q → IsExplained s (current_level s) w1 p q = λ q c. taken_covered s (current_level s) w (node s l).reason p at q can.agrees r.marks.within h c in
    record {
      marks = m.marks;
      some = omega (arith, m.pending);
      none = m.core ∙ r.none;
      uses = uses_next words s (current_level s) w w1 (with_seen_literals s.nodes (current_level s) rs w1) p at can r.uses h.before t.within refl m forth can.above (omega (arith, t.top)) t.caused;
      start = λ k lt. m.kept (get_or start k 0) (forth (get_or start k 0) (r.start k lt));
    }
