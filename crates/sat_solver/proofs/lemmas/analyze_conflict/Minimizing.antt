-- The search whether a literal follows from the others of the clause marks literals.
use Rattle.std.proofs.Common.{ℕ, ◌≡◌, ◌≢◌, ◌+◌, ◌<◌, ◌≤◌, inl, inr, suc, zero, Bool, true, false, not, List, [], ◌∷◌, ◌++◌, length, take, get_or, set, cond, eqb, refl, sym, ap, ◌∙◌, subst, arith, length-set, get_or-set_same, get_or-set_other, get_or-take}
use Rattle.std.proofs.lemmas.Bool.{cases_eq, cases_lt, cases_Bool, and_parts, or_cases, or_parts, not-true, both_ways, eqb-true, eqb-false, cond-true, cond-false}
use Rattle.std.proofs.lemmas.List.{length_push, get_or_append_left, get_or_push, take_at, take-take, take_all}
use Rattle.std.proofs.lemmas.List.Elements.{Contains-append_left}
use Rattle.std.specs.List.{Contains}
use Rattle.sat_base.specs.values.Literals.{variable, negated}
use Rattle.sat_store.specs.levels.Levels.{level_passes}
use Rattle.sat_parts.specs.clause.Orders.{AreDistinct}
use Rattle.sat_parts.specs.prop.Graphs.{has_no_clause, node_of}
use Rattle.sat_parts.specs.prop.State.{PropagationState, node, level, current_level, lit_at, IsOnTrailBefore, StateIsConsistent}
use Rattle.sat_parts.specs.prop.Reasons.{IsFalseBefore}
use Rattle.sat_parts.proofs.lemmas.clause.ListLemmas.{place_in}
use Rattle.sat_parts.proofs.lemmas.prop.StateLemmas.{negated_variable}
use Rattle.sat_solver.specs.analyze_conflict.AnalysisState.{AnalysisState}
use Rattle.sat_solver.specs.analyze_conflict.Marks.{causes_at, CanAnalyze, IsReasoned}
use Rattle.sat_solver.specs.analyze_conflict.Minimization.{IsExplainedByMarks, marked_unit, marked_first, marked_flag, marked_reason, AreExplainedByMarks, IsUsedLit, use_top, use_low, MinimizationInvariant, AddsMarks, with_mark, with_used, CanStartSearch, MarkingResult, can_be_implied, is_settled, marked_reasons}
use Rattle.sat_solver.proofs.lemmas.analyze_conflict.InTurn.{above_first, causes_before}
use Rattle.sat_solver.proofs.lemmas.analyze_conflict.Meeting.{level_by_variable, levels_rise, stands_before, variable_below, flag_kept}

pub front_at : (w w' : AnalysisState) (k d : ℕ) → AddsMarks w w' → k < length w.used → get_or w'.used k d ≡ get_or w.used k d
front_at w w' k d m lt = sym (get_or-take (length w.used) w'.used k d lt) ∙ ap (λ (xs : List ℕ). get_or xs k d) m.front

pub used_forth : (w w' : AnalysisState) (l : ℕ) → AddsMarks w w' → Contains w.used l → Contains w'.used l
used_forth w w' l m c = (c.0, omega (arith, c.1, m.longer), front_at w w' c.0 l m c.1 ∙ c.2)

marked_forth : (s : PropagationState) (first r : ℕ) (w w' : AnalysisState) → AddsMarks w w' → IsExplainedByMarks s first w r → IsExplainedByMarks s first w' r
marked_forth s first r w w' m (marked_unit z) = marked_unit z
marked_forth s first r w w' m (marked_first e) = marked_first e
marked_forth s first r w w' m (marked_flag f) = marked_flag (m.kept (variable r) f)
marked_forth s first r w w' m (marked_reason c) = marked_reason (used_forth w w' (negated r) m c)

pub more_refl : (w : AnalysisState) → AddsMarks w w
more_refl w = record {
  clause = refl;
  seen = refl;
  antecedents = refl;
  core = refl;
  pending = refl;
  size = refl;
  longer = omega arith;
  front = take_all (length w.used) w.used (omega arith);
  kept = λ v e. e;
  fresh = λ k a b. absurd (omega arith);
  raised = λ v e. inl e;
}

pub more_trans : (a b c : AnalysisState) → AddsMarks a b → AddsMarks b c → AddsMarks a c
more_trans a b c x y = record {
  clause = y.clause ∙ x.clause;
  seen = y.seen ∙ x.seen;
  antecedents = y.antecedents ∙ x.antecedents;
  core = y.core ∙ x.core;
  pending = y.pending ∙ x.pending;
  size = y.size ∙ x.size;
  longer = omega (arith, x.longer, y.longer);
  front = sym (take-take (length a.used) (length b.used) c.used x.longer) ∙ ap (λ (xs : List ℕ). take (length a.used) xs) y.front ∙ x.front;
  kept = λ v e. y.kept v (x.kept v e);
  fresh = λ k p q. elim (cases_lt k (length b.used)) [
    | inl lt ↦ ap (λ z. get_or a.flags (variable z) false) (front_at b c k 0 y lt) ∙ x.fresh k p lt
    | inr ge ↦ before_was (get_or a.flags (variable (get_or c.used k 0)) false) (λ t. both_ways (get_or b.flags (variable (get_or c.used k 0)) false) (y.fresh k ge q) (x.kept (variable (get_or c.used k 0)) t))
  ];
  raised = λ v e. elim (y.raised v e) [
    | inl t ↦ elim (x.raised v t) [
      | inl u ↦ inl u
      | inr n ↦ inr (record { place = n.place; following = n.following; within = omega (arith, n.within, y.longer); there = ap (λ z. variable z) (front_at b c n.place 0 y n.within) ∙ n.there })
    ]
    | inr n ↦ inr (record { place = n.place; following = omega (arith, n.following, x.longer); within = n.within; there = n.there })
  ];
}
  where
    before_was : (b : Bool) → (b ≡ true → ⊥) → b ≡ false
    before_was true h = absurd (h refl)
    before_was false h = refl

pub more_one : (r : ℕ) (w : AnalysisState) → variable r < length w.flags → get_or w.flags (variable r) false ≡ false → AddsMarks w (with_mark r w)
more_one r w lt f =
    let n : length (w.used ++ negated r ∷ []) ≡ length w.used + 1 = length_push w.used (negated r) in
    let last : get_or (w.used ++ negated r ∷ []) (length w.used) 0 ≡ negated r = get_or_push w.used (negated r) 0 (length w.used) refl in
    record {
      clause = refl;
      seen = refl;
      antecedents = refl;
      core = refl;
      pending = refl;
      size = length-set w.flags (variable r) true;
      longer = omega arith;
      front = take_at w.used (negated r ∷ []) (length w.used) refl;
      kept = λ v e. flag_kept w.flags (variable r) v lt e;
      fresh = λ k a b.
          let e : k ≡ length w.used = omega arith in
          ap (λ z. get_or w.flags (variable z) false) (ap (λ z. get_or (w.used ++ negated r ∷ []) z 0) e ∙ last) ∙ ap (λ v. get_or w.flags v false) (negated_variable r) ∙ f;
      raised = λ v e. elim (cases_eq v (variable r)) [
        | inl q ↦ inr (record { place = length w.used; following = omega arith; within = omega arith; there = ap (λ z. variable z) last ∙ negated_variable r ∙ sym q })
        | inr d ↦ inl (sym (get_or-set_other w.flags (variable r) v true false d) ∙ e)
      ];
    }

-- what marking a literal requires
record CanMark (s : PropagationState) (r : ℕ) : Type 0 where
  reasoned : IsReasoned s 0 (negated r)
  below : level s (negated r) < current_level s
  inside : variable r < length s.values

not_used : (words : List ℕ) (s : PropagationState) (conflict : List ℕ) (first low : ℕ) (w : AnalysisState) (at r : ℕ) → MinimizationInvariant words s conflict first low w at → get_or w.flags (variable r) false ≡ false →
    level s (negated r) < current_level s → (k : ℕ) → k < length w.used → get_or w.used k 0 ≡ negated r → ⊥
not_used words s conflict first low w at r h f below k lt e =
    no_use s low w.flags k (get_or w.used k 0) r (h.uses k lt) e f below
  where
    no_use : (s : PropagationState) (low : ℕ) (flags : List Bool) (k l r : ℕ) → IsUsedLit s low flags k l → l ≡ negated r → get_or flags (variable r) false ≡ false → level s (negated r) < current_level s → ⊥
    no_use s low flags k l r (use_top b t) e f below = omega (arith, ap (λ z. level s z) e)
    no_use s low flags k l r (use_low b t g) e f below = both_ways (get_or flags (variable r) false) f (ap (λ v. get_or flags v false) (sym (ap (λ z. variable z) e ∙ negated_variable r)) ∙ g)

use_kept : (s : PropagationState) (low : ℕ) (w : AnalysisState) (r k l : ℕ) → variable r < length w.flags → IsUsedLit s low w.flags k l → IsUsedLit s low (set w.flags (variable r) true) k l
use_kept s low w r k l lt (use_top b t) = use_top b t
use_kept s low w r k l lt (use_low b t g) = use_low b t (flag_kept w.flags (variable r) (variable l) lt g)

pub distinct_push : (xs : List ℕ) (x : ℕ) → AreDistinct xs → ((k : ℕ) → k < length xs → get_or xs k 0 ≡ x → ⊥) → AreDistinct (xs ++ x ∷ [])
distinct_push xs x d other j k p q e =
    let n : length (xs ++ x ∷ []) ≡ length xs + 1 = length_push xs x in
    elim (cases_eq j (length xs)) [
      | inl a ↦ elim (cases_eq k (length xs)) [
        | inl b ↦ omega arith
        | inr b ↦
            let c : k < length xs = omega arith in
            absurd (other k c (sym (get_or_append_left xs (x ∷ []) 0 k c) ∙ sym e ∙ get_or_push xs x 0 j (sym a)))
      ]
      | inr a ↦
          let c : j < length xs = omega arith in
          elim (cases_eq k (length xs)) [
            | inl b ↦ absurd (other j c (sym (get_or_append_left xs (x ∷ []) 0 j c) ∙ e ∙ get_or_push xs x 0 k (sym b)))
            | inr b ↦
                let f : k < length xs = omega arith in
                d j k c f (sym (get_or_append_left xs (x ∷ []) 0 j c) ∙ e ∙ get_or_append_left xs (x ∷ []) 0 k f)
          ]
    ]

searching_mark : (words : List ℕ) (s : PropagationState) (conflict : List ℕ) (first low : ℕ) (w : AnalysisState) (at r : ℕ) → MinimizationInvariant words s conflict first low w at → get_or w.flags (variable r) false ≡ false → CanMark s r →
    MinimizationInvariant words s conflict first low (with_mark r w) at
searching_mark words s conflict first low w at r h f c =
    let lt : variable r < length w.flags = omega (arith, c.inside, h.size) in
    let m : AddsMarks w (with_mark r w) = more_one r w lt f in
    let n : length (w.used ++ negated r ∷ []) ≡ length w.used + 1 = length_push w.used (negated r) in
    let last : (k : ℕ) → k ≡ length w.used → get_or (w.used ++ negated r ∷ []) k 0 ≡ negated r = λ k e. get_or_push w.used (negated r) 0 k (sym e) in
    record {
      size = length-set w.flags (variable r) true ∙ h.size;
      within = omega (arith, h.within);
      following = h.following;
      reasons = λ k b. elim (cases_eq k (length w.used)) [
        | inl e ↦ subst (λ z. IsReasoned s 0 z) (sym (last k e)) c.reasoned
        | inr d ↦
            let q : k < length w.used = omega arith in
            subst (λ z. IsReasoned s 0 z) (sym (get_or_append_left w.used (negated r ∷ []) 0 k q)) (h.reasons k q)
      ];
      uses = λ k b. elim (cases_eq k (length w.used)) [
        | inl e ↦ subst (λ z. IsUsedLit s low (set w.flags (variable r) true) k z) (sym (last k e))
            (use_low (omega (arith, h.following, h.within)) c.below (ap (λ v. get_or (set w.flags (variable r) true) v false) (negated_variable r) ∙ get_or-set_same w.flags (variable r) true false lt))
        | inr d ↦
            let q : k < length w.used = omega arith in
            subst (λ z. IsUsedLit s low (set w.flags (variable r) true) k z) (sym (get_or_append_left w.used (negated r ∷ []) 0 k q)) (use_kept s low w r k (get_or w.used k 0) lt (h.uses k q))
      ];
      distinct = distinct_push w.used (negated r) h.distinct (not_used words s conflict first low w at r h f c.below);
      causes = λ k b.
          let q : k < length w.used = omega (arith, h.within) in
          subst (λ z. AreExplainedByMarks s first (with_mark r w) (causes_at words s z)) (sym (get_or_append_left w.used (negated r ∷ []) 0 k q))
          (λ i x. marked_forth s first (get_or (causes_at words s (get_or w.used k 0)) i 0) w (with_mark r w) m (h.causes k b i x));
      start = λ i x. marked_forth s first (get_or conflict i 0) w (with_mark r w) m (h.start i x);
    }

-- the result of following the literals of a reason
pub record Follows (words : List ℕ) (s : PropagationState) (conflict : List ℕ) (first low at : ℕ) (w : AnalysisState) (rs : List ℕ) (f : MarkingResult) : Type 0 where
  pub searching : MinimizationInvariant words s conflict first low f.work at
  pub more : AddsMarks w f.work
  pub whole : f.whole ≡ true → AreExplainedByMarks s first f.work rs

marked_cons : (s : PropagationState) (first : ℕ) (w : AnalysisState) (r : ℕ) (rs : List ℕ) → IsExplainedByMarks s first w r → AreExplainedByMarks s first w rs → AreExplainedByMarks s first w (r ∷ rs)
marked_cons s first w r rs h t zero lt = h
marked_cons s first w r rs h t (suc k) lt = t k (omega arith)

settled_marked : (s : PropagationState) (first r : ℕ) (w : AnalysisState) → is_settled s.nodes r w ≡ true → IsExplainedByMarks s first w r
settled_marked s first r w e = elim (or_cases (eqb (level s r) 0) (get_or w.flags (variable r) false) e) [
  | inl z ↦ marked_unit (eqb-true (level s r) 0 z)
  | inr f ↦ marked_flag f
]

-- a cause of a literal below the current level may be marked, unless it is of level 0 or cannot follow
can_mark : (s : PropagationState) (filter p r : ℕ) → StateIsConsistent s → p < length s.trail.lits → level s (lit_at s p) < current_level s → IsFalseBefore s p r → level s r ≢ 0 → can_be_implied s.nodes filter r ≡ true → CanMark s r
can_mark s filter p r a within low h above e =
    let b : IsOnTrailBefore s p (negated r) = stands_before s p r h (omega arith) in
    let same : level s (negated r) ≡ level s r = level_by_variable s (negated r) r (negated_variable r) in
    let parts = and_parts (not (has_no_clause (node s r).reason)) (level_passes filter (level s r)) e in
    let caused : has_no_clause (node s r).reason ≡ false = not-true (has_no_clause (node s r).reason) parts.0 in
    record {
      reasoned = record {
        place = b.place;
        from = omega arith;
        within = b.within;
        there = b.there;
        above = omega arith;
        caused = ap (λ v. has_no_clause (node_of s.nodes v).reason) (negated_variable r) ∙ caused;
      };
      below = omega (arith, levels_rise s b.place p a (omega (arith, b.before)) within, ap (λ z. level s z) b.there);
      inside = variable_below s p r a h;
    }

pub follows : (words : List ℕ) (s : PropagationState) (conflict : List ℕ) (first low at filter p : ℕ) (rs : List ℕ) (w : AnalysisState) → StateIsConsistent s → p < length s.trail.lits → level s (lit_at s p) < current_level s →
    ((k : ℕ) → k < length rs → IsFalseBefore s p (get_or rs k 0)) → MinimizationInvariant words s conflict first low w at → Follows words s conflict first low at w rs (marked_reasons s.nodes filter rs w)
follows words s conflict first low at filter p [] w a within below h x = record { searching = x; more = more_refl w; whole = λ e k lt. absurd (omega arith) }
follows words s conflict first low at filter p (r ∷ rs) w a within below h x =
    let rest : (k : ℕ) → k < length rs → IsFalseBefore s p (get_or rs k 0) = λ k lt. h (suc k) (omega arith) in
    let here : IsFalseBefore s p r = h 0 (omega arith) in
    let stop : MarkingResult = record { work = w; whole = false } in
    let on : MarkingResult = marked_reasons s.nodes filter rs (with_mark r w) in
    let skip : MarkingResult = marked_reasons s.nodes filter rs w in
    let inner : MarkingResult = cond (can_be_implied s.nodes filter r) on stop in
    elim (cases_Bool (is_settled s.nodes r w)) [
      | inl t ↦
          let y : Follows words s conflict first low at w rs skip = follows words s conflict first low at filter p rs w a within below rest x in
          subst (λ f. Follows words s conflict first low at w (r ∷ rs) f) (sym (cond-true (is_settled s.nodes r w) skip inner t)) (record {
            searching = y.searching;
            more = y.more;
            whole = λ e. marked_cons s first skip.work r rs (marked_forth s first r w skip.work y.more (settled_marked s first r w t)) (y.whole e);
          })
      | inr u ↦
          let parts = or_parts (eqb (level s r) 0) (get_or w.flags (variable r) false) u in
          elim (cases_Bool (can_be_implied s.nodes filter r)) [
            | inl t ↦
                let c : CanMark s r = can_mark s filter p r a within below here (eqb-false (level s r) 0 parts.0) t in
                let one : AddsMarks w (with_mark r w) = more_one r w (omega (arith, c.inside, x.size)) parts.1 in
                let y : Follows words s conflict first low at (with_mark r w) rs on =
                follows words s conflict first low at filter p rs (with_mark r w) a within below rest (searching_mark words s conflict first low w at r x parts.1 c) in
                let flag : get_or (with_mark r w).flags (variable r) false ≡ true = get_or-set_same w.flags (variable r) true false (omega (arith, c.inside, x.size)) in
                subst (λ f. Follows words s conflict first low at w (r ∷ rs) f) (sym (cond-false (is_settled s.nodes r w) skip inner u ∙ cond-true (can_be_implied s.nodes filter r) on stop t)) (record {
                  searching = y.searching;
                  more = more_trans w (with_mark r w) on.work one y.more;
                  whole = λ e. marked_cons s first on.work r rs (marked_forth s first r (with_mark r w) on.work y.more (marked_flag flag)) (y.whole e);
                })
            | inr n ↦
                subst (λ f. Follows words s conflict first low at w (r ∷ rs) f) (sym (cond-false (is_settled s.nodes r w) skip inner u ∙ cond-false (can_be_implied s.nodes filter r) on stop n)) (record {
                  searching = x;
                  more = more_refl w;
                  whole = λ (e : false ≡ true). (cc);
                })
          ]
    ]

-- the causes of the next used literal are explained
pub searching_next : (words : List ℕ) (s : PropagationState) (conflict : List ℕ) (first low : ℕ) (w : AnalysisState) (at : ℕ) → MinimizationInvariant words s conflict first low w at → at < length w.used →
    AreExplainedByMarks s first w (causes_at words s (get_or w.used at 0)) → MinimizationInvariant words s conflict first low w (at + 1)
searching_next words s conflict first low w at h lt m = record {
  size = h.size;
  within = omega arith;
  following = omega (arith, h.following);
  reasons = h.reasons;
  uses = h.uses;
  distinct = h.distinct;
  causes = λ k b. elim (cases_eq k at) [
    | inl e ↦ subst (λ z. AreExplainedByMarks s first w (causes_at words s (get_or w.used z 0))) (sym e) m
    | inr d ↦ h.causes k (omega arith)
  ];
  start = h.start;
}

-- one step of the search: the causes of a used literal are followed
pub search_step : (words : List ℕ) (s : PropagationState) (conflict : List ℕ) (first low at filter : ℕ) (w : AnalysisState) → CanAnalyze words s → MinimizationInvariant words s conflict first low w at → at < length w.used →
    Follows words s conflict first low at w (causes_at words s (get_or w.used at 0)) (marked_reasons s.nodes filter (causes_at words s (get_or w.used at 0)) w)
search_step words s conflict first low at filter w can h lt =
    let l : ℕ = get_or w.used at 0 in
    let x : IsReasoned s 0 l = h.reasons at lt in
    let first_place : get_or s.trail.starts 0 0 ≤ x.place = above_first s x.place l can.agrees x.within x.there x.above can.above in
    let below : level s (lit_at s x.place) < current_level s = subst (λ z. level s z < current_level s) (sym x.there) (low_use s low w.flags at l (h.uses at lt) h.following) in
    follows words s conflict first low at filter x.place (causes_at words s l) w can.agrees x.within below
    (λ k b. causes_before words s x.place l k can x.within x.there first_place b) h
  where
    low_use : (s : PropagationState) (low : ℕ) (flags : List Bool) (k l : ℕ) → IsUsedLit s low flags k l → low ≤ k → level s l < current_level s
    low_use s low flags k l (use_top b t) le = absurd (omega arith)
    low_use s low flags k l (use_low b t g) le = t

-- the invariant holds when a search begins
pub searching_start : (words : List ℕ) (s : PropagationState) (conflict : List ℕ) (first low : ℕ) (w : AnalysisState) (c : ℕ) → MinimizationInvariant words s conflict first low w (length w.used) → CanStartSearch s w c →
    MinimizationInvariant words s conflict first low (with_used (negated c) w) (length w.used)
searching_start words s conflict first low w c h m =
    let n : length (w.used ++ negated c ∷ []) ≡ length w.used + 1 = length_push w.used (negated c) in
    let last : (k : ℕ) → k ≡ length w.used → get_or (w.used ++ negated c ∷ []) k 0 ≡ negated c = λ k e. get_or_push w.used (negated c) 0 k (sym e) in
    let forth : (r : ℕ) → IsExplainedByMarks s first w r → IsExplainedByMarks s first (with_used (negated c) w) r = λ r x. push_marked s first w (negated c) r x in
    record {
      size = h.size;
      within = omega arith;
      following = h.following;
      reasons = λ k b. elim (cases_eq k (length w.used)) [
        | inl e ↦ subst (λ z. IsReasoned s 0 z) (sym (last k e)) m.reasoned
        | inr d ↦
            let q : k < length w.used = omega arith in
            subst (λ z. IsReasoned s 0 z) (sym (get_or_append_left w.used (negated c ∷ []) 0 k q)) (h.reasons k q)
      ];
      uses = λ k b. elim (cases_eq k (length w.used)) [
        | inl e ↦ subst (λ z. IsUsedLit s low w.flags k z) (sym (last k e)) (use_low (omega (arith, h.following)) m.below (ap (λ v. get_or w.flags v false) (negated_variable c) ∙ m.flagged))
        | inr d ↦
            let q : k < length w.used = omega arith in
            subst (λ z. IsUsedLit s low w.flags k z) (sym (get_or_append_left w.used (negated c ∷ []) 0 k q)) (h.uses k q)
      ];
      distinct = distinct_push w.used (negated c) h.distinct (λ k lt e. m.new (subst (λ z. Contains w.used z) e (place_in w.used k lt)));
      causes = λ k b. subst (λ z. AreExplainedByMarks s first (with_used (negated c) w) (causes_at words s z)) (sym (get_or_append_left w.used (negated c ∷ []) 0 k b))
          (λ i x. forth (get_or (causes_at words s (get_or w.used k 0)) i 0) (h.causes k b i x));
      start = λ i x. forth (get_or conflict i 0) (h.start i x);
    }
  where
    push_marked : (s : PropagationState) (first : ℕ) (w : AnalysisState) (l r : ℕ) → IsExplainedByMarks s first w r → IsExplainedByMarks s first (with_used l w) r
    push_marked s first w l r (marked_unit z) = marked_unit z
    push_marked s first w l r (marked_first e) = marked_first e
    push_marked s first w l r (marked_flag f) = marked_flag f
    push_marked s first w l r (marked_reason x) = marked_reason (Contains-append_left w.used (l ∷ []) (negated r) x)
