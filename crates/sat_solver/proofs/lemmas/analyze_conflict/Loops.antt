-- The loop of minimization keeps or drops one literal after another.
use Rattle.std.proofs.Common.{ℕ, ◌≡◌, ◌≢◌, ◌+◌, ◌<◌, ◌≤◌, inl, inr, Bool, false, List, [], ◌∷◌, ◌++◌, length, take, drop, get_or, set, refl, sym, ap, ◌∙◌, subst, arith, length-set, get_or-set_other, append_assoc, get_or-take}
use Rattle.std.proofs.lemmas.List.{append-nil, length-append, length-take-le, get_or_append_left, get_or_at, drop_more, drop_all, take_more_set, drop-set-lt, length_push, take_at, take-take, take_all}
use Rattle.std.specs.List.{Contains}
use Rattle.sat_base.specs.values.Literals.{negated}
use Rattle.sat_parts.specs.prop.Values.{IsFalseLit}
use Rattle.sat_parts.specs.prop.State.{PropagationState, level, current_level}
use Rattle.sat_parts.proofs.lemmas.clause.ListLemmas.{place_in}
use Rattle.sat_solver.specs.analyze_conflict.AnalysisState.{AnalysisState, analysis_state}
use Rattle.sat_solver.specs.analyze_conflict.Marks.{causes_at, IsLowerFlagged, HasVariable}
use Rattle.sat_solver.specs.analyze_conflict.Derivation.{IsAsserting, FlagsAmong}
use Rattle.sat_solver.specs.analyze_conflict.Seen.{AppendsUsedLits}
use Rattle.sat_solver.specs.analyze_conflict.Minimization.{IsUsedLit, use_top, use_low, IsExplainedByMarks, marked_unit, marked_first, marked_flag, marked_reason, MinimizationInvariant, AddsMarks, with_used, SameAnalysis, ClauseMinimizationInvariant}
use Rattle.sat_solver.proofs.lemmas.analyze_conflict.Dropping.{dropped}

-- works with the same fields are equal
pub same_work : (w w' : AnalysisState) → SameAnalysis w w' → w' ≡ w
same_work w w' s =
    ap (λ (xs : List ℕ). analysis_state xs w'.used w'.seen w'.antecedents w'.core w'.flags w'.pending) s.clause
    ∙ ap (λ (xs : List ℕ). analysis_state w.clause xs w'.seen w'.antecedents w'.core w'.flags w'.pending) s.used
    ∙ ap (λ (xs : List ℕ). analysis_state w.clause w.used xs w'.antecedents w'.core w'.flags w'.pending) s.seen
    ∙ ap (λ (xs : List ℕ). analysis_state w.clause w.used w.seen xs w'.core w'.flags w'.pending) s.antecedents
    ∙ ap (λ (xs : List ℕ). analysis_state w.clause w.used w.seen w.antecedents xs w'.flags w'.pending) s.core
    ∙ ap (λ (xs : List Bool). analysis_state w.clause w.used w.seen w.antecedents w.core xs w'.pending) s.flags
    ∙ ap (λ (n : ℕ). analysis_state w.clause w.used w.seen w.antecedents w.core w.flags n) s.pending

pub same_itself : (w : AnalysisState) → SameAnalysis w w
same_itself w = record { clause = refl; seen = refl; antecedents = refl; core = refl; pending = refl; used = refl; flags = refl }

-- how a literal is explained does not depend on the clause of the work
marked_over : (s : PropagationState) (first r : ℕ) (xs : List ℕ) (w : AnalysisState) → IsExplainedByMarks s first w r → IsExplainedByMarks s first (record w { clause = xs }) r
marked_over s first r xs w (marked_unit z) = marked_unit z
marked_over s first r xs w (marked_first e) = marked_first e
marked_over s first r xs w (marked_flag f) = marked_flag f
marked_over s first r xs w (marked_reason c) = marked_reason c

minimal_over : (words : List ℕ) (s : PropagationState) (conflict : List ℕ) (first low : ℕ) (rest xs : List ℕ) (w : AnalysisState) → ClauseMinimizationInvariant words s conflict first low rest w → ClauseMinimizationInvariant words s conflict first low rest (record w { clause = xs })
minimal_over words s conflict first low rest xs w h = record {
  searching = record {
    size = h.searching.size;
    within = h.searching.within;
    following = h.searching.following;
    reasons = h.searching.reasons;
    uses = h.searching.uses;
    distinct = h.searching.distinct;
    causes = λ k lt i b. marked_over s first (get_or (causes_at words s (get_or w.used k 0)) i 0) xs w (h.searching.causes k lt i b);
    start = λ i b. marked_over s first (get_or conflict i 0) xs w (h.searching.start i b);
  };
  distinct = h.distinct;
  has_first = h.has_first;
  top = h.top;
  lower = h.lower;
  only = h.only;
  apart = h.apart;
}

-- the loop before it visits position `at`: the first `kept` literals were kept, and those from `at` on are still to be
-- visited
pub record HasAccepted (words : List ℕ) (s : PropagationState) (conflict : List ℕ) (first low kept at : ℕ) (clause : List ℕ) (w : AnalysisState) : Type 0 where
  pub minimal : ClauseMinimizationInvariant words s conflict first low (take kept clause ++ drop at clause) w
  pub some : 1 ≤ kept
  pub following : kept ≤ at
  pub within : at < length clause
  pub head : get_or clause 0 0 ≡ first

pub split_rest : (kept at : ℕ) (clause : List ℕ) → at < length clause → take kept clause ++ drop at clause ≡ take kept clause ++ get_or clause at 0 ∷ drop (at + 1) clause
split_rest kept at clause lt = ap (λ (ys : List ℕ). take kept clause ++ ys) (drop_more clause at 0 lt)

pub split : (words : List ℕ) (s : PropagationState) (conflict : List ℕ) (first low kept at : ℕ) (clause : List ℕ) (w : AnalysisState) → HasAccepted words s conflict first low kept at clause w →
    ClauseMinimizationInvariant words s conflict first low (take kept clause ++ get_or clause at 0 ∷ drop (at + 1) clause) w
split words s conflict first low kept at clause w h = subst (λ (xs : List ℕ). ClauseMinimizationInvariant words s conflict first low xs w) (split_rest kept at clause h.within) h.minimal

pub in_rest : (kept at : ℕ) (clause : List ℕ) → kept ≤ at → at < length clause → Contains (take kept clause ++ get_or clause at 0 ∷ drop (at + 1) clause) (get_or clause at 0)
in_rest kept at clause le lt =
    let c : ℕ = get_or clause at 0 in
    let n : length (take kept clause) ≡ kept = length-take-le kept clause (omega arith) in
    let m : length (take kept clause ++ c ∷ drop (at + 1) clause) ≡ length (take kept clause) + length (c ∷ drop (at + 1) clause) = length-append (take kept clause) (c ∷ drop (at + 1) clause) in
    (kept, omega arith, get_or_at (take kept clause) c (drop (at + 1) clause) c kept n)

-- the literal at position `at` isn't the first one of the clause
pub not_first : (words : List ℕ) (s : PropagationState) (conflict : List ℕ) (first low kept at : ℕ) (clause : List ℕ) (w : AnalysisState) → HasAccepted words s conflict first low kept at clause w → get_or clause at 0 ≢ first
not_first words s conflict first low kept at clause w h e =
    let c : ℕ = get_or clause at 0 in
    let rest : List ℕ = take kept clause ++ c ∷ drop (at + 1) clause in
    let n : length (take kept clause) ≡ kept = length-take-le kept clause (omega (arith, h.following, h.within)) in
    let m : length rest ≡ length (take kept clause) + length (c ∷ drop (at + 1) clause) = length-append (take kept clause) (c ∷ drop (at + 1) clause) in
    let a : get_or rest 0 0 ≡ first = get_or_append_left (take kept clause) (c ∷ drop (at + 1) clause) 0 0 (omega (arith, h.some)) ∙ get_or-take kept clause 0 0 (omega (arith, h.some)) ∙ h.head in
    let b : get_or rest kept 0 ≡ c = get_or_at (take kept clause) c (drop (at + 1) clause) 0 kept n in
    let same : 0 ≡ kept = (split words s conflict first low kept at clause w h).distinct 0 kept (omega arith) (omega arith) (a ∙ sym e ∙ sym b) in
    omega (arith, h.some)

pub lower_here : (words : List ℕ) (s : PropagationState) (conflict : List ℕ) (first low kept at : ℕ) (clause : List ℕ) (w : AnalysisState) → HasAccepted words s conflict first low kept at clause w → IsLowerFlagged s (current_level s) w.flags (get_or clause at 0)
lower_here words s conflict first low kept at clause w h =
    elim ((split words s conflict first low kept at clause w h).lower (get_or clause at 0) (in_rest kept at clause h.following h.within)) [
      | inl e ↦ absurd (not_first words s conflict first low kept at clause w h e)
      | inr x ↦ x
    ]

-- `AppendsUsedLits` is reflexive and transitive
pub front_refl : (w : AnalysisState) → AppendsUsedLits w w
front_refl w = record { seen = refl; antecedents = refl; longer = omega arith; front = take_all (length w.used) w.used (omega arith) }

front_trans : (a b c : AnalysisState) → AppendsUsedLits a b → AppendsUsedLits b c → AppendsUsedLits a c
front_trans a b c x y = record {
  seen = y.seen ∙ x.seen;
  antecedents = y.antecedents ∙ x.antecedents;
  longer = omega (arith, x.longer, y.longer);
  front = sym (take-take (length a.used) (length b.used) c.used x.longer) ∙ ap (λ (xs : List ℕ). take (length a.used) xs) y.front ∙ x.front;
}

front_more : (l : ℕ) (w w' : AnalysisState) → AddsMarks (with_used l w) w' → AppendsUsedLits w w'
front_more l w w' m =
    let n : length (w.used ++ l ∷ []) ≡ length w.used + 1 = length_push w.used l in
    record {
      seen = m.seen;
      antecedents = m.antecedents;
      longer = omega (arith, m.longer);
      front = sym (take-take (length w.used) (length (w.used ++ l ∷ [])) w'.used (omega arith)) ∙ ap (λ (xs : List ℕ). take (length w.used) xs) m.front ∙ take_at w.used (l ∷ []) (length w.used) refl;
    }

-- the invariant of the loop
pub record Goes (words : List ℕ) (s : PropagationState) (conflict : List ℕ) (first low kept at : ℕ) (size : ℕ) (old w : AnalysisState) : Type 0 where
  pub front : AppendsUsedLits old w
  pub minimal : ClauseMinimizationInvariant words s conflict first low (take kept w.clause ++ drop at w.clause) w
  pub some : 1 ≤ kept
  pub following : kept ≤ at
  pub length_is : length w.clause ≡ size
  pub head : get_or w.clause 0 0 ≡ first

kept_list : (kept at c : ℕ) (clause : List ℕ) → kept ≤ at → at < length clause → take (kept + 1) (set clause kept c) ++ drop (at + 1) (set clause kept c) ≡ take kept clause ++ c ∷ drop (at + 1) clause
kept_list kept at c clause le lt =
    ap (λ (xs : List ℕ). xs ++ drop (at + 1) (set clause kept c)) (take_more_set clause kept c (omega arith))
    ∙ ap (λ (ys : List ℕ). (take kept clause ++ c ∷ []) ++ ys) (drop-set-lt (at + 1) clause kept c (omega arith))
    ∙ append_assoc (take kept clause) (c ∷ []) (drop (at + 1) clause)

pub goes_kept : (words : List ℕ) (s : PropagationState) (conflict : List ℕ) (first low kept at : ℕ) (old w w1 w2 : AnalysisState) → AppendsUsedLits old w → HasAccepted words s conflict first low kept at w.clause w → SameAnalysis w w1 →
    w2 ≡ record w1 { clause = set w1.clause kept (get_or w.clause at 0) } → Goes words s conflict first low (kept + 1) (at + 1) (length w.clause) old w2
goes_kept words s conflict first low kept at old w w1 w2 f h same e =
    let c : ℕ = get_or w.clause at 0 in
    let new : AnalysisState = record w { clause = set w.clause kept c } in
    let is : w2 ≡ new = e ∙ ap (λ (x : AnalysisState). record x { clause = set x.clause kept c }) (same_work w w1 same) in
    let other : 0 ≢ kept = λ q. omega (arith, h.some, q) in
    subst (λ (x : AnalysisState). Goes words s conflict first low (kept + 1) (at + 1) (length w.clause) old x) (sym is) (record {
      front = record { seen = f.seen; antecedents = f.antecedents; longer = f.longer; front = f.front };
      minimal = subst (λ (xs : List ℕ). ClauseMinimizationInvariant words s conflict first low xs new) (sym (kept_list kept at c w.clause h.following h.within))
          (minimal_over words s conflict first low (take kept w.clause ++ c ∷ drop (at + 1) w.clause) (set w.clause kept c) w (split words s conflict first low kept at w.clause w h));
      some = omega arith;
      following = omega (arith, h.following);
      length_is = length-set w.clause kept c;
      head = get_or-set_other w.clause kept 0 c 0 other ∙ h.head;
    })

pub goes_dropped : (words : List ℕ) (s : PropagationState) (conflict : List ℕ) (first low kept at : ℕ) (old w w' : AnalysisState) → AppendsUsedLits old w → HasAccepted words s conflict first low kept at w.clause w →
    AddsMarks (with_used (negated (get_or w.clause at 0)) w) w' → MinimizationInvariant words s conflict first low w' (length w'.used) → Goes words s conflict first low kept (at + 1) (length w.clause) old w'
goes_dropped words s conflict first low kept at old w w' f h m x =
    let c : ℕ = get_or w.clause at 0 in
    record {
      front = front_trans old w w' f (front_more (negated c) w w' m);
      minimal = subst (λ (xs : List ℕ). ClauseMinimizationInvariant words s conflict first low (take kept xs ++ drop (at + 1) xs) w') (sym m.clause)
          (dropped words s conflict first low c (take kept w.clause) (drop (at + 1) w.clause) w w' (split words s conflict first low kept at w.clause w h) (not_first words s conflict first low kept at w.clause w h) m x);
      some = h.some;
      following = omega (arith, h.following);
      length_is = ap (λ (xs : List ℕ). length xs) m.clause;
      head = ap (λ (xs : List ℕ). get_or xs 0 0) m.clause ∙ h.head;
    }

-- the minimized clause is asserting
pub minimal_asserting : (words : List ℕ) (s : PropagationState) (conflict : List ℕ) (first low : ℕ) (rest : List ℕ) (w : AnalysisState) → ClauseMinimizationInvariant words s conflict first low rest w → IsFalseLit s.values first → 0 < length rest → get_or rest 0 0 ≡ first → IsAsserting s rest
minimal_asserting words s conflict first low rest w h ff some e = record {
  some = some;
  fails = λ k lt. elim (h.lower (get_or rest k 0) (place_in rest k lt)) [
    | inl q ↦ subst (λ z. IsFalseLit s.values z) (sym q) ff
    | inr x ↦ x.fails
  ];
  top = ap (λ z. level s z) e ∙ h.top;
  lower = λ k pos lt. elim (h.lower (get_or rest k 0) (place_in rest k lt)) [
    | inl q ↦ absurd (omega (arith, h.distinct k 0 lt some (q ∙ sym e)))
    | inr x ↦ (x.above, x.below)
  ];
  distinct = h.distinct;
}

pub minimal_among : (words : List ℕ) (s : PropagationState) (conflict : List ℕ) (first low : ℕ) (rest : List ℕ) (w w' : AnalysisState) → ClauseMinimizationInvariant words s conflict first low rest w → w'.clause ≡ rest → w'.used ≡ w.used → w'.flags ≡ w.flags → FlagsAmong w'
minimal_among words s conflict first low rest w w' h c u f v e = elim (h.only v (ap (λ (fs : List Bool). get_or fs v false) (sym f) ∙ e)) [
  | inl x ↦ inl (subst (λ (xs : List ℕ). HasVariable xs v) (sym c) x)
  | inr x ↦ inr (subst (λ (xs : List ℕ). HasVariable xs v) (sym u) (x.place, (x.within, x.there)))
]

pub minimal_cut : (words : List ℕ) (s : PropagationState) (conflict : List ℕ) (first low kept at : ℕ) (clause : List ℕ) (w : AnalysisState) → length clause ≤ at → ClauseMinimizationInvariant words s conflict first low (take kept clause ++ drop at clause) w → ClauseMinimizationInvariant words s conflict first low (take kept clause) w
minimal_cut words s conflict first low kept at clause w le m =
    subst (λ (xs : List ℕ). ClauseMinimizationInvariant words s conflict first low xs w) (ap (λ (ys : List ℕ). take kept clause ++ ys) (drop_all at clause le) ∙ append-nil (take kept clause)) m

-- literals that were used after resolution are of lower levels
pub lower_rest : (words : List ℕ) (s : PropagationState) (conflict : List ℕ) (first low : ℕ) (rest : List ℕ) (w : AnalysisState) → ClauseMinimizationInvariant words s conflict first low rest w → (k : ℕ) → low ≤ k → k < length w.used → level s (get_or w.used k 0) < current_level s
lower_rest words s conflict first low rest w m k le lt = low_use s low w.flags k (get_or w.used k 0) (m.searching.uses k lt) le
  where
    low_use : (s : PropagationState) (low : ℕ) (flags : List Bool) (k l : ℕ) → IsUsedLit s low flags k l → low ≤ k → level s l < current_level s
    low_use s low flags k l (use_top b t) le = absurd (omega arith)
    low_use s low flags k l (use_low b t g) le = t
