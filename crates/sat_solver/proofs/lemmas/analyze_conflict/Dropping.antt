-- Minimization drops a literal that follows from the others of the clause.
use Rattle.std.proofs.Common.{ℕ, ◌≡◌, ◌≢◌, ◌+◌, ◌<◌, ◌≤◌, ◌⊎◌, inl, inr, suc, zero, Bool, false, List, [], ◌∷◌, ◌++◌, length, get_or, refl, sym, ap, ◌∙◌, subst, arith}
use Rattle.std.proofs.lemmas.Bool.{cases_eq, cases_lt, both_ways}
use Rattle.std.proofs.lemmas.List.{length_push, length-append, get_or_append_left, get_or_push, get_or_at}
use Rattle.std.proofs.lemmas.List.Elements.{Contains-append_left, Contains-append_right, Contains-append_cases}
use Rattle.std.specs.List.{Contains}
use Rattle.sat_base.specs.values.Literals.{variable, negated}
use Rattle.sat_parts.specs.clause.Orders.{AreDistinct}
use Rattle.sat_parts.specs.prop.Graphs.{node_of}
use Rattle.sat_parts.specs.prop.State.{PropagationState, level, current_level}
use Rattle.sat_parts.proofs.lemmas.clause.ListLemmas.{at_place, place_in, in_tail, there}
use Rattle.sat_parts.proofs.lemmas.prop.StateLemmas.{negated_variable, negated_twice}
use Rattle.sat_solver.specs.analyze_conflict.AnalysisState.{AnalysisState}
use Rattle.sat_solver.specs.analyze_conflict.Marks.{IsLowerFlagged, HasVariable}
use Rattle.sat_solver.specs.analyze_conflict.Minimization.{IsUsedLit, use_top, use_low, MinimizationInvariant, IsUsedFrom, AddsMarks, with_used, ClauseMinimizationInvariant}
use Rattle.sat_solver.proofs.lemmas.analyze_conflict.Minimizing.{front_at}

-- an element of a list is also in the list with one more element in the middle
in_middle : (xs ys : List ℕ) (c x : ℕ) → Contains (xs ++ ys) x → Contains (xs ++ c ∷ ys) x
in_middle xs ys c x h = elim (Contains-append_cases xs ys x h) [
  | inl a ↦ Contains-append_left xs (c ∷ ys) x a
  | inr b ↦ Contains-append_right xs (c ∷ ys) x (in_tail c ys x b)
]

pub out_of_middle : (xs ys : List ℕ) (c x : ℕ) → Contains (xs ++ c ∷ ys) x → (c ≡ x) ⊎ Contains (xs ++ ys) x
out_of_middle xs ys c x h = elim (Contains-append_cases xs (c ∷ ys) x h) [
  | inl a ↦ inr (Contains-append_left xs ys x a)
  | inr b ↦ elim (cases_eq c x) [
    | inl e ↦ inl e
    | inr n ↦ inr (Contains-append_right xs ys x (there c ys x n b))
  ]
]

-- maps a position in the list without its n-th element to one in the complete list
skip : ℕ → ℕ → ℕ
skip zero k = suc k
skip (suc n) zero = zero
skip (suc n) (suc k) = suc (skip n k)

skip_at : (xs ys : List ℕ) (c k : ℕ) → get_or (xs ++ c ∷ ys) (skip (length xs) k) 0 ≡ get_or (xs ++ ys) k 0
unfolding skip
skip_at [] ys c k = refl
skip_at (x ∷ xs) ys c zero = refl
skip_at (x ∷ xs) ys c (suc k) = skip_at xs ys c k

skip_within : (xs ys : List ℕ) (c k : ℕ) → k < length (xs ++ ys) → skip (length xs) k < length (xs ++ c ∷ ys)
unfolding skip
skip_within [] ys c k lt = omega arith
skip_within (x ∷ xs) ys c zero lt = omega arith
skip_within (x ∷ xs) ys c (suc k) lt = omega (arith, skip_within xs ys c k (omega arith))

skip_back : (n j k : ℕ) → skip n j ≡ skip n k → j ≡ k
unfolding skip
skip_back zero j k e = omega arith
skip_back (suc n) zero zero e = refl
skip_back (suc n) zero (suc k) e = absurd (omega arith)
skip_back (suc n) (suc j) zero e = absurd (omega arith)
skip_back (suc n) (suc j) (suc k) e = ap (λ m. suc m) (skip_back n j k (omega arith))

skip_other : (n k : ℕ) → skip n k ≡ n → ⊥
unfolding skip
skip_other zero k e = omega arith
skip_other (suc n) zero e = omega arith
skip_other (suc n) (suc k) e = skip_other n k (omega arith)

pub distinct_middle : (xs ys : List ℕ) (c : ℕ) → AreDistinct (xs ++ c ∷ ys) → AreDistinct (xs ++ ys)
distinct_middle xs ys c d j k p q e =
    skip_back (length xs) j k (d (skip (length xs) j) (skip (length xs) k) (skip_within xs ys c j p) (skip_within xs ys c k q) (skip_at xs ys c j ∙ e ∙ sym (skip_at xs ys c k)))

pub not_middle : (xs ys : List ℕ) (c : ℕ) → AreDistinct (xs ++ c ∷ ys) → Contains (xs ++ ys) c → ⊥
not_middle xs ys c d h =
    let n : length (xs ++ c ∷ ys) ≡ length xs + length (c ∷ ys) = length-append xs (c ∷ ys) in
    skip_other (length xs) h.0 (d (skip (length xs) h.0) (length xs) (skip_within xs ys c h.0 h.1) (omega arith)
    (skip_at xs ys c h.0 ∙ at_place (xs ++ ys) c h ∙ sym (get_or_at xs c ys 0 (length xs) refl)))

lower_kept : (s : PropagationState) (w w' : AnalysisState) (r : ℕ) → AddsMarks w w' → IsLowerFlagged s (current_level s) w.flags r → IsLowerFlagged s (current_level s) w'.flags r
lower_kept s w w' r m h = record { fails = h.fails; above = h.above; below = h.below; flagged = m.kept (variable r) h.flagged }

-- after a successful search the literal is dropped
pub dropped : (words : List ℕ) (s : PropagationState) (conflict : List ℕ) (first low c : ℕ) (xs ys : List ℕ) (w w' : AnalysisState) → ClauseMinimizationInvariant words s conflict first low (xs ++ c ∷ ys) w → c ≢ first →
    AddsMarks (with_used (negated c) w) w' → MinimizationInvariant words s conflict first low w' (length w'.used) → ClauseMinimizationInvariant words s conflict first low (xs ++ ys) w'
dropped words s conflict first low c xs ys w w' h other m x =
    let w1 : AnalysisState = with_used (negated c) w in
    let n : length w1.used ≡ length w.used + 1 = length_push w.used (negated c) in
    let c_at : get_or w'.used (length w.used) 0 ≡ negated c = front_at w1 w' (length w.used) 0 m (omega arith) ∙ get_or_push w.used (negated c) 0 (length w.used) refl in
    let old_at : (k : ℕ) → k < length w.used → get_or w'.used k 0 ≡ get_or w.used k 0 = λ k lt. front_at w1 w' k 0 m (omega arith) ∙ get_or_append_left w.used (negated c ∷ []) 0 k lt in
    record {
      searching = x;
      distinct = distinct_middle xs ys c h.distinct;
      has_first = elim (out_of_middle xs ys c first h.has_first) [ inl e ↦ absurd (other e) | inr f ↦ f ];
      top = h.top;
      lower = λ r b. elim (h.lower r (in_middle xs ys c r b)) [ inl e ↦ inl e | inr l ↦ inr (lower_kept s w1 w' r m (same_flags s w (negated c) r l)) ];
      only = λ v e. elim (m.raised v e) [
        | inl f ↦ elim (h.only v f) [
          | inl y ↦ has_other xs ys c w w' low v h.searching.following y c_at (omega (arith, m.longer))
          | inr y ↦ inr (record { place = y.place; following = y.following; within = omega (arith, y.within, m.longer); there = ap (λ z. variable z) (old_at y.place y.within) ∙ y.there })
        ]
        | inr y ↦ inr (record { place = y.place; following = omega (arith, y.following, h.searching.following); within = y.within; there = y.there })
      ];
      apart = λ l a b.
          let l_at : get_or w'.used a.0 0 ≡ l = at_place w'.used l a in
          elim (cases_lt a.0 (length w.used)) [
            | inl lt ↦ h.apart l (subst (λ z. Contains w.used z) (sym (old_at a.0 lt) ∙ l_at) (place_in w.used a.0 lt)) (in_middle xs ys c (negated l) b)
            | inr ge ↦ elim (cases_eq a.0 (length w.used)) [
              | inl e ↦
                  let l_is : negated l ≡ c = ap (λ z. negated z) (sym l_at ∙ ap (λ z. get_or w'.used z 0) e ∙ c_at) ∙ negated_twice c in
                  not_middle xs ys c h.distinct (subst (λ z. Contains (xs ++ ys) z) l_is b)
              | inr d ↦
                  let fresh : get_or w.flags (variable l) false ≡ false = ap (λ z. get_or w.flags (variable z) false) (sym l_at) ∙ m.fresh a.0 (omega arith) a.1 in
                  elim (h.lower (negated l) (in_middle xs ys c (negated l) b)) [
                    | inl e ↦ low_not_top s low w'.flags a.0 l first (subst (λ z. IsUsedLit s low w'.flags a.0 z) l_at (x.uses a.0 a.1)) (omega (arith, h.searching.following)) e h.top
                    | inr y ↦ both_ways (get_or w.flags (variable l) false) fresh (ap (λ v. get_or w.flags v false) (sym (negated_variable l)) ∙ y.flagged)
                  ]
            ]
          ];
    }
  where
    same_flags : (s : PropagationState) (w : AnalysisState) (l r : ℕ) → IsLowerFlagged s (current_level s) w.flags r → IsLowerFlagged s (current_level s) (with_used l w).flags r
    same_flags s w l r h = h

    has_other : (xs ys : List ℕ) (c : ℕ) (w w' : AnalysisState) (low v : ℕ) → low ≤ length w.used → HasVariable (xs ++ c ∷ ys) v → get_or w'.used (length w.used) 0 ≡ negated c → length w.used < length w'.used → HasVariable (xs ++ ys) v ⊎ IsUsedFrom w'.used low v
    has_other xs ys c w w' low v following y c_at lt = elim (out_of_middle xs ys c (get_or (xs ++ c ∷ ys) y.0 0) (place_in (xs ++ c ∷ ys) y.0 y.1.0)) [
      | inl e ↦ inr (record { place = length w.used; following = following; within = lt; there = ap (λ z. variable z) c_at ∙ negated_variable c ∙ ap (λ z. variable z) e ∙ y.1.1 })
      | inr d ↦ inl (d.0, (d.1, ap (λ z. variable z) (at_place (xs ++ ys) (get_or (xs ++ c ∷ ys) y.0 0) d) ∙ y.1.1))
    ]

    low_not_top : (s : PropagationState) (low : ℕ) (flags : List Bool) (k l first : ℕ) → IsUsedLit s low flags k l → low ≤ k → negated l ≡ first → level s first ≡ current_level s → ⊥
    low_not_top s low flags k l first (use_top b t) le e top = omega arith
    low_not_top s low flags k l first (use_low b t g) le e top = omega (arith, ap (λ z. level s z) e, ap (λ v. (node_of s.nodes v).level) (negated_variable l))
