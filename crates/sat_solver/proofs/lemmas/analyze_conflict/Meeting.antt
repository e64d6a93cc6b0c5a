-- Meeting a false literal changes flags, counts and the clause, and preserves the rest.
use Rattle.std.proofs.Common.{ℕ, ◌≡◌, ◌≢◌, ◌+◌, ◌-◌, ◌^◌, ◌<◌, ◌≤◌, ◌&&◌, ◌⊎◌, inl, inr, suc, zero, min, Bool, true, false, not, Some, List, [], ◌∷◌, ◌++◌, length, get_or, set, cond, eqb, ltb, refl, sym, ap, ◌∙◌, subst, arith, length-set, get_or-set_same, get_or-set_other}
use Rattle.std.proofs.lemmas.Bool.{cases_eq, cases_lt, cases_Bool, and_parts, and_from, and_left, and_right, eqb-true, eqb-false, ltb-true, ltb-false, lt-ltb, le-ltb, not-true, both_ways, cond-true, cond-false}
use Rattle.std.proofs.lemmas.List.{length_push, get_or_append_left, get_or_push, get_or_default}
use Rattle.std.proofs.lemmas.List.Elements.{Contains-append_left}
use Rattle.sat_base.specs.values.Literals.{variable, negated, is_positive}
use Rattle.sat_parts.specs.prop.Values.{IsTrueLit, IsFalseLit, value_of}
use Rattle.sat_parts.specs.prop.Graphs.{node_of}
use Rattle.sat_parts.specs.prop.State.{PropagationState, level, lit_at, IsOnTrailBefore, StateIsConsistent}
use Rattle.sat_parts.specs.prop.Reasons.{IsFalseBefore}
use Rattle.sat_parts.proofs.lemmas.prop.StateLemmas.{negated_variable, negated_twice, false_from_true, true_from_false, lit_from_parts}
use Rattle.sat_parts.proofs.lemmas.prop.RoomLemmas.{places_apart, below_from_value}
use Rattle.sat_solver.specs.analyze_conflict.AnalysisState.{AnalysisState, with_seen_literal, with_seen_literals}
use Rattle.sat_solver.specs.analyze_conflict.Marks.{is_open_flagged, open_below, HasVariable, IsOpenAt, IsLowerFlagged, AreFlagsAt, AreFlagsOf, IsExplained, covered_unit, covered_clause, covered_reason, covered_core, covered_open, AreExplained}
use Rattle.sat_solver.proofs.lemmas.analyze_conflict.InTurn.{negation_true}

pub level_by_variable : (s : PropagationState) (l m : ℕ) → variable l ≡ variable m → level s l ≡ level s m
level_by_variable s l m e = ap (λ v. (node_of s.nodes v).level) e

-- true literals of the same variable are equal, and so are false ones
some_back : (x y : Bool) → Some x ≡ Some y → x ≡ y
some_back x y e = cc

pub same_true : (s : PropagationState) (l m : ℕ) → IsTrueLit s.values l → IsTrueLit s.values m → variable l ≡ variable m → l ≡ m
same_true s l m t u e = lit_from_parts l m e (some_back (is_positive l) (is_positive m) (sym t ∙ ap (λ v. value_of s.values v) e ∙ u))

pub same_false : (s : PropagationState) (l m : ℕ) → IsFalseLit s.values l → IsFalseLit s.values m → variable l ≡ variable m → l ≡ m
same_false s l m t u e =
    let n : negated l ≡ negated m = same_true s (negated l) (negated m) (true_from_false s.values l t) (true_from_false s.values m u) (negated_variable l ∙ e ∙ sym (negated_variable m)) in
    sym (negated_twice l) ∙ ap (λ z. negated z) n ∙ negated_twice m

-- levels do not decrease along the trail
pub levels_rise : (s : PropagationState) (i j : ℕ) → StateIsConsistent s → i ≤ j → j < length s.trail.lits → level s (lit_at s i) ≤ level s (lit_at s j)
levels_rise s i j a le lt = elim (cases_lt (level s (lit_at s j)) (level s (lit_at s i))) [
  | inl h ↦ absurd (omega (
    arith,
    (a.levels i (omega arith)).within,
    (a.levels i (omega arith)).begun (level s (lit_at s j)) h,
    (a.levels j lt).not_begun (level s (lit_at s j)) (omega arith) (omega (arith, (a.levels i (omega arith)).within)),
  ))
  | inr h ↦ h
]

-- a literal counts 1 if it is flagged and of level `top` or above, otherwise 0
open_none : (s : PropagationState) (top : ℕ) (flags : List Bool) (l : ℕ) → is_open_flagged s top flags l ≡ false → cond {A = ℕ} (is_open_flagged s top flags l) 1 0 ≡ 0
open_none s top flags l e = ap (λ (b : Bool). cond {A = ℕ} b 1 0) e

open_one : (s : PropagationState) (top : ℕ) (flags : List Bool) (l : ℕ) → is_open_flagged s top flags l ≡ true → cond {A = ℕ} (is_open_flagged s top flags l) 1 0 ≡ 1
open_one s top flags l e = ap (λ (b : Bool). cond {A = ℕ} b 1 0) e

unflagged : (s : PropagationState) (top : ℕ) (flags : List Bool) (l : ℕ) → get_or flags (variable l) false ≡ false → is_open_flagged s top flags l ≡ false
unflagged s top flags l e = and_left (get_or flags (variable l) false) (not (ltb (level s l) top)) e

not_high : (s : PropagationState) (top : ℕ) (flags : List Bool) (l : ℕ) → level s l < top → is_open_flagged s top flags l ≡ false
not_high s top flags l n = and_right (get_or flags (variable l) false) (not (ltb (level s l) top)) (ap (λ b. not b) (lt-ltb (level s l) top n))

is_high_flagged : (s : PropagationState) (top : ℕ) (flags : List Bool) (l : ℕ) → get_or flags (variable l) false ≡ true → top ≤ level s l → is_open_flagged s top flags l ≡ true
is_high_flagged s top flags l f t = and_from (get_or flags (variable l) false) (not (ltb (level s l) top)) f (ap (λ b. not b) (le-ltb (level s l) top t))

pub open_at_most : (s : PropagationState) (top : ℕ) (flags : List Bool) (n : ℕ) → open_below s top flags n ≤ n
open_at_most s top flags zero = omega arith
open_at_most s top flags (suc n) = elim (cases_Bool (is_open_flagged s top flags (lit_at s n))) [
  | inl t ↦ omega (arith, open_one s top flags (lit_at s n) t, open_at_most s top flags n)
  | inr f ↦ omega (arith, open_none s top flags (lit_at s n) f, open_at_most s top flags n)
]

-- if no position from p on is flagged, counting up to n gives the same as counting up to p
pub open_same : (s : PropagationState) (top : ℕ) (flags : List Bool) (p n : ℕ) → p ≤ n → ((q : ℕ) → p ≤ q → q < n → get_or flags (variable (lit_at s q)) false ≡ false) → open_below s top flags n ≡ open_below s top flags p
open_same s top flags p zero le h = let e : p ≡ 0 = omega arith in ap (λ m. open_below s top flags m) (sym e)
open_same s top flags p (suc n) le h = elim (cases_eq p (suc n)) [
  | inl e ↦ ap (λ m. open_below s top flags m) (sym e)
  | inr d ↦
      let rest : open_below s top flags n ≡ open_below s top flags p = open_same s top flags p n (omega arith) (λ q a b. h q a (omega arith)) in
      omega (arith, open_none s top flags (lit_at s n) (unflagged s top flags (lit_at s n) (h n (omega arith) (omega arith))))
]

-- a flagged literal of level `top` or above counts
pub open_last : (s : PropagationState) (top : ℕ) (flags : List Bool) (n : ℕ) → get_or flags (variable (lit_at s n)) false ≡ true → top ≤ level s (lit_at s n) → open_below s top flags (suc n) ≡ 1 + open_below s top flags n
open_last s top flags n f t = omega (arith, open_one s top flags (lit_at s n) (is_high_flagged s top flags (lit_at s n) f t))

-- the position of a counted literal
pub record OpenPlace (s : PropagationState) (top : ℕ) (flags : List Bool) (n : ℕ) : Type 0 where
  pub place : ℕ
  pub before : place < n
  pub flagged : get_or flags (variable (lit_at s place)) false ≡ true
  pub high : top ≤ level s (lit_at s place)

pub open_some : (s : PropagationState) (top : ℕ) (flags : List Bool) (n : ℕ) → 0 < open_below s top flags n → OpenPlace s top flags n
open_some s top flags zero h = absurd (omega arith)
open_some s top flags (suc n) h = elim (cases_Bool (is_open_flagged s top flags (lit_at s n))) [
  | inl t ↦
      let both = and_parts (get_or flags (variable (lit_at s n)) false) (not (ltb (level s (lit_at s n)) top)) t in
      record { place = n; before = omega arith; flagged = both.0; high = ltb-false (level s (lit_at s n)) top (not-true (ltb (level s (lit_at s n)) top) both.1) }
  | inr f ↦
      let x : OpenPlace s top flags n = open_some s top flags n (omega (arith, open_none s top flags (lit_at s n) f)) in
      record { place = x.place; before = omega (arith, x.before); flagged = x.flagged; high = x.high }
]

-- if the count is 0, no flagged literal of level `top` or above is among those counted
pub open_no : (s : PropagationState) (top : ℕ) (flags : List Bool) (n q : ℕ) → open_below s top flags n ≡ 0 → q < n → get_or flags (variable (lit_at s q)) false ≡ true → top ≤ level s (lit_at s q) → ⊥
open_no s top flags zero q e lt f t = omega arith
open_no s top flags (suc n) q e lt f t = elim (cases_eq q n) [
  | inl i ↦ omega (arith, open_one s top flags (lit_at s n) (subst (λ m. is_open_flagged s top flags (lit_at s m) ≡ true) i (is_high_flagged s top flags (lit_at s q) f t)))
  | inr d ↦ open_no s top flags n q (omega arith) (omega arith) f t
]

-- setting a flag does not change whether a literal counts, if it has another variable or a level below `top`
open_kept_one : (s : PropagationState) (top : ℕ) (flags : List Bool) (v : ℕ) (b : Bool) (l : ℕ) → (variable l ≢ v) ⊎ (level s l < top) → is_open_flagged s top (set flags v b) l ≡ is_open_flagged s top flags l
open_kept_one s top flags v b l (inl n) = ap (λ c. c && not (ltb (level s l) top)) (get_or-set_other flags v (variable l) b false n)
open_kept_one s top flags v b l (inr n) = not_high s top (set flags v b) l n ∙ sym (not_high s top flags l n)

pub open_kept : (s : PropagationState) (top : ℕ) (flags : List Bool) (v : ℕ) (b : Bool) (n : ℕ) → ((q : ℕ) → q < n → (variable (lit_at s q) ≢ v) ⊎ (level s (lit_at s q) < top)) →
    open_below s top (set flags v b) n ≡ open_below s top flags n
open_kept s top flags v b zero h = refl
open_kept s top flags v b (suc n) h =
    let rest : open_below s top (set flags v b) n ≡ open_below s top flags n = open_kept s top flags v b n (λ q lt. h q (omega arith)) in
    let here : cond {A = ℕ} (is_open_flagged s top (set flags v b) (lit_at s n)) 1 0 ≡ cond {A = ℕ} (is_open_flagged s top flags (lit_at s n)) 1 0 =
    ap (λ (c : Bool). cond {A = ℕ} c 1 0) (open_kept_one s top flags v b (lit_at s n) (h n (omega arith))) in
    omega arith

-- flagging a literal of level `top` or above adds 1 to the count
pub open_more : (s : PropagationState) (top : ℕ) (flags : List Bool) (p n : ℕ) → StateIsConsistent s → p < n → n ≤ length s.trail.lits → top ≤ level s (lit_at s p) →
    get_or flags (variable (lit_at s p)) false ≡ false → variable (lit_at s p) < length flags →
    open_below s top (set flags (variable (lit_at s p)) true) n ≡ open_below s top flags n + 1
open_more s top flags p zero a lt le t f b = absurd (omega arith)
open_more s top flags p (suc n) a lt le t f b = elim (cases_eq p n) [
  | inl e ↦
      let v : ℕ = variable (lit_at s p) in
      let rest : open_below s top (set flags v true) n ≡ open_below s top flags n = open_kept s top flags v true n (λ q d. inl (λ same. omega (arith, places_apart s q p a (omega arith) (omega arith) same))) in
      let now : is_open_flagged s top (set flags v true) (lit_at s p) ≡ true = is_high_flagged s top (set flags v true) (lit_at s p) (get_or-set_same flags v true false b) t in
      let now' : cond {A = ℕ} (is_open_flagged s top (set flags v true) (lit_at s n)) 1 0 ≡ 1 = open_one s top (set flags v true) (lit_at s n) (subst (λ m. is_open_flagged s top (set flags v true) (lit_at s m) ≡ true) e now) in
      let was : cond {A = ℕ} (is_open_flagged s top flags (lit_at s n)) 1 0 ≡ 0 = open_none s top flags (lit_at s n) (subst (λ m. is_open_flagged s top flags (lit_at s m) ≡ false) e (unflagged s top flags (lit_at s p) f)) in
      omega arith
  | inr d ↦
      let v : ℕ = variable (lit_at s p) in
      let rest : open_below s top (set flags v true) n ≡ open_below s top flags n + 1 = open_more s top flags p n a (omega arith) (omega arith) t f b in
      let here : cond {A = ℕ} (is_open_flagged s top (set flags v true) (lit_at s n)) 1 0 ≡ cond {A = ℕ} (is_open_flagged s top flags (lit_at s n)) 1 0 =
      ap (λ (c : Bool). cond {A = ℕ} c 1 0) (open_kept_one s top flags v true (lit_at s n) (inl (λ same. d (places_apart s p n a (omega arith) (omega arith) (sym same))))) in
      omega arith
]

-- the work after a literal of level `top` or above was met
abbrev pub counted : ℕ → AnalysisState → AnalysisState
counted r w = record w { flags = set w.flags (variable r) true; seen = w.seen ++ variable r ∷ []; pending = min (w.pending + 1) (2 ^ 64 - 1) }

abbrev pub listed : ℕ → AnalysisState → AnalysisState
listed r w = record w { flags = set w.flags (variable r) true; seen = w.seen ++ variable r ∷ []; clause = w.clause ++ r ∷ [] }

pub data Meets (s : PropagationState) (top r : ℕ) (w w' : AnalysisState) : Type 0 where
  at_bottom : level s r ≡ 0 → w' ≡ w → Meets s top r w w'
  is_flagged : get_or w.flags (variable r) false ≡ true → w' ≡ w → Meets s top r w w'
  is_high : 0 < level s r → get_or w.flags (variable r) false ≡ false → top ≤ level s r → w' ≡ counted r w → Meets s top r w w'
  is_lower : 0 < level s r → get_or w.flags (variable r) false ≡ false → level s r < top → w' ≡ listed r w → Meets s top r w w'

pub meets : (s : PropagationState) (top r : ℕ) (w : AnalysisState) → Meets s top r w (with_seen_literal s.nodes top r w)
meets s top r w =
    let high : AnalysisState = counted r w in
    let lower : AnalysisState = listed r w in
    let inner : AnalysisState = cond (ltb (level s r) top) lower high in
    let middle : AnalysisState = cond (get_or w.flags (variable r) false) w inner in
    elim (cases_Bool (eqb (level s r) 0)) [
      | inl z ↦ at_bottom (eqb-true (level s r) 0 z) (cond-true (eqb (level s r) 0) w middle z)
      | inr n ↦
          let above : level s r ≢ 0 = eqb-false (level s r) 0 n in
          elim (cases_Bool (get_or w.flags (variable r) false)) [
            | inl f ↦ is_flagged f (cond-false (eqb (level s r) 0) w middle n ∙ cond-true (get_or w.flags (variable r) false) w inner f)
            | inr g ↦ elim (cases_Bool (ltb (level s r) top)) [
              | inl t ↦ is_lower (omega arith) g (ltb-true (level s r) top t)
                  (cond-false (eqb (level s r) 0) w middle n ∙ cond-false (get_or w.flags (variable r) false) w inner g ∙ cond-true (ltb (level s r) top) lower high t)
              | inr u ↦ is_high (omega arith) g (ltb-false (level s r) top u)
                  (cond-false (eqb (level s r) 0) w middle n ∙ cond-false (get_or w.flags (variable r) false) w inner g ∙ cond-false (ltb (level s r) top) lower high u)
            ]
          ]
    ]

-- if a literal above level 0 was false before a position, its negation is before that position
pub stands_before : (s : PropagationState) (at r : ℕ) → IsFalseBefore s at r → 0 < level s r → IsOnTrailBefore s at (negated r)
stands_before s at r h above = elim h [
  | inl b ↦ b
  | inr x ↦ absurd (omega (arith, x.bottom, level_by_variable s (negated r) r (negated_variable r)))
]

pub false_before : (s : PropagationState) (at r : ℕ) → StateIsConsistent s → IsFalseBefore s at r → IsFalseLit s.values r
false_before s at r a h = subst (λ z. IsFalseLit s.values z) (negated_twice r) (false_from_true s.values (negated r) (negation_true s at r a h))

pub variable_below : (s : PropagationState) (at r : ℕ) → StateIsConsistent s → IsFalseBefore s at r → variable r < length s.values
variable_below s at r a h = below_from_value s.values (variable r) (not (is_positive r)) (false_before s at r a h)

-- a flagged variable stays explained if the clause grows
open_grows : (s : PropagationState) (top : ℕ) (clause clause' : List ℕ) (at v : ℕ) →
    ((u : ℕ) → HasVariable clause u → HasVariable clause' u) → (HasVariable clause v ⊎ IsOpenAt s top at v) → HasVariable clause' v ⊎ IsOpenAt s top at v
open_grows s top clause clause' at v f (inl h) = inl (f v h)
open_grows s top clause clause' at v f (inr h) = inr h

pub flag_cases : (flags : List Bool) (v u : ℕ) → get_or (set flags v true) u false ≡ true → (u ≡ v) ⊎ (get_or flags u false ≡ true)
flag_cases flags v u e = elim (cases_eq u v) [ inl q ↦ inl q | inr n ↦ inr (sym (get_or-set_other flags v u true false n) ∙ e) ]

pub flag_kept : (flags : List Bool) (v u : ℕ) → v < length flags → get_or flags u false ≡ true → get_or (set flags v true) u false ≡ true
flag_kept flags v u lt e = elim (cases_eq u v) [
  | inl q ↦ ap (λ z. get_or (set flags v true) z false) q ∙ get_or-set_same flags v true false lt
  | inr n ↦ get_or-set_other flags v u true false n ∙ e
]

lower_kept : (s : PropagationState) (top : ℕ) (flags : List Bool) (v r : ℕ) → v < length flags → IsLowerFlagged s top flags r → IsLowerFlagged s top (set flags v true) r
lower_kept s top flags v r lt h = record { fails = h.fails; above = h.above; below = h.below; flagged = flag_kept flags v (variable r) lt h.flagged }

marks_high : (s : PropagationState) (top : ℕ) (w : AnalysisState) (at r : ℕ) → StateIsConsistent s → IsFalseBefore s at r → 0 < level s r → get_or w.flags (variable r) false ≡ false → top ≤ level s r → AreFlagsOf s top w at →
    AreFlagsAt s top w.clause (set w.flags (variable r) true) (min (w.pending + 1) (2 ^ 64 - 1)) at
marks_high s top w at r a h above f t m =
    let b : IsOnTrailBefore s at (negated r) = stands_before s at r h above in
    let lt : variable r < length w.flags = omega (arith, variable_below s at r a h, m.size) in
    let v_is : variable (lit_at s b.place) ≡ variable r = ap (λ z. variable z) b.there ∙ negated_variable r in
    let high : top ≤ level s (lit_at s b.place) = omega (arith, level_by_variable s (lit_at s b.place) r v_is) in
    record {
      size = length-set w.flags (variable r) true ∙ m.size;
      within = m.within;
      flagged = λ v e. elim (flag_cases w.flags (variable r) v e) [
        | inl q ↦ inr (record { place = b.place; before = b.before; there = v_is ∙ sym q; high = high })
        | inr g ↦ m.flagged v g
      ];
      lower = λ k l. lower_kept s top w.flags (variable r) (get_or w.clause k 0) lt (m.lower k l);
      distinct = m.distinct;
      counted =
          let more : open_below s top (set w.flags (variable r) true) at ≡ open_below s top w.flags at + 1 =
          subst (λ v. open_below s top (set w.flags v true) at ≡ open_below s top w.flags at + 1) v_is
          (open_more s top w.flags b.place at a b.before m.within high (ap (λ v. get_or w.flags v false) v_is ∙ f) (omega (arith, v_is))) in
          omega (arith, m.counted, open_at_most s top (set w.flags (variable r) true) at, m.within, a.trail.fits, a.trail.small);
    }

marks_lower : (s : PropagationState) (top : ℕ) (w : AnalysisState) (at r : ℕ) → StateIsConsistent s → IsFalseBefore s at r → 0 < level s r → get_or w.flags (variable r) false ≡ false → level s r < top → AreFlagsOf s top w at →
    AreFlagsAt s top (w.clause ++ r ∷ []) (set w.flags (variable r) true) w.pending at
marks_lower s top w at r a h above f t m =
    let n : length (w.clause ++ r ∷ []) ≡ length w.clause + 1 = length_push w.clause r in
    let lt : variable r < length w.flags = omega (arith, variable_below s at r a h, m.size) in
    let fails : IsFalseLit s.values r = false_before s at r a h in
    let other : (k : ℕ) → k < length w.clause → get_or w.clause k 0 ≢ r = λ k l e. both_ways (get_or w.flags (variable r) false) f (subst (λ z. get_or w.flags (variable z) false ≡ true) e (m.lower k l).flagged) in
    record {
      size = length-set w.flags (variable r) true ∙ m.size;
      within = m.within;
      flagged = λ v e. elim (flag_cases w.flags (variable r) v e) [
        | inl q ↦ inl (length w.clause, (omega arith, ap (λ z. variable z) (get_or_push w.clause r 0 (length w.clause) refl) ∙ sym q))
        | inr g ↦ open_grows s top w.clause (w.clause ++ r ∷ []) at v
            (λ u x. (x.0, (omega (arith, x.1.0), ap (λ z. variable z) (get_or_append_left w.clause (r ∷ []) 0 x.0 x.1.0) ∙ x.1.1))) (m.flagged v g)
      ];
      lower = λ k l. elim (cases_eq k (length w.clause)) [
        | inl e ↦ subst (λ z. IsLowerFlagged s top (set w.flags (variable r) true) z) (sym (get_or_push w.clause r 0 k (sym e)))
            (record { fails = fails; above = above; below = t; flagged = get_or-set_same w.flags (variable r) true false lt })
        | inr d ↦
            let q : k < length w.clause = omega arith in
            subst (λ z. IsLowerFlagged s top (set w.flags (variable r) true) z) (sym (get_or_append_left w.clause (r ∷ []) 0 k q))
            (lower_kept s top w.flags (variable r) (get_or w.clause k 0) lt (m.lower k q))
      ];
      distinct = λ j k p q e. elim (cases_eq j (length w.clause)) [
        | inl x ↦ elim (cases_eq k (length w.clause)) [
          | inl y ↦ omega arith
          | inr y ↦
              let b : k < length w.clause = omega arith in
              absurd (other k b (sym (get_or_append_left w.clause (r ∷ []) 0 k b) ∙ sym e ∙ get_or_push w.clause r 0 j (sym x)))
        ]
        | inr x ↦
            let c : j < length w.clause = omega arith in
            elim (cases_eq k (length w.clause)) [
              | inl y ↦ absurd (other j c (sym (get_or_append_left w.clause (r ∷ []) 0 j c) ∙ e ∙ get_or_push w.clause r 0 k (sym y)))
              | inr y ↦
                  let b : k < length w.clause = omega arith in
                  m.distinct j k c b (sym (get_or_append_left w.clause (r ∷ []) 0 j c) ∙ e ∙ get_or_append_left w.clause (r ∷ []) 0 k b)
            ]
      ];
      counted = m.counted ∙ sym (open_kept s top w.flags (variable r) true at (λ q l. elim (cases_eq (variable (lit_at s q)) (variable r)) [
        | inl e ↦ inr (omega (arith, level_by_variable s (lit_at s q) r e))
        | inr d ↦ inl d
      ]));
    }

-- what meeting these literals preserves, and what it adds
pub record Met (s : PropagationState) (top at : ℕ) (rs : List ℕ) (w w' : AnalysisState) : Type 0 where
  pub marks : AreFlagsOf s top w' at
  pub used : w'.used ≡ w.used
  pub core : w'.core ≡ w.core
  pub antecedents : w'.antecedents ≡ w.antecedents
  pub pending : w.pending ≤ w'.pending
  pub kept : (q : ℕ) → IsExplained s top w at q → IsExplained s top w' at q
  pub covered : AreExplained s top w' at rs

covered_flagged : (s : PropagationState) (top : ℕ) (w : AnalysisState) (at r : ℕ) → StateIsConsistent s → IsFalseBefore s at r → AreFlagsOf s top w at → get_or w.flags (variable r) false ≡ true → IsExplained s top w at r
covered_flagged s top w at r a h m f = elim (m.flagged (variable r) f) [
  | inl x ↦ covered_clause (x.0, x.1.0, at_any w.clause x.0 r x.1.0 (same_false s (get_or w.clause x.0 0) r (m.lower x.0 x.1.0).fails (false_before s at r a h) x.1.1))
  | inr x ↦
      let lt : x.place < length s.trail.lits = omega (arith, x.before, m.within) in
      let e : lit_at s x.place ≡ negated r = same_true s (lit_at s x.place) (negated r) (a.holds x.place lt) (negation_true s at r a h) (x.there ∙ sym (negated_variable r)) in
      covered_open (record {
        flagged = f;
        high = omega (arith, level_by_variable s (lit_at s x.place) r x.there, x.high);
        before = record { place = x.place; before = x.before; within = lt; there = e };
      })
]
  where
    at_any : (xs : List ℕ) (k x : ℕ) → k < length xs → get_or xs k 0 ≡ x → get_or xs k x ≡ x
    at_any xs k x lt e = get_or_default xs k x 0 lt ∙ e

one_covered : (s : PropagationState) (top : ℕ) (w : AnalysisState) (at r : ℕ) → IsExplained s top w at r → AreExplained s top w at (r ∷ [])
one_covered s top w at r h zero lt = h
one_covered s top w at r h (suc k) lt = absurd (omega arith)

kept_high : (s : PropagationState) (top : ℕ) (w : AnalysisState) (at r q : ℕ) → variable r < length w.flags → IsExplained s top w at q → IsExplained s top (counted r w) at q
kept_high s top w at r q lt (covered_unit z) = covered_unit z
kept_high s top w at r q lt (covered_clause c) = covered_clause c
kept_high s top w at r q lt (covered_reason c) = covered_reason c
kept_high s top w at r q lt (covered_core c) = covered_core c
kept_high s top w at r q lt (covered_open x) = covered_open (record { flagged = flag_kept w.flags (variable r) (variable q) lt x.flagged; high = x.high; before = x.before })

kept_lower : (s : PropagationState) (top : ℕ) (w : AnalysisState) (at r q : ℕ) → variable r < length w.flags → IsExplained s top w at q → IsExplained s top (listed r w) at q
kept_lower s top w at r q lt (covered_unit z) = covered_unit z
kept_lower s top w at r q lt (covered_clause c) = covered_clause (Contains-append_left w.clause (r ∷ []) q c)
kept_lower s top w at r q lt (covered_reason c) = covered_reason c
kept_lower s top w at r q lt (covered_core c) = covered_core c
kept_lower s top w at r q lt (covered_open x) = covered_open (record { flagged = flag_kept w.flags (variable r) (variable q) lt x.flagged; high = x.high; before = x.before })

met_same : (s : PropagationState) (top at r : ℕ) (w : AnalysisState) → AreFlagsOf s top w at → IsExplained s top w at r → Met s top at (r ∷ []) w w
met_same s top at r w m c = record { marks = m; used = refl; core = refl; antecedents = refl; pending = omega arith; kept = λ q x. x; covered = one_covered s top w at r c }

met_by : (s : PropagationState) (top at r : ℕ) (w w' : AnalysisState) → StateIsConsistent s → IsFalseBefore s at r → AreFlagsOf s top w at → Meets s top r w w' → Met s top at (r ∷ []) w w'
met_by s top at r w w' a h m (at_bottom z e) = subst (λ x. Met s top at (r ∷ []) w x) (sym e) (met_same s top at r w m (covered_unit z))
met_by s top at r w w' a h m (is_flagged f e) = subst (λ x. Met s top at (r ∷ []) w x) (sym e) (met_same s top at r w m (covered_flagged s top w at r a h m f))
met_by s top at r w w' a h m (is_high above f t e) =
    let lt : variable r < length w.flags = omega (arith, variable_below s at r a h, m.size) in
    let marks : AreFlagsOf s top (counted r w) at = marks_high s top w at r a h above f t m in
    subst (λ x. Met s top at (r ∷ []) w x) (sym e) (record {
      marks = marks;
      used = refl;
      core = refl;
      antecedents = refl;
      pending = omega (arith, m.counted, open_at_most s top w.flags at, m.within, a.trail.fits, a.trail.small);
      kept = λ q x. kept_high s top w at r q lt x;
      covered = one_covered s top (counted r w) at r (covered_flagged s top (counted r w) at r a h marks (get_or-set_same w.flags (variable r) true false lt));
    })
met_by s top at r w w' a h m (is_lower above f t e) =
    let lt : variable r < length w.flags = omega (arith, variable_below s at r a h, m.size) in
    let marks : AreFlagsOf s top (listed r w) at = marks_lower s top w at r a h above f t m in
    subst (λ x. Met s top at (r ∷ []) w x) (sym e) (record {
      marks = marks;
      used = refl;
      core = refl;
      antecedents = refl;
      pending = omega arith;
      kept = λ q x. kept_lower s top w at r q lt x;
      covered = one_covered s top (listed r w) at r (covered_flagged s top (listed r w) at r a h marks (get_or-set_same w.flags (variable r) true false lt));
    })

covered_cons : (s : PropagationState) (top : ℕ) (w : AnalysisState) (at r : ℕ) (rs : List ℕ) → IsExplained s top w at r → AreExplained s top w at rs → AreExplained s top w at (r ∷ rs)
covered_cons s top w at r rs h t zero lt = h
covered_cons s top w at r rs h t (suc k) lt = t k (omega arith)

-- all these literals were met, one after another
pub met_all : (s : PropagationState) (top at : ℕ) (rs : List ℕ) (w : AnalysisState) → StateIsConsistent s → ((k : ℕ) → k < length rs → IsFalseBefore s at (get_or rs k 0)) → AreFlagsOf s top w at →
    Met s top at rs w (with_seen_literals s.nodes top rs w)
met_all s top at [] w a h m = record { marks = m; used = refl; core = refl; antecedents = refl; pending = omega arith; kept = λ q x. x; covered = λ k lt. absurd (omega arith) }
met_all s top at (r ∷ rs) w a h m =
    let w1 : AnalysisState = with_seen_literal s.nodes top r w in
    let x : Met s top at (r ∷ []) w w1 = met_by s top at r w w1 a (h 0 (omega arith)) m (meets s top r w) in
    let y : Met s top at rs w1 (with_seen_literals s.nodes top rs w1) = met_all s top at rs w1 a (λ k lt. h (suc k) (omega arith)) x.marks in
    record {
      marks = y.marks;
      used = y.used ∙ x.used;
      core = y.core ∙ x.core;
      antecedents = y.antecedents ∙ x.antecedents;
      pending = omega (arith, x.pending, y.pending);
      kept = λ q c. y.kept q (x.kept q c);
      covered = covered_cons s top (with_seen_literals s.nodes top rs w1) at r rs (y.kept r (x.covered 0 (omega arith))) y.covered;
    }
