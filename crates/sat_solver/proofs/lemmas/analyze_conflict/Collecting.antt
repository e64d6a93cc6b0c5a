-- Resolution lists the variables that it meets and the long clauses that it uses.
use Rattle.std.proofs.Common.{ℕ, ◌≡◌, ◌<◌, ◌≤◌, ◌⊎◌, inl, inr, suc, zero, Bool, true, false, List, [], ◌∷◌, ◌++◌, length, take, get_or, set, refl, sym, ap, ◌∙◌, subst, arith, append_assoc, length-set, get_or-set_same, get_or-set_other}
use Rattle.std.proofs.lemmas.Bool.{cases_eq, cases_lt, both_ways}
use Rattle.std.proofs.lemmas.List.{append-nil, get_or_past, length_push, get_or_push, get_or_append_left, take_at, take-append-le}
use Rattle.std.proofs.lemmas.List.Elements.{Contains-append_left, Contains-append_cases, Contains-push}
use Rattle.std.specs.List.{Contains}
use Rattle.sat_base.specs.values.Literals.{variable, negated}
use Rattle.sat_parts.specs.declared.prop.graph.Conflict.{Conflict}
use Rattle.sat_parts.specs.clause.Glue.{FlagsAreClear}
use Rattle.sat_parts.specs.clause.Orders.{AreDistinct}
use Rattle.sat_parts.specs.prop.ReasonLits.{conflict_lits}
use Rattle.sat_parts.specs.prop.State.{PropagationState, node, level, current_level, lit_at, IsOnTrailBefore, StateIsConsistent}
use Rattle.sat_parts.specs.prop.Reasons.{IsFalseBefore}
use Rattle.sat_parts.proofs.lemmas.clause.ListLemmas.{at_place, place_in}
use Rattle.sat_parts.proofs.lemmas.prop.StateLemmas.{negated_variable}
use Rattle.sat_parts.proofs.lemmas.prop.RoomLemmas.{places_apart}
use Rattle.sat_solver.specs.analyze_conflict.AnalysisState.{AnalysisState, with_seen_literal, with_seen_literals, long_of, long_falsified, with_reason_used, begun_analysis}
use Rattle.sat_solver.specs.analyze_conflict.Marks.{causes_at}
use Rattle.sat_solver.specs.analyze_conflict.Seen.{HasLitAboveLevelZero, IsSeenVariable, seen_in_conflict, seen_in_reason, longs_of, SeenAreListed, AreSeen, HasEarlierSeenLit, ResolutionsAreNeeded, CollectionInvariant, CollectionResult}
use Rattle.sat_solver.proofs.lemmas.analyze_conflict.Meeting.{OpenPlace, Meets, at_bottom, is_flagged, is_high, is_lower, counted, listed, meets, stands_before, variable_below, flag_kept, flag_cases}
use Rattle.sat_solver.proofs.lemmas.analyze_conflict.Minimizing.{distinct_push}
use Rattle.sat_solver.proofs.lemmas.analyze_conflict.Resolution.{IsLastFlagged, at_current}

-- how the list of met variables has changed after these literals were met
pub record Lists (s : PropagationState) (at : ℕ) (rs : List ℕ) (w w' : AnalysisState) : Type 0 where
  pub listed : SeenAreListed s w'.seen w'.flags at
  pub size : length w'.flags ≡ length w.flags
  pub stays : (v : ℕ) → Contains w.seen v → Contains w'.seen v
  pub has : (v : ℕ) → HasLitAboveLevelZero s rs v → Contains w'.seen v
  pub only : (v : ℕ) → Contains w'.seen v → Contains w.seen v ⊎ HasLitAboveLevelZero s rs v

push_cases : (xs : List ℕ) (x y : ℕ) → Contains (xs ++ x ∷ []) y → Contains xs y ⊎ (x ≡ y)
push_cases xs x y c = elim (Contains-append_cases xs (x ∷ []) y c) [
  | inl a ↦ inl a
  | inr b ↦
      let e : 0 ≡ b.0 = omega (arith, b.1) in
      inr (ap (λ k. get_or (x ∷ []) k 0) e ∙ at_place (x ∷ []) y b)
]

-- a literal that was false before this position, and isn't flagged, isn't listed
not_listed : (s : PropagationState) (seen : List ℕ) (flags : List Bool) (at r : ℕ) → StateIsConsistent s → IsFalseBefore s at r → 0 < level s r → SeenAreListed s seen flags at → get_or flags (variable r) false ≡ false → Contains seen (variable r) → ⊥
not_listed s seen flags at r a h above l f c = elim (l.passed (variable r) c) [
  | inl t ↦ both_ways (get_or flags (variable r) false) f t
  | inr x ↦
      let b : IsOnTrailBefore s at (negated r) = stands_before s at r h above in
      omega (arith, x.following, b.before, places_apart s b.place x.place a b.within x.within (ap (λ z. variable z) b.there ∙ negated_variable r ∙ sym x.there))
]

-- a literal that was false before this position is flagged and listed
lists_new : (s : PropagationState) (seen : List ℕ) (flags : List Bool) (at r : ℕ) → StateIsConsistent s → IsFalseBefore s at r → 0 < level s r → length flags ≡ length s.values → SeenAreListed s seen flags at → get_or flags (variable r) false ≡ false →
    SeenAreListed s (seen ++ variable r ∷ []) (set flags (variable r) true) at
lists_new s seen flags at r a h above size l f =
    let v : ℕ = variable r in
    let inside : variable r < length s.values = variable_below s at r a h in
    let lt : variable r < length flags = omega arith in
    record {
      distinct = distinct_push seen v l.distinct (λ k b e. not_listed s seen flags at r a h above l f (subst (λ z. Contains seen z) e (place_in seen k b)));
      within = λ u c. elim (push_cases seen v u c) [
        | inl x ↦ l.within u x
        | inr e ↦ subst (λ z. z < length s.values) e inside
      ];
      flagged = λ u e. elim (flag_cases flags v u e) [
        | inl q ↦ subst (λ z. Contains (seen ++ v ∷ []) z) (sym q) (Contains-push seen v)
        | inr g ↦ Contains-append_left seen (v ∷ []) u (l.flagged u g)
      ];
      passed = λ u c. elim (push_cases seen v u c) [
        | inl x ↦ elim (l.passed u x) [ inl t ↦ inl (flag_kept flags v u lt t) | inr y ↦ inr y ]
        | inr e ↦ inl (subst (λ z. get_or (set flags v true) z false ≡ true) e (get_or-set_same flags v true false lt))
      ];
    }

one_above : (s : PropagationState) (r v : ℕ) → HasLitAboveLevelZero s (r ∷ []) v → (0 < level s r) × (variable r ≡ v)
one_above s r v h =
    let e : h.0 ≡ 0 = omega (arith, h.1.0) in
    (subst (λ k. 0 < level s (get_or (r ∷ []) k 0)) e h.1.1, subst (λ k. variable (get_or (r ∷ []) k 0) ≡ v) e h.1.2)

lists_same : (s : PropagationState) (at r : ℕ) (w : AnalysisState) → SeenAreListed s w.seen w.flags at → (0 < level s r → get_or w.flags (variable r) false ≡ true) → Lists s at (r ∷ []) w w
lists_same s at r w l f = record {
  listed = l;
  size = refl;
  stays = λ v c. c;
  has = λ v h.
      let o = one_above s r v h in
      subst (λ z. Contains w.seen z) o.1 (l.flagged (variable r) (f o.0));
  only = λ v c. inl c;
}

lists_pushed : (s : PropagationState) (at r : ℕ) (w w' : AnalysisState) → StateIsConsistent s → IsFalseBefore s at r → 0 < level s r → length w.flags ≡ length s.values → SeenAreListed s w.seen w.flags at → get_or w.flags (variable r) false ≡ false →
    w'.seen ≡ w.seen ++ variable r ∷ [] → w'.flags ≡ set w.flags (variable r) true → Lists s at (r ∷ []) w w'
lists_pushed s at r w w' a h above size l f seen flags =
    let new : SeenAreListed s (w.seen ++ variable r ∷ []) (set w.flags (variable r) true) at = lists_new s w.seen w.flags at r a h above size l f in
    record {
      listed = subst (λ (xs : List ℕ). SeenAreListed s xs w'.flags at) (sym seen) (subst (λ (fs : List Bool). SeenAreListed s (w.seen ++ variable r ∷ []) fs at) (sym flags) new);
      size = ap (λ (fs : List Bool). length fs) flags ∙ length-set w.flags (variable r) true;
      stays = λ v c. subst (λ (xs : List ℕ). Contains xs v) (sym seen) (Contains-append_left w.seen (variable r ∷ []) v c);
      has = λ v x. subst (λ (xs : List ℕ). Contains xs v) (sym seen) (subst (λ z. Contains (w.seen ++ variable r ∷ []) z) (one_above s r v x).1 (Contains-push w.seen (variable r)));
      only = λ v c. elim (push_cases w.seen (variable r) v (subst (λ (xs : List ℕ). Contains xs v) seen c)) [
        | inl x ↦ inl x
        | inr e ↦ inr (0, (omega arith, above, e))
      ];
    }

lists_one : (s : PropagationState) (top at r : ℕ) (w w' : AnalysisState) → StateIsConsistent s → IsFalseBefore s at r → length w.flags ≡ length s.values → SeenAreListed s w.seen w.flags at → Meets s top r w w' → Lists s at (r ∷ []) w w'
lists_one s top at r w w' a h size l (at_bottom z e) = subst (λ x. Lists s at (r ∷ []) w x) (sym e) (lists_same s at r w l (λ lt. absurd (omega arith)))
lists_one s top at r w w' a h size l (is_flagged f e) = subst (λ x. Lists s at (r ∷ []) w x) (sym e) (lists_same s at r w l (λ lt. f))
lists_one s top at r w w' a h size l (is_high above f t e) = subst (λ x. Lists s at (r ∷ []) w x) (sym e) (lists_pushed s at r w (counted r w) a h above size l f refl refl)
lists_one s top at r w w' a h size l (is_lower above f t e) = subst (λ x. Lists s at (r ∷ []) w x) (sym e) (lists_pushed s at r w (listed r w) a h above size l f refl refl)

above_cons : (s : PropagationState) (r v : ℕ) (rs : List ℕ) → HasLitAboveLevelZero s (r ∷ rs) v → HasLitAboveLevelZero s (r ∷ []) v ⊎ HasLitAboveLevelZero s rs v
above_cons s r v rs (zero, b) = inl (0, (omega arith, b.1, b.2))
above_cons s r v rs (suc k, b) = inr (k, (omega (arith, b.0), b.1, b.2))

above_head : (s : PropagationState) (r v : ℕ) (rs : List ℕ) → HasLitAboveLevelZero s (r ∷ []) v → HasLitAboveLevelZero s (r ∷ rs) v
above_head s r v rs h = let o = one_above s r v h in (0, (omega arith, o.0, o.1))

above_tail : (s : PropagationState) (r v : ℕ) (rs : List ℕ) → HasLitAboveLevelZero s rs v → HasLitAboveLevelZero s (r ∷ rs) v
above_tail s r v rs h = (suc h.0, (omega (arith, h.1.0), h.1.1, h.1.2))

pub lists_all : (s : PropagationState) (top at : ℕ) (rs : List ℕ) (w : AnalysisState) → StateIsConsistent s → ((k : ℕ) → k < length rs → IsFalseBefore s at (get_or rs k 0)) → length w.flags ≡ length s.values → SeenAreListed s w.seen w.flags at →
    Lists s at rs w (with_seen_literals s.nodes top rs w)
lists_all s top at [] w a h size l = record { listed = l; size = refl; stays = λ v c. c; has = λ v x. absurd (omega (arith, x.1.0)); only = λ v c. inl c }
lists_all s top at (r ∷ rs) w a h size l =
    let w1 : AnalysisState = with_seen_literal s.nodes top r w in
    let w2 : AnalysisState = with_seen_literals s.nodes top rs w1 in
    let x : Lists s at (r ∷ []) w w1 = lists_one s top at r w w1 a (h 0 (omega arith)) size l (meets s top r w) in
    let y : Lists s at rs w1 w2 = lists_all s top at rs w1 a (λ k lt. h (suc k) (omega arith)) (x.size ∙ size) x.listed in
    record {
      listed = y.listed;
      size = y.size ∙ x.size;
      stays = λ v c. y.stays v (x.stays v c);
      has = λ v z. elim (above_cons s r v rs z) [ inl f ↦ y.stays v (x.has v f) | inr g ↦ y.has v g ];
      only = λ v c. elim (y.only v c) [
        | inl d ↦ elim (x.only v d) [ inl e ↦ inl e | inr f ↦ inr (above_head s r v rs f) ]
        | inr g ↦ inr (above_tail s r v rs g)
      ];
    }

cleared : (flags : List Bool) (v : ℕ) → get_or (set flags v false) v false ≡ false
cleared flags v = elim (cases_lt v (length flags)) [
  | inl lt ↦ get_or-set_same flags v false false lt
  | inr ge ↦ get_or_past (set flags v false) v false (omega (arith, length-set flags v false))
]

lowered : (flags : List Bool) (v u : ℕ) → get_or (set flags v false) u false ≡ true → get_or flags u false ≡ true
lowered flags v u e = elim (cases_eq u v) [
  | inl q ↦ absurd (both_ways (get_or (set flags v false) u false) (ap (λ z. get_or (set flags v false) z false) q ∙ cleared flags v) e)
  | inr n ↦ sym (get_or-set_other flags v u false false n) ∙ e
]

-- the flag of a literal is cleared when its position is passed
listed_passed : (s : PropagationState) (w : AnalysisState) (p at : ℕ) → p < at → at ≤ length s.trail.lits → SeenAreListed s w.seen w.flags at → SeenAreListed s w.seen (set w.flags (variable (lit_at s p)) false) p
listed_passed s w p at lt le l = record {
  distinct = l.distinct;
  within = l.within;
  flagged = λ u e. l.flagged u (lowered w.flags (variable (lit_at s p)) u e);
  passed = λ u c. elim (cases_eq u (variable (lit_at s p))) [
    | inl q ↦ inr (record { place = p; following = omega arith; within = omega arith; there = sym q })
    | inr n ↦ elim (l.passed u c) [
      | inl t ↦ inl (get_or-set_other w.flags (variable (lit_at s p)) u false false n ∙ t)
      | inr x ↦ inr (record { place = x.place; following = omega (arith, x.following); within = x.within; there = x.there })
    ]
  ];
}

longs_push : (s : PropagationState) (ls : List ℕ) (l : ℕ) → longs_of s (ls ++ l ∷ []) ≡ longs_of s ls ++ long_of (node s l).reason
longs_push s [] l = append-nil (long_of (node s l).reason)
longs_push s (m ∷ ms) l = ap (λ (xs : List ℕ). long_of (node s m).reason ++ xs) (longs_push s ms l) ∙ sym (append_assoc (long_of (node s m).reason) (longs_of s ms) (long_of (node s l).reason))

-- seeing literals changes neither the used literals nor the antecedents
record Same (w w' : AnalysisState) : Type 0 where
  used : w'.used ≡ w.used
  antecedents : w'.antecedents ≡ w.antecedents

same_one : (s : PropagationState) (top r : ℕ) (w w' : AnalysisState) → Meets s top r w w' → Same w w'
same_one s top r w w' (at_bottom z e) = record { used = ap (λ (x : AnalysisState). x.used) e; antecedents = ap (λ (x : AnalysisState). x.antecedents) e }
same_one s top r w w' (is_flagged f e) = record { used = ap (λ (x : AnalysisState). x.used) e; antecedents = ap (λ (x : AnalysisState). x.antecedents) e }
same_one s top r w w' (is_high above f t e) = record { used = ap (λ (x : AnalysisState). x.used) e; antecedents = ap (λ (x : AnalysisState). x.antecedents) e }
same_one s top r w w' (is_lower above f t e) = record { used = ap (λ (x : AnalysisState). x.used) e; antecedents = ap (λ (x : AnalysisState). x.antecedents) e }

same_all : (s : PropagationState) (top : ℕ) (rs : List ℕ) (w : AnalysisState) → Same w (with_seen_literals s.nodes top rs w)
same_all s top [] w = record { used = refl; antecedents = refl }
same_all s top (r ∷ rs) w =
    let w1 : AnalysisState = with_seen_literal s.nodes top r w in
    let x : Same w w1 = same_one s top r w w1 (meets s top r w) in
    let y : Same w1 (with_seen_literals s.nodes top rs w1) = same_all s top rs w1 in
    record { used = y.used ∙ x.used; antecedents = y.antecedents ∙ x.antecedents }

-- the invariant holds after the literals of the falsified clause were met
pub collecting_began : (words : List ℕ) (s : PropagationState) (e : Conflict) (w : AnalysisState) → StateIsConsistent s → FlagsAreClear w.flags → length w.flags ≡ length s.values → ((k : ℕ) → k < length (conflict_lits words e) → IsFalseBefore s (length s.trail.lits) (get_or (conflict_lits words e) k 0)) →
    CollectionInvariant words s e (with_seen_literals s.nodes (current_level s) (conflict_lits words e) (begun_analysis e w)) (length s.trail.lits)
collecting_began words s e w a clear size h =
    let w1 : AnalysisState = begun_analysis e w in
    let w2 : AnalysisState = with_seen_literals s.nodes (current_level s) (conflict_lits words e) w1 in
    let none : SeenAreListed s [] w.flags (length s.trail.lits) = record {
      distinct = λ j k p q i. absurd (omega arith);
      within = λ v c. absurd (omega (arith, c.1));
      flagged = λ v t. absurd (both_ways (get_or w.flags v false) (clear v) t);
      passed = λ v c. absurd (omega (arith, c.1));
    } in
    let l : Lists s (length s.trail.lits) (conflict_lits words e) w1 w2 = lists_all s (current_level s) (length s.trail.lits) (conflict_lits words e) w1 a h size none in
    let m : Same w1 w2 = same_all s (current_level s) (conflict_lits words e) w1 in
    record {
      listed = l.listed;
      seen = record {
        only = λ v c. elim (l.only v c) [ inl x ↦ absurd (omega (arith, x.1)) | inr y ↦ seen_in_conflict y ];
        all = λ v x. all_began words s (conflict_lits words e) w2.used w2.seen v m.used l.has x;
      };
      needed = λ k lt. absurd (omega (arith, ap (λ (us : List ℕ). length us) m.used));
      antecedents = m.antecedents ∙ sym (append-nil (long_falsified e)) ∙ ap (λ (us : List ℕ). long_falsified e ++ longs_of s us) (sym m.used);
    }
  where
    all_began : (words : List ℕ) (s : PropagationState) (conflict used seen : List ℕ) (v : ℕ) → used ≡ [] → ((u : ℕ) → HasLitAboveLevelZero s conflict u → Contains seen u) → IsSeenVariable words s conflict used v → Contains seen v
    all_began words s conflict used seen v none has (seen_in_conflict y) = has v y
    all_began words s conflict used seen v none has (seen_in_reason l c y) = absurd (omega (arith, c.1, ap (λ (xs : List ℕ). length xs) none))

-- if another literal of the current level is still flagged, it was met
other_met : (words : List ℕ) (s : PropagationState) (e : Conflict) (w : AnalysisState) (p at : ℕ) → StateIsConsistent s → CollectionInvariant words s e w at → IsLastFlagged s w.flags p at → at ≤ length s.trail.lits →
    OpenPlace s (current_level s) (set w.flags (variable (lit_at s p)) false) p → HasEarlierSeenLit words s (conflict_lits words e) w.used (lit_at s p)
other_met words s e w p at a c h le o = record {
  other = lit_at s o.place;
  seen = c.seen.only (variable (lit_at s o.place)) (c.listed.flagged (variable (lit_at s o.place)) (lowered w.flags (variable (lit_at s p)) (variable (lit_at s o.place)) o.flagged));
  top = at_current s o.place a (omega (arith, o.before, h.before)) o.high;
  before = omega (arith, a.depths o.place (omega (arith, o.before, h.before)), a.depths p (omega (arith, h.before)), o.before);
}

needed_more : (words : List ℕ) (s : PropagationState) (conflict used : List ℕ) (l : ℕ) → ResolutionsAreNeeded words s conflict used → HasEarlierSeenLit words s conflict used l → ResolutionsAreNeeded words s conflict (used ++ l ∷ [])
needed_more words s conflict used l n o k lt = elim (cases_eq k (length used)) [
  | inl e ↦ subst (λ z. HasEarlierSeenLit words s conflict (take k (used ++ l ∷ [])) z) (sym (get_or_push used l 0 k (sym e)))
      (subst (λ (us : List ℕ). HasEarlierSeenLit words s conflict us l) (sym (take_at used (l ∷ []) k (sym e))) o)
  | inr d ↦
      let b : k < length used = omega (arith, length_push used l) in
      subst (λ z. HasEarlierSeenLit words s conflict (take k (used ++ l ∷ [])) z) (sym (get_or_append_left used (l ∷ []) 0 k b))
      (subst (λ (us : List ℕ). HasEarlierSeenLit words s conflict us (get_or used k 0)) (sym (take-append-le k used (l ∷ []) (omega arith))) (n k b))
]

-- resolving one literal preserves the invariant
pub collecting_taken : (words : List ℕ) (s : PropagationState) (e : Conflict) (w : AnalysisState) (p at : ℕ) → StateIsConsistent s → CollectionInvariant words s e w at → IsLastFlagged s w.flags p at → at ≤ length s.trail.lits → length w.flags ≡ length s.values →
    ((k : ℕ) → k < length (causes_at words s (lit_at s p)) → IsFalseBefore s p (get_or (causes_at words s (lit_at s p)) k 0)) →
    OpenPlace s (current_level s) (set w.flags (variable (lit_at s p)) false) p →
    CollectionInvariant words s e (with_seen_literals s.nodes (current_level s) (causes_at words s (lit_at s p)) (with_reason_used (node s (lit_at s p)).reason (lit_at s p) w)) p
collecting_taken words s e w p at a c h le size before o =
    let l : ℕ = lit_at s p in
    let rs : List ℕ = causes_at words s l in
    let w1 : AnalysisState = with_reason_used (node s l).reason l w in
    let w2 : AnalysisState = with_seen_literals s.nodes (current_level s) rs w1 in
    let x : Lists s p rs w1 w2 = lists_all s (current_level s) p rs w1 a before (length-set w.flags (variable l) false ∙ size) (listed_passed s w p at h.before le c.listed) in
    let m : Same w1 w2 = same_all s (current_level s) rs w1 in
    let used : w2.used ≡ w.used ++ l ∷ [] = m.used in
    record {
      listed = x.listed;
      seen = record {
        only = λ v y. subst (λ (us : List ℕ). IsSeenVariable words s (conflict_lits words e) us v) (sym used) (elim (x.only v y) [
          | inl z ↦ met_more words s (conflict_lits words e) w.used l v (c.seen.only v z)
          | inr z ↦ seen_in_reason l (Contains-push w.used l) z
        ]);
        all = λ v y. all_taken words s (conflict_lits words e) w.used w.seen w2.seen l v c.seen.all x.stays x.has (subst (λ (us : List ℕ). IsSeenVariable words s (conflict_lits words e) us v) used y);
      };
      needed = subst (λ (us : List ℕ). ResolutionsAreNeeded words s (conflict_lits words e) us) (sym used)
          (needed_more words s (conflict_lits words e) w.used l c.needed (other_met words s e w p at a c h le o));
      antecedents = m.antecedents ∙ ap (λ (xs : List ℕ). xs ++ long_of (node s l).reason) c.antecedents ∙ append_assoc (long_falsified e) (longs_of s w.used) (long_of (node s l).reason)
          ∙ ap (λ (xs : List ℕ). long_falsified e ++ xs) (sym (longs_push s w.used l)) ∙ ap (λ (us : List ℕ). long_falsified e ++ longs_of s us) (sym used);
    }
  where
    met_more : (words : List ℕ) (s : PropagationState) (conflict used : List ℕ) (l v : ℕ) → IsSeenVariable words s conflict used v → IsSeenVariable words s conflict (used ++ l ∷ []) v
    met_more words s conflict used l v (seen_in_conflict y) = seen_in_conflict y
    met_more words s conflict used l v (seen_in_reason q c y) = seen_in_reason q (Contains-append_left used (l ∷ []) q c) y

    all_taken : (words : List ℕ) (s : PropagationState) (conflict used old new : List ℕ) (l v : ℕ) → ((u : ℕ) → IsSeenVariable words s conflict used u → Contains old u) → ((u : ℕ) → Contains old u → Contains new u) →
        ((u : ℕ) → HasLitAboveLevelZero s (causes_at words s l) u → Contains new u) → IsSeenVariable words s conflict (used ++ l ∷ []) v → Contains new v
    all_taken words s conflict used old new l v before stays has (seen_in_conflict y) = stays v (before v (seen_in_conflict y))
    all_taken words s conflict used old new l v before stays has (seen_in_reason q c y) = elim (push_cases used l q c) [
      | inl b ↦ stays v (before v (seen_in_reason q b y))
      | inr i ↦ has v (subst (λ z. HasLitAboveLevelZero s (causes_at words s z) v) (sym i) y)
    ]

pub collected : (words : List ℕ) (s : PropagationState) (e : Conflict) (w w' : AnalysisState) (at : ℕ) → CollectionInvariant words s e w at → w'.seen ≡ w.seen → w'.used ≡ w.used → w'.antecedents ≡ w.antecedents → CollectionResult words s e w'
collected words s e w w' at c seen used antecedents = record {
  distinct = subst (λ (xs : List ℕ). AreDistinct xs) (sym seen) c.listed.distinct;
  within = λ v x. c.listed.within v (subst (λ (xs : List ℕ). Contains xs v) seen x);
  seen = subst (λ (us : List ℕ). AreSeen words s (conflict_lits words e) us w'.seen) (sym used) (subst (λ (xs : List ℕ). AreSeen words s (conflict_lits words e) w.used xs) (sym seen) c.seen);
  needed = subst (λ (us : List ℕ). ResolutionsAreNeeded words s (conflict_lits words e) us) (sym used) c.needed;
  antecedents = antecedents ∙ c.antecedents ∙ ap (λ (us : List ℕ). long_falsified e ++ longs_of s us) (sym used);
}
