-- The effect of an unassigned literal that becomes true.
use Rattle.std.proofs.Common.{ℕ, ◌≡◌, ◌≢◌, ◌+◌, ◌<◌, ◌≤◌, ◌⊎◌, inl, inr, List, [], ◌∷◌, ◌++◌, length, get_or, set, refl, sym, ap, ◌∙◌, subst, arith, length-set, get_or-set_same, get_or-set_other, Bool, not, Option, Some, None}
use Rattle.std.proofs.lemmas.Bool.{cases_eq}
use Rattle.std.proofs.lemmas.Bool.Decides.{nat_tests}
use Rattle.std.proofs.lemmas.List.{get_or_append_left, get_or_push, length_push}
use Rattle.sat_base.specs.values.Literals.{variable, is_positive, negated}
use Rattle.sat_parts.specs.declared.prop.graph.ImplNode.{ImplNode}
use Rattle.sat_parts.specs.declared.prop.graph.Reason.{Reason}
use Rattle.sat_parts.specs.prop.Values.{IsTrueLit, IsFalseLit, IsUnassignedLit, value_of}
use Rattle.sat_parts.specs.prop.Trails.{IsTrail, IsAtLevel}
use Rattle.sat_parts.specs.prop.Graphs.{enqueued_node, new_node}
use Rattle.sat_parts.specs.prop.State.{PropagationState, node, level, current_level, lit_at, IsRemovedUnit, IsOnTrailBefore, HasLeftQueue, StateIsConsistent, IsQueueCurrent, enqueued, TrailGrows, IsSatisfied}

pub negated_variable : (l : ℕ) → variable (negated l) ≡ variable l
negated_variable l = omega arith

pub negated_twice : (l : ℕ) → negated (negated l) ≡ l
negated_twice l = omega arith

negated_sign : (l : ℕ) → not (is_positive (negated l)) ≡ is_positive l
negated_sign l = grind (arith, nat_tests)

negated_sign' : (l : ℕ) → is_positive (negated l) ≡ not (is_positive l)
negated_sign' l = grind (arith, nat_tests)

-- the negation of a true literal is false, and vice versa
pub false_from_true : (values : List (Option Bool)) (l : ℕ) → IsTrueLit values l → IsFalseLit values (negated l)
false_from_true values l h = ap (λ v. value_of values v) (negated_variable l) ∙ h ∙ ap (λ (b : Bool). Some b) (sym (negated_sign l))

pub true_from_false : (values : List (Option Bool)) (l : ℕ) → IsFalseLit values l → IsTrueLit values (negated l)
true_from_false values l h = ap (λ v. value_of values v) (negated_variable l) ∙ h ∙ ap (λ (b : Bool). Some b) (sym (negated_sign' l))

same_sign : (b : Bool) → b ≡ not b → ⊥
same_sign b e = grind (arith, nat_tests)

some_back : (x y : Bool) → Some x ≡ Some y → x ≡ y
some_back x y e = cc

pub not_both : (values : List (Option Bool)) (l : ℕ) → IsTrueLit values l → IsFalseLit values l → ⊥
not_both values l t f = same_sign (is_positive l) (some_back (is_positive l) (not (is_positive l)) (sym t ∙ f))

some_none : {b : Bool} {o : Option Bool} → o ≡ Some b → o ≡ None → ⊥
some_none p q = (let e : Some _ ≡ None = sym p ∙ q in cc)

-- an assigned literal and an unassigned one have different variables
pub open_other : (values : List (Option Bool)) (l m : ℕ) → IsUnassignedLit values l → IsTrueLit values m → variable m ≢ variable l
open_other values l m n t e = some_none t (ap (λ v. value_of values v) e ∙ n)

pub lit_from_parts : (m l : ℕ) → variable m ≡ variable l → is_positive m ≡ is_positive l → m ≡ l
lit_from_parts m l v p = grind (arith, nat_tests)

-- the literals on the trail stay, and l is appended
pub lit_front : (s : PropagationState) (l : ℕ) (r : Reason) (i : ℕ) → i < length s.trail.lits → lit_at (enqueued l r s) i ≡ lit_at s i
lit_front s l r i h = get_or_append_left s.trail.lits (l ∷ []) 0 i h

pub lit_last : (s : PropagationState) (l : ℕ) (r : Reason) → lit_at (enqueued l r s) (length s.trail.lits) ≡ l
lit_last s l r = get_or_push s.trail.lits l 0 (length s.trail.lits) refl

pub true_kept : (s : PropagationState) (l m : ℕ) (r : Reason) → IsUnassignedLit s.values l → IsTrueLit s.values m → IsTrueLit (enqueued l r s).values m
true_kept s l m r n t = get_or-set_other s.values (variable l) (variable m) (Some (is_positive l)) None (open_other s.values l m n t) ∙ t

pub node_kept : (s : PropagationState) (l m : ℕ) (r : Reason) → IsUnassignedLit s.values l → IsTrueLit s.values m → node (enqueued l r s) m ≡ node s m
node_kept s l m r n t = get_or-set_other s.nodes (variable l) (variable m) (enqueued_node s.trail r) new_node (open_other s.values l m n t)

pub true_new : (s : PropagationState) (l : ℕ) (r : Reason) → variable l < length s.values → IsTrueLit (enqueued l r s).values l
true_new s l r h = get_or-set_same s.values (variable l) (Some (is_positive l)) None h

pub node_new : (s : PropagationState) (l : ℕ) (r : Reason) → variable l < length s.nodes → node (enqueued l r s) l ≡ enqueued_node s.trail r
node_new s l r h = get_or-set_same s.nodes (variable l) (enqueued_node s.trail r) new_node h

-- a literal that is true after l became true is l, or was true before
pub true_back : (s : PropagationState) (l m : ℕ) (r : Reason) → variable l < length s.values → IsTrueLit (enqueued l r s).values m → (m ≡ l) ⊎ ((variable m ≢ variable l) × IsTrueLit s.values m)
true_back s l m r h t = elim (cases_eq (variable m) (variable l)) [
  | inl e ↦
      let a : Some (is_positive m) ≡ Some (is_positive l) = sym t ∙ ap (λ v. value_of (enqueued l r s).values v) e ∙ true_new s l r h in
      inl (lit_from_parts m l e (some_back (is_positive m) (is_positive l) a))
  | inr n ↦ inr (n, sym (get_or-set_other s.values (variable l) (variable m) (Some (is_positive l)) None n) ∙ t)
]

trail_enqueued : (s : PropagationState) (l : ℕ) (r : Reason) → IsTrail s.trail → length s.trail.lits < s.trail.room → IsTrail (enqueued l r s).trail
trail_enqueued s l r t room =
    let n : length (s.trail.lits ++ l ∷ []) ≡ length s.trail.lits + 1 = length_push s.trail.lits l in
    let q : s.trail.head ≤ length s.trail.lits = t.queue in
    record {
      queue = omega arith;
      levels = record { within = λ k h. omega (arith, t.levels.within k h, n); rising = λ j k p h. t.levels.rising j k p h };
      fits = omega arith;
      small = t.small;
      counted = t.counted;
    }

-- an unassigned literal that becomes true preserves `StateIsConsistent`
pub agrees_enqueued : (s : PropagationState) (l : ℕ) (r : Reason) → StateIsConsistent s → IsUnassignedLit s.values l → variable l < length s.values → length s.trail.lits < s.trail.room → StateIsConsistent (enqueued l r s)
agrees_enqueued s l r h n below room =
    let size : length (s.trail.lits ++ l ∷ []) ≡ length s.trail.lits + 1 = length_push s.trail.lits l in
    let values : length (set s.values (variable l) (Some (is_positive l))) ≡ length s.values = length-set s.values (variable l) (Some (is_positive l)) in
    let nodes : length (set s.nodes (variable l) (enqueued_node s.trail r)) ≡ length s.nodes = length-set s.nodes (variable l) (enqueued_node s.trail r) in
    let in_nodes : variable l < length s.nodes = omega (arith, h.nodes) in
    let t : PropagationState = enqueued l r s in
    let last : lit_at t (length s.trail.lits) ≡ l = lit_last s l r in
    let old : (i : ℕ) → i < length s.trail.lits → IsTrueLit s.values (lit_at s i) = h.holds in
    record {
      trail = trail_enqueued s l r h.trail room;
      nodes = nodes ∙ h.nodes ∙ sym values;
      room = omega (arith, h.room);
      holds = λ i p. elim (cases_eq i (length s.trail.lits)) [
        | inl e ↦ subst (λ (m : ℕ). IsTrueLit t.values m) (sym (ap (λ x. lit_at t x) e ∙ last)) (true_new s l r below)
        | inr d ↦
            let q : i < length s.trail.lits = omega arith in
            subst (λ (m : ℕ). IsTrueLit t.values m) (sym (lit_front s l r i q)) (true_kept s l (lit_at s i) r n (old i q))
      ];
      depths = λ i p. elim (cases_eq i (length s.trail.lits)) [
        | inl e ↦ ap (λ m. (node t m).depth) (ap (λ x. lit_at t x) e ∙ last) ∙ ap (λ (x : ImplNode). x.depth) (node_new s l r in_nodes) ∙ ap (λ x. x + 1) (sym e)
        | inr d ↦
            let q : i < length s.trail.lits = omega arith in
            ap (λ m. (node t m).depth) (lit_front s l r i q) ∙ ap (λ (x : ImplNode). x.depth) (node_kept s l (lit_at s i) r n (old i q)) ∙ h.depths i q
      ];
      levels = λ i p. elim (cases_eq i (length s.trail.lits)) [
        | inl e ↦
            let v : level t (lit_at t i) ≡ length s.trail.starts = ap (λ m. (node t m).level) (ap (λ x. lit_at t x) e ∙ last) ∙ ap (λ (x : ImplNode). x.level) (node_new s l r in_nodes) in
            record { within = omega arith; begun = λ k b. omega (arith, h.trail.levels.within k (omega arith), e); not_begun = λ k b c. absurd (omega arith) }
        | inr d ↦
            let q : i < length s.trail.lits = omega arith in
            let v : level s (lit_at s i) ≡ level t (lit_at t i) = sym (ap (λ m. (node t m).level) (lit_front s l r i q) ∙ ap (λ (x : ImplNode). x.level) (node_kept s l (lit_at s i) r n (old i q))) in
            subst (λ (x : ℕ). IsAtLevel s.trail.starts i x) v (h.levels i q)
      ];
      known = λ m p. elim (true_back s l m r below p) [
        | inl e ↦ inl (record { place = length s.trail.lits; before = omega arith; within = omega arith; there = last ∙ sym e })
        | inr d ↦ elim (h.known m d.1) [
          | inl b ↦ inl (record { place = b.place; before = omega (arith, b.before); within = omega (arith, b.within); there = lit_front s l r b.place b.within ∙ b.there })
          | inr x ↦ inr (record {
            holds = p;
            depth = ap (λ (y : ImplNode). y.depth) (node_kept s l m r n d.1) ∙ x.depth;
            bottom = ap (λ (y : ImplNode). y.level) (node_kept s l m r n d.1) ∙ x.bottom;
          })
        ]
      ];
    }

pub grows_enqueued : (s : PropagationState) (l : ℕ) (r : Reason) → StateIsConsistent s → IsUnassignedLit s.values l → variable l < length s.values → length s.trail.lits < s.trail.room → TrailGrows s (enqueued l r s)
grows_enqueued s l r h n below room =
    let size : length (s.trail.lits ++ l ∷ []) ≡ length s.trail.lits + 1 = length_push s.trail.lits l in
    let in_nodes : variable l < length s.nodes = omega (arith, h.nodes) in
    record {
      size = length-set s.values (variable l) (Some (is_positive l));
      starts = refl;
      cleared = refl;
      room = refl;
      longer = omega arith;
      front = λ i p. lit_front s l r i p;
      kept = λ m t. true_kept s l m r n t;
      nodes = λ m t. node_kept s l m r n t;
      removed = λ m x. elim (true_back s l m r below x.holds) [
        | inl e ↦
            let d : length s.trail.lits + 1 ≡ 4294967295 = sym (ap (λ (y : ImplNode). y.depth) (node_new s l r in_nodes)) ∙ ap (λ y. (node (enqueued l r s) y).depth) (sym e) ∙ x.depth in
            absurd (omega (arith, h.trail.small))
        | inr d ↦ record {
          holds = d.1;
          depth = sym (ap (λ (y : ImplNode). y.depth) (node_kept s l m r n d.1)) ∙ x.depth;
          bottom = sym (ap (λ (y : ImplNode). y.level) (node_kept s l m r n d.1)) ∙ x.bottom;
        }
      ];
    }

pub grows_refl : (s : PropagationState) → TrailGrows s s
grows_refl s = record {
  size = refl;
  starts = refl;
  cleared = refl;
  room = refl;
  longer = omega arith;
  front = λ i p. refl;
  kept = λ l t. t;
  nodes = λ l t. refl;
  removed = λ l x. x;
}

pub grows_trans : (a b c : PropagationState) → TrailGrows a b → TrailGrows b c → TrailGrows a c
grows_trans a b c x y = record {
  size = y.size ∙ x.size;
  starts = y.starts ∙ x.starts;
  cleared = y.cleared ∙ x.cleared;
  room = y.room ∙ x.room;
  longer = omega (arith, x.longer, y.longer);
  front = λ i p. y.front i (omega (arith, x.longer)) ∙ x.front i p;
  kept = λ l t. y.kept l (x.kept l t);
  nodes = λ l t. y.nodes l (x.kept l t) ∙ x.nodes l t;
  removed = λ l r. x.removed l (y.removed l r);
}

pub removed_forth : (a b : PropagationState) (l : ℕ) → TrailGrows a b → IsRemovedUnit a l → IsRemovedUnit b l
removed_forth a b l g r = record {
  holds = g.kept l r.holds;
  depth = ap (λ (y : ImplNode). y.depth) (g.nodes l r.holds) ∙ r.depth;
  bottom = ap (λ (y : ImplNode). y.level) (g.nodes l r.holds) ∙ r.bottom;
}

pub before_forth : (a b : PropagationState) (bound l : ℕ) → TrailGrows a b → IsOnTrailBefore a bound l → IsOnTrailBefore b bound l
before_forth a b bound l g h = record { place = h.place; before = h.before; within = omega (arith, h.within, g.longer); there = g.front h.place h.within ∙ h.there }

pub before_back : (a b : PropagationState) (bound l : ℕ) → TrailGrows a b → bound ≤ length a.trail.lits → IsOnTrailBefore b bound l → IsOnTrailBefore a bound l
before_back a b bound l g m h =
    let p : h.place < length a.trail.lits = omega (arith, h.before) in
    record { place = h.place; before = h.before; within = p; there = sym (g.front h.place p) ∙ h.there }

pub left_forth : (a b : PropagationState) (l : ℕ) → TrailGrows a b → b.trail.head ≡ a.trail.head → HasLeftQueue a l → HasLeftQueue b l
left_forth a b l g e h = elim h [
  | inl x ↦ inl (subst (λ (y : ℕ). IsOnTrailBefore b y l) (sym e) (before_forth a b a.trail.head l g x))
  | inr x ↦ inr (removed_forth a b l g x)
]

pub left_back : (a b : PropagationState) (l : ℕ) → TrailGrows a b → b.trail.head ≡ a.trail.head → IsTrail a.trail → HasLeftQueue b l → HasLeftQueue a l
left_back a b l g e t h = elim h [
  | inl x ↦ inl (before_back a b a.trail.head l g t.queue (subst (λ (y : ℕ). IsOnTrailBefore b y l) e x))
  | inr x ↦ inr (g.removed l x)
]

pub level_kept : (a b : PropagationState) (l : ℕ) → TrailGrows a b → IsTrueLit a.values l → level b l ≡ level a l
level_kept a b l g t = ap (λ (y : ImplNode). y.level) (g.nodes l t)

pub satisfied_forth : (a b : PropagationState) (ls : List ℕ) (bound : ℕ) → TrailGrows a b → IsSatisfied a ls bound → IsSatisfied b ls bound
satisfied_forth a b ls bound g h = record {
  place = h.place;
  within = h.within;
  holds = g.kept (get_or ls h.place 0) h.holds;
  low = omega (arith, h.low, level_kept a b (get_or ls h.place 0) g h.holds);
}

-- a literal that has left the queue is true
pub left_true : (s : PropagationState) (l : ℕ) → StateIsConsistent s → HasLeftQueue s l → IsTrueLit s.values l
left_true s l h x = elim x [
  | inl b ↦ subst (λ (m : ℕ). IsTrueLit s.values m) b.there (h.holds b.place b.within)
  | inr r ↦ r.holds
]

-- no true literal is above the current level
pub level_low : (s : PropagationState) (l : ℕ) → StateIsConsistent s → IsTrueLit s.values l → level s l ≤ current_level s
level_low s l h t = elim (h.known l t) [
  | inl b ↦
      let e : level s (lit_at s b.place) ≡ level s l = ap (λ m. level s m) b.there in
      omega (arith, (h.levels b.place b.within).within)
  | inr r ↦ omega (arith, r.bottom)
]

pub queue_enqueued : (s : PropagationState) (l : ℕ) (r : Reason) → StateIsConsistent s → IsQueueCurrent s → IsUnassignedLit s.values l → variable l < length s.values → IsQueueCurrent (enqueued l r s)
queue_enqueued s l r h q n below i p b =
    let size : length (s.trail.lits ++ l ∷ []) ≡ length s.trail.lits + 1 = length_push s.trail.lits l in
    let in_nodes : variable l < length s.nodes = omega (arith, h.nodes) in
    let t : PropagationState = enqueued l r s in
    elim (cases_eq i (length s.trail.lits)) [
      | inl e ↦ ap (λ m. (node t m).level) (ap (λ x. lit_at t x) e ∙ lit_last s l r) ∙ ap (λ (x : ImplNode). x.level) (node_new s l r in_nodes)
      | inr d ↦
          let k : i < length s.trail.lits = omega arith in
          ap (λ m. (node t m).level) (lit_front s l r i k) ∙ ap (λ (x : ImplNode). x.level) (node_kept s l (lit_at s i) r n (h.holds i k)) ∙ q i p k
    ]
