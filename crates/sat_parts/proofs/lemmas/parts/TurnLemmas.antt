-- Reasons that stay unit in the order of the trail.
use Rattle.std.proofs.Common.{ℕ, ◌≡◌, ◌+◌, ◌<◌, inl, inr, List, [], ◌∷◌, length, ◌++◌, get_or, refl, sym, ap, ◌∙◌, subst, arith}
use Rattle.std.proofs.lemmas.Bool.{cases_eq}
use Rattle.std.proofs.lemmas.List.{length_push}
use Rattle.std.specs.List.{Contains}
use Rattle.sat_base.specs.values.Literals.{variable, negated}
use Rattle.sat_store.specs.clause.Buffer.{lits_at}
use Rattle.sat_parts.specs.declared.prop.graph.ImplNode.{ImplNode}
use Rattle.sat_parts.specs.declared.prop.graph.Reason.{Reason}
use Rattle.sat_parts.specs.declared.prop.graph.Reason.TheVariants.{Unit as NoCause, Binary, Long}
use Rattle.sat_parts.specs.clause.Stored.{lit_of}
use Rattle.sat_parts.specs.prop.Values.{IsUnassignedLit}
use Rattle.sat_parts.specs.prop.Binaries.{implied_by}
use Rattle.sat_parts.specs.prop.State.{PropagationState, node, level, lit_at, StateIsConsistent, TrailGrows, enqueued}
use Rattle.sat_parts.specs.prop.Reasons.{IsFalseBefore, ReasonImplies, ReasonsAreUnit}
use Rattle.sat_parts.proofs.lemmas.prop.StateLemmas.{grows_enqueued, lit_front, lit_last, node_kept, node_new}
use Rattle.sat_parts.proofs.lemmas.prop.ReasonLemmas.{implies_forth}
use Rattle.sat_parts.proofs.lemmas.prop.RoomLemmas.{room_for}
use Rattle.sat_parts.proofs.lemmas.prop.StepLemmas.{raised}
use Rattle.sat_parts.specs.parts.Round.{UnitsHaveNoReason}

-- a reason stays unit if its clause stays and the literals false before it stay false
pub implies_by : (words words' live live' : List ℕ) (implied implied' : List (List ℕ)) (s s' : PropagationState) (i : ℕ) (r : Reason) → lit_at s' i ≡ lit_at s i →
    ((m : ℕ) → IsFalseBefore s i m → IsFalseBefore s' i m) →
    ((o : ℕ) → r ≡ Long o → Contains live o → Contains live' o × (lits_at words' o ≡ lits_at words o)) →
    ((ls : List ℕ) → r ≡ Binary ls → Contains (implied_by implied (negated (get_or ls 0 0))) (lit_at s i) → Contains (implied_by implied' (negated (get_or ls 0 0))) (lit_at s i)) →
    ReasonImplies words live implied s i r → ReasonImplies words' live' implied' s' i r
implies_by words words' live live' implied implied' s s' i NoCause e f long binary h = tt
implies_by words words' live live' implied implied' s s' i (Binary ls) e f long binary h =
    (subst (λ (m : ℕ). Contains (implied_by implied' (negated (get_or ls 0 0))) m) (sym e) (binary ls refl h.0), f (get_or ls 0 0) h.1)
implies_by words words' live live' implied implied' s s' i (Long o) e f long binary h =
    let k : Contains live' o × (lits_at words' o ≡ lits_at words o) = long o refl h.0 in (
      k.0,
      ap (λ (ls : List ℕ). get_or ls 0 0) k.1 ∙ h.1 ∙ sym e,
      λ j x y.
          subst (λ (l : ℕ). IsFalseBefore s' i l) (sym (ap (λ (ls : List ℕ). get_or ls j 0) k.1)) (f (lit_of words o j) (h.2 j x (subst (λ (ls : List ℕ). j < length ls) k.1 y))),
    )

-- all reasons on the trail stay unit if only clauses change, and the clauses of the reasons stay
pub turns_by : (words words' live live' : List ℕ) (implied implied' : List (List ℕ)) (s : PropagationState) →
    ((i o : ℕ) → i < length s.trail.lits → (node s (lit_at s i)).reason ≡ Long o → Contains live o → Contains live' o × (lits_at words' o ≡ lits_at words o)) →
    ((i : ℕ) (ls : List ℕ) → i < length s.trail.lits → (node s (lit_at s i)).reason ≡ Binary ls →
    Contains (implied_by implied (negated (get_or ls 0 0))) (lit_at s i) → Contains (implied_by implied' (negated (get_or ls 0 0))) (lit_at s i)) →
    ReasonsAreUnit words live implied s 0 → ReasonsAreUnit words' live' implied' s 0
turns_by words words' live live' implied implied' s long binary h i p b =
    implies_by words words' live live' implied implied' s s i (node s (lit_at s i)).reason refl (λ m x. x) (λ o e. long i o b e) (λ ls e. binary i ls b e) (h i p b)

-- an unassigned literal becomes true by a unit clause
pub turns_enqueued : (words live : List ℕ) (implied : List (List ℕ)) (s : PropagationState) (l : ℕ) (r : Reason) → StateIsConsistent s → IsUnassignedLit s.values l → variable l < length s.values →
    ReasonImplies words live implied (enqueued l r s) (length s.trail.lits) r → ReasonsAreUnit words live implied s 0 → ReasonsAreUnit words live implied (enqueued l r s) 0
turns_enqueued words live implied s l r h n below cause x i p y =
    let t : PropagationState = enqueued l r s in
    let g : TrailGrows s t = grows_enqueued s l r h n below (room_for s l r h n below) in
    let size : length (s.trail.lits ++ l ∷ []) ≡ length s.trail.lits + 1 = length_push s.trail.lits l in
    elim (cases_eq i (length s.trail.lits)) [
      | inl e ↦
          let f : (node t (lit_at t i)).reason ≡ r = ap (λ m. (node t (lit_at t m)).reason) e ∙ ap (λ m. (node t m).reason) (lit_last s l r) ∙ ap (λ (z : ImplNode). z.reason) (node_new s l r (omega (arith, h.nodes))) in
          subst (λ (z : Reason). ReasonImplies words live implied t i z) (sym f) (subst (λ (z : ℕ). ReasonImplies words live implied t z r) (sym e) cause)
      | inr d ↦
          let k : i < length s.trail.lits = omega arith in
          let f : (node t (lit_at t i)).reason ≡ (node s (lit_at s i)).reason = ap (λ m. (node t m).reason) (lit_front s l r i k) ∙ ap (λ (z : ImplNode). z.reason) (node_kept s l (lit_at s i) r n (h.holds i k)) in
          subst (λ (z : Reason). ReasonImplies words live implied t i z) (sym f) (implies_forth words live implied s t i (node s (lit_at s i)).reason g k (x i p k))
    ]

-- a level begins
pub turns_raised : (words live : List ℕ) (implied : List (List ℕ)) (s : PropagationState) → ReasonsAreUnit words live implied s 0 → ReasonsAreUnit words live implied (raised s) 0
turns_raised words live implied s h i p b =
    implies_by words words live live implied implied s (raised s) i (node s (lit_at s i)).reason refl
    (λ m x. elim x [
      | inl y ↦ inl (record { place = y.place; before = y.before; within = y.within; there = y.there })
      | inr y ↦ inr (record { holds = y.holds; depth = y.depth; bottom = y.bottom })
    ])
    (λ o e c. (c, refl)) (λ ls e c. c) (h i p b)

-- a literal becomes true, at level 0 without a clause as its reason
pub units_enqueued : (s : PropagationState) (l : ℕ) (r : Reason) → StateIsConsistent s → IsUnassignedLit s.values l → variable l < length s.values → (length s.trail.starts ≡ 0 → r ≡ NoCause) → UnitsHaveNoReason s → UnitsHaveNoReason (enqueued l r s)
units_enqueued s l r h n below bottom x i b e =
    let t : PropagationState = enqueued l r s in
    let size : length (s.trail.lits ++ l ∷ []) ≡ length s.trail.lits + 1 = length_push s.trail.lits l in
    elim (cases_eq i (length s.trail.lits)) [
      | inl q ↦
          let there : lit_at t i ≡ l = ap (λ m. lit_at t m) q ∙ lit_last s l r in
          let at : level t (lit_at t i) ≡ length s.trail.starts = ap (λ m. level t m) there ∙ ap (λ (z : ImplNode). z.level) (node_new s l r (omega (arith, h.nodes))) in
          ap (λ m. (node t m).reason) there ∙ ap (λ (z : ImplNode). z.reason) (node_new s l r (omega (arith, h.nodes))) ∙ bottom (sym at ∙ e)
      | inr d ↦
          let k : i < length s.trail.lits = omega arith in
          let same : node t (lit_at t i) ≡ node s (lit_at s i) = ap (λ m. node t m) (lit_front s l r i k) ∙ node_kept s l (lit_at s i) r n (h.holds i k) in
          ap (λ (z : ImplNode). z.reason) same ∙ x i k (sym (ap (λ (z : ImplNode). z.level) same) ∙ e)
    ]
