-- Reasons stay valid while the trail grows and the literals of clauses are permuted.
use Rattle.std.proofs.Common.{ℕ, ◌≡◌, false, ◌+◌, ◌<◌, ◌≤◌, inl, inr, List, [], ◌∷◌, ◌++◌, length, get_or, refl, sym, ap, ◌∙◌, subst, arith}
use Rattle.std.proofs.lemmas.Bool.{cases_eq, cases_lt}
use Rattle.std.proofs.lemmas.List.{length_push}
use Rattle.std.specs.List.{Contains}
use Rattle.sat_base.specs.values.Literals.{variable, negated}
use Rattle.sat_store.specs.clause.Buffer.{lits_at}
use Rattle.sat_parts.specs.declared.prop.graph.ImplNode.{ImplNode}
use Rattle.sat_parts.specs.declared.prop.graph.Reason.{Reason}
use Rattle.sat_parts.specs.declared.prop.graph.Reason.TheVariants.{Unit as NoCause, Binary, Long}
use Rattle.sat_parts.specs.clause.Orders.{PermutesClause}
use Rattle.sat_parts.specs.clause.Stored.{AreLongClauses, lit_of, size_of}
use Rattle.sat_parts.specs.prop.Values.{IsTrueLit, IsUnassignedLit}
use Rattle.sat_parts.specs.prop.Graphs.{has_no_clause}
use Rattle.sat_parts.specs.prop.State.{PropagationState, node, lit_at, StateIsConsistent, TrailGrows, enqueued}
use Rattle.sat_parts.specs.prop.Reasons.{HasClauseReason, IsFalseBefore, ReasonImplies, ReasonsAreUnit, TrailReasonsHaveLitFirst, PropagationEffect}
use Rattle.sat_parts.proofs.lemmas.clause.OrderLemmas.{reorders_refl, reorders_trans, reorders_one}
use Rattle.sat_parts.proofs.lemmas.prop.StateLemmas.{before_forth, removed_forth, grows_refl, grows_trans, grows_enqueued, lit_front, lit_last, node_kept, node_new, true_new}

pub false_before_forth : (a b : PropagationState) (bound l : ℕ) → TrailGrows a b → IsFalseBefore a bound l → IsFalseBefore b bound l
false_before_forth a b bound l g h = elim h [
  | inl x ↦ inl (before_forth a b bound (negated l) g x)
  | inr x ↦ inr (removed_forth a b (negated l) g x)
]

pub implies_forth : (words live : List ℕ) (implied : List (List ℕ)) (a b : PropagationState) (i : ℕ) (r : Reason) → TrailGrows a b → i < length a.trail.lits → ReasonImplies words live implied a i r → ReasonImplies words live implied b i r
implies_forth words live implied a b i NoCause g p h = tt
implies_forth words live implied a b i (Binary ls) g p h =
    (subst (λ (m : ℕ). Contains (get_or implied (negated (get_or ls 0 0)) []) m) (sym (g.front i p)) h.0, false_before_forth a b i (get_or ls 0 0) g h.1)
implies_forth words live implied a b i (Long o) g p h =
    (h.0, h.1 ∙ sym (g.front i p), λ k x y. false_before_forth a b i (lit_of words o k) g (h.2 k x y))

-- a literal on the trail keeps its reason while the trail grows
pub caused_forth : (a b : PropagationState) (i : ℕ) → TrailGrows a b → i < length a.trail.lits → HasClauseReason a i → HasClauseReason b i
caused_forth a b i g p h =
    let e : lit_at b i ≡ lit_at a i = g.front i p in (
      subst (λ (m : ℕ). IsTrueLit b.values m) (sym e) (g.kept (lit_at a i) h.0),
      ap (λ m. has_no_clause (node b m).reason) e ∙ ap (λ (z : ImplNode). has_no_clause z.reason) (g.nodes (lit_at a i) h.0) ∙ h.1,
    )

pub moves_refl : (live : List ℕ) (implied : List (List ℕ)) (words : List ℕ) (s : PropagationState) → PropagationEffect live implied words s words s
moves_refl live implied words s = record {
  grows = grows_refl s;
  reorders = reorders_refl words live;
  firsts = λ o h t. refl;
  caused = λ i p q. absurd (omega arith);
  reasons = λ from p h. h;
}

pub moves_trans : (live : List ℕ) (implied : List (List ℕ)) (u : List ℕ) (a : PropagationState) (v : List ℕ) (b : PropagationState) (w : List ℕ) (c : PropagationState) → PropagationEffect live implied u a v b → PropagationEffect live implied v b w c → PropagationEffect live implied u a w c
moves_trans live implied u a v b w c x y = record {
  grows = grows_trans a b c x.grows y.grows;
  reorders = reorders_trans u v w live x.reorders y.reorders;
  firsts = λ o h t.
      let e : lit_of v o 0 ≡ lit_of u o 0 = x.firsts o h t in
      y.firsts o h (subst (λ (m : ℕ). IsTrueLit b.values m) (sym e) (x.grows.kept (lit_of u o 0) t)) ∙ e;
  caused = λ i p q. elim (cases_lt i (length b.trail.lits)) [
    | inl lt ↦ caused_forth b c i y.grows lt (x.caused i p lt)
    | inr le ↦ y.caused i le q
  ];
  reasons = λ from p h. y.reasons from (omega (arith, x.grows.longer)) (x.reasons from p h);
}

-- an unassigned literal becomes true by a unit clause
pub moves_enqueued : (live : List ℕ) (implied : List (List ℕ)) (words : List ℕ) (s : PropagationState) (l : ℕ) (r : Reason) →
    StateIsConsistent s → IsUnassignedLit s.values l → variable l < length s.values → length s.trail.lits < s.trail.room →
    has_no_clause r ≡ false → ReasonImplies words live implied (enqueued l r s) (length s.trail.lits) r →
    PropagationEffect live implied words s words (enqueued l r s)
moves_enqueued live implied words s l r h n below room clause cause =
    let t : PropagationState = enqueued l r s in
    let g : TrailGrows s t = grows_enqueued s l r h n below room in
    let size : length (s.trail.lits ++ l ∷ []) ≡ length s.trail.lits + 1 = length_push s.trail.lits l in
    record {
      grows = g;
      reorders = reorders_refl words live;
      firsts = λ o p q. refl;
      caused = λ i p q.
          let e : i ≡ length s.trail.lits = omega arith in
          let there : lit_at t i ≡ l = ap (λ m. lit_at t m) e ∙ lit_last s l r in (
            subst (λ (m : ℕ). IsTrueLit t.values m) (sym there) (true_new s l r below),
            ap (λ m. has_no_clause (node t m).reason) there ∙ ap (λ (z : ImplNode). has_no_clause z.reason) (node_new s l r (omega (arith, h.nodes))) ∙ clause,
          );
      reasons = λ from p q i x y. elim (cases_eq i (length s.trail.lits)) [
        | inl e ↦
            let f : (node t (lit_at t i)).reason ≡ r = ap (λ m. (node t (lit_at t m)).reason) e ∙ ap (λ m. (node t m).reason) (lit_last s l r) ∙ ap (λ (z : ImplNode). z.reason) (node_new s l r (omega (arith, h.nodes))) in
            subst (λ (z : Reason). ReasonImplies words live implied t i z) (sym f) (subst (λ (z : ℕ). ReasonImplies words live implied t z r) (sym e) cause)
        | inr d ↦
            let k : i < length s.trail.lits = omega arith in
            let f : (node t (lit_at t i)).reason ≡ (node s (lit_at s i)).reason = ap (λ m. (node t m).reason) (lit_front s l r i k) ∙ ap (λ (z : ImplNode). z.reason) (node_kept s l (lit_at s i) r n (h.holds i k)) in
            subst (λ (z : Reason). ReasonImplies words live implied t i z) (sym f) (implies_forth words live implied s t i (node s (lit_at s i)).reason g k (q i x k))
      ];
    }

-- the literals of one clause are permuted, and a true first literal stays first
pub implies_shuffled : (words words' live : List ℕ) (implied : List (List ℕ)) (s : PropagationState) (p i : ℕ) (r : Reason) (count : ℕ) →
    AreLongClauses words live count → Contains live p → PermutesClause words words' p →
    (IsTrueLit s.values (lit_of words p 0) → lit_of words' p 0 ≡ lit_of words p 0) → IsTrueLit s.values (lit_at s i) →
    ReasonImplies words live implied s i r → ReasonImplies words' live implied s i r
implies_shuffled words words' live implied s p i NoCause count c g e first holds h = tt
implies_shuffled words words' live implied s p i (Binary ls) count c g e first holds h = h
implies_shuffled words words' live implied s p i (Long o) count c g e first holds h = elim (cases_eq p o) [
  | inl q ↦ subst (λ (x : ℕ). ReasonImplies words live implied s i (Long x) → ReasonImplies words' live implied s i (Long x)) q
      (λ f.
      let at_first : lit_of words' p 0 ≡ lit_of words p 0 = first (subst (λ (m : ℕ). IsTrueLit s.values m) (sym f.1) holds) in
      let size : size_of words' p ≡ size_of words p = e.lits.size in
      let long : 3 ≤ size_of words p = c.long p g in (
        f.0,
        at_first ∙ f.1,
        λ k x y.
            let m : (j : ℕ) × ((j < size_of words p) × (lit_of words p j ≡ lit_of words' p k)) = e.lits.back k (omega arith) in
            elim (cases_eq m.0 0) [
              | inl z ↦
                  let same : lit_of words' p k ≡ lit_of words' p 0 = sym m.1.1 ∙ ap (λ j. lit_of words p j) z ∙ sym at_first in
                  let k0 : k ≡ 0 = e.lits.apart (c.distinct p g) k 0 y (omega arith) same in
                  absurd (omega arith)
              | inr z ↦ subst (λ (l : ℕ). IsFalseBefore s i l) m.1.1 (f.2 m.0 (omega arith) m.1.0)
            ],
      ))
      h
  | inr n ↦
      let k : lits_at words' o ≡ lits_at words o = (e.others live o g c.holds_clauses h.0 n).lits in (
        h.0,
        ap (λ (ls : List ℕ). get_or ls 0 0) k ∙ h.1,
        λ j x y.
            subst (λ (l : ℕ). IsFalseBefore s i l) (sym (ap (λ (ls : List ℕ). get_or ls j 0) k)) (h.2 j x (subst (λ (ls : List ℕ). j < length ls) k y)),
      )
]

pub moves_shuffled : (live : List ℕ) (implied : List (List ℕ)) (words : List ℕ) (s : PropagationState) (words' : List ℕ) (p count : ℕ) →
    StateIsConsistent s → AreLongClauses words live count → Contains live p → PermutesClause words words' p →
    (IsTrueLit s.values (lit_of words p 0) → lit_of words' p 0 ≡ lit_of words p 0) →
    PropagationEffect live implied words s words' s
moves_shuffled live implied words s words' p count a c g e first = record {
  grows = grows_refl s;
  reorders = reorders_one words words' live p g e;
  firsts = λ o h t. elim (cases_eq p o) [
    | inl q ↦ subst (λ (x : ℕ). IsTrueLit s.values (lit_of words x 0) → lit_of words' x 0 ≡ lit_of words x 0) q first t
    | inr n ↦ ap (λ (ls : List ℕ). get_or ls 0 0) (e.others live o g c.holds_clauses h n).lits
  ];
  caused = λ i x y. absurd (omega arith);
  reasons = λ from x h i y z. implies_shuffled words words' live implied s p i (node s (lit_at s i)).reason count c g e first (a.holds i z) (h i y z);
}

from_long : (words live : List ℕ) (implied : List (List ℕ)) (s : PropagationState) (i o : ℕ) (r : Reason) → r ≡ Long o → ReasonImplies words live implied s i r → Contains live o × (lit_of words o 0 ≡ lit_at s i)
from_long words live implied s i o r e h =
    let f : ReasonImplies words live implied s i (Long o) = subst (λ (x : Reason). ReasonImplies words live implied s i x) e h in
    (f.0, f.1)

-- propagation keeps the literals of long reasons first
pub firsts_moved : (live : List ℕ) (implied : List (List ℕ)) (words : List ℕ) (s : PropagationState) (words' : List ℕ) (s' : PropagationState) →
    StateIsConsistent s → PropagationEffect live implied words s words' s' → TrailReasonsHaveLitFirst words live s → TrailReasonsHaveLitFirst words' live s'
firsts_moved live implied words s words' s' a m h i o p e = elim (cases_lt i (length s.trail.lits)) [
  | inl lt ↦
      let f : (node s' (lit_at s' i)).reason ≡ (node s (lit_at s i)).reason =
      ap (λ l. (node s' l).reason) (m.grows.front i lt) ∙ ap (λ (z : ImplNode). z.reason) (m.grows.nodes (lit_at s i) (a.holds i lt)) in
      let x : Contains live o × (lit_of words o 0 ≡ lit_at s i) = h i o lt (sym f ∙ e) in
      (x.0, m.firsts o x.0 (subst (λ (l : ℕ). IsTrueLit s.values l) (sym x.1) (a.holds i lt)) ∙ x.1 ∙ sym (m.grows.front i lt))
  | inr le ↦
      let none : ReasonsAreUnit words live implied s (length s.trail.lits) = λ j x y. absurd (omega arith) in
      from_long words' live implied s' i o (node s' (lit_at s' i)).reason e (m.reasons (length s.trail.lits) (omega arith) none i le p)
]
