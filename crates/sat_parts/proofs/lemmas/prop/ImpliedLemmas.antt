-- Assigned literals follow from clauses, units and decisions.
use Rattle.std.proofs.Common.{ℕ, ◌≡◌, ◌<◌, inl, inr, suc, zero, List, length, get_or, refl, sym, ap, ◌∙◌, subst, arith, Bool, true}
use Rattle.std.proofs.lemmas.Bool.{cases_eq}
use Rattle.std.proofs.lemmas.Bool.Decides.{nat_tests}
use Rattle.sat_base.specs.values.Clauses.{literal_true}
use Rattle.sat_base.specs.values.Literals.{negated}
use Rattle.sat_parts.specs.declared.prop.graph.Reason.{Reason}
use Rattle.sat_parts.specs.declared.prop.graph.Reason.TheVariants.{Unit as NoCause, Binary, Long}
use Rattle.sat_parts.specs.clause.Stored.{lit_of, size_of}
use Rattle.sat_parts.specs.prop.Binaries.{implied_by}
use Rattle.sat_parts.specs.prop.State.{PropagationState, node, lit_at}
use Rattle.sat_parts.specs.prop.Reasons.{IsFalseBefore, ReasonImplies, ReasonsAreUnit}
use Rattle.sat_parts.specs.prop.Implied.{IsModelOf, AssignedIsImplied}
use Rattle.sat_parts.proofs.lemmas.clause.ListLemmas.{at_place}

-- a literal and its negation are not both true
both_signs : (v : ℕ → Bool) (l : ℕ) → literal_true v l ≡ true → literal_true v (negated l) ≡ true → ⊥
both_signs v l a b = grind (arith, nat_tests)

-- `HoldsBefore s v n` holds if the valuation satisfies the literals before position `n`.
abbrev HoldsBefore : (s : PropagationState) (v : ℕ → Bool) (n : ℕ) → Type 0
HoldsBefore s v n = (i : ℕ) → i < n → i < length s.trail.lits → literal_true v (lit_at s i) ≡ true

false_before : (words live : List ℕ) (implied : List (List ℕ)) (s : PropagationState) (v : ℕ → Bool) (n l : ℕ) → IsModelOf words live implied s v → HoldsBefore s v n → IsFalseBefore s n l →
    literal_true v (negated l) ≡ true
false_before words live implied s v n l m h x = elim x [
  | inl b ↦ subst (λ z. literal_true v z ≡ true) b.there (h b.place b.before b.within)
  | inr r ↦ m.removed (negated l) r
]

next_holds : (words live : List ℕ) (implied : List (List ℕ)) (s : PropagationState) (v : ℕ → Bool) (n : ℕ) (r : Reason) → IsModelOf words live implied s v → HoldsBefore s v n → n < length s.trail.lits →
    (node s (lit_at s n)).reason ≡ r → ReasonImplies words live implied s n r → literal_true v (lit_at s n) ≡ true
next_holds words live implied s v n NoCause m h lt e x = m.given n lt e
next_holds words live implied s v n (Binary ls) m h lt e x =
    let l : ℕ = negated (get_or ls 0 0) in
    let at : get_or (implied_by implied l) x.0.0 0 ≡ lit_at s n = at_place (implied_by implied l) (lit_at s n) x.0 in
    subst (λ z. literal_true v z ≡ true) at (m.binary l x.0.0 x.0.1 (false_before words live implied s v n (get_or ls 0 0) m h x.1))
next_holds words live implied s v n (Long o) m h lt e x =
    let w : (k : ℕ) × ((k < size_of words o) × (literal_true v (lit_of words o k) ≡ true)) = m.long o x.0 in
    elim (cases_eq w.0 0) [
      | inl q ↦ subst (λ z. literal_true v z ≡ true) (ap (λ k. lit_of words o k) q ∙ x.1) w.1.1
      | inr d ↦ absurd (both_signs v (lit_of words o w.0) w.1.1 (false_before words live implied s v n (lit_of words o w.0) m h (x.2 w.0 (omega arith) w.1.0)))
    ]

all_hold : (words live : List ℕ) (implied : List (List ℕ)) (s : PropagationState) (v : ℕ → Bool) (n : ℕ) → ReasonsAreUnit words live implied s 0 → IsModelOf words live implied s v → HoldsBefore s v n
all_hold words live implied s v zero t m i a b = absurd (omega arith)
all_hold words live implied s v (suc n) t m i a b =
    let before : HoldsBefore s v n = all_hold words live implied s v n t m in
    elim (cases_eq i n) [
      | inl e ↦
          let lt : n < length s.trail.lits = omega arith in
          subst (λ z. literal_true v (lit_at s z) ≡ true) (sym e) (next_holds words live implied s v n (node s (lit_at s n)).reason m before lt refl (t n (omega arith) lt))
      | inr d ↦ before i (omega arith) b
    ]

pub assigned_is_implied : AssignedIsImplied
assigned_is_implied words live implied s v a t m l holds = elim (a.known l holds) [
  | inl b ↦ subst (λ z. literal_true v z ≡ true) b.there (all_hold words live implied s v (length s.trail.lits) t m b.place b.within b.within)
  | inr r ↦ m.removed l r
]
