-- Complete propagation at a level, and models.
use Rattle.std.proofs.Common.{ℕ, ◌≡◌, ◌≢◌, ◌+◌, ◌<◌, ◌≤◌, ◌⊎◌, inl, inr, suc, zero, List, length, get_or, refl, sym, ap, ◌∙◌, subst, arith, Bool, true, false, not, Option, Some}
use Rattle.std.proofs.lemmas.Bool.{cases_eq}
use Rattle.std.specs.List.{Contains}
use Rattle.sat_base.specs.values.Literals.{variable, is_positive, negated}
use Rattle.sat_store.specs.clause.Buffer.{lits_at}
use Rattle.sat_parts.specs.clause.Db.{live_refs}
use Rattle.sat_parts.specs.clause.Stored.{lit_of, size_of}
use Rattle.sat_parts.specs.prop.Values.{value_of, IsTrueLit, IsFalseLit}
use Rattle.sat_parts.specs.prop.WatchLists.{WatchState}
use Rattle.sat_parts.specs.prop.State.{PropagationState, level, current_level, HasLeftQueue, StateIsConsistent, IsSatisfied}
use Rattle.sat_parts.specs.prop.Propagation.{PropagationInvariant, PropagationPrecondition}
use Rattle.sat_parts.proofs.lemmas.prop.StateLemmas.{level_low, true_from_false}
use Rattle.sat_parts.specs.parts.Levels.{IsTrueByLevel, IsPropagatedByLevel}

-- if the queue is empty, every true literal has left it
pub left_all : (s : PropagationState) (l : ℕ) → StateIsConsistent s → s.trail.head ≡ length s.trail.lits → IsTrueLit s.values l → HasLeftQueue s l
left_all s l h done x = elim (h.known l x) [
  | inl y ↦ inl (record { place = y.place; before = omega (arith, y.within); within = y.within; there = y.there })
  | inr y ↦ inr y
]

other_of_two : (m : ℕ) → (i : ℕ) × ((i < 2) × (i ≢ m))
other_of_two m = elim (cases_eq m 0) [ inl e ↦ (1, (omega arith, λ f. omega arith)) | inr n ↦ (0, (omega arith, λ f. n (sym f))) ]

complete_where : (words refs : List ℕ) (w : WatchState) (implied : List (List ℕ)) (s : PropagationState) (top j : ℕ) → PropagationInvariant words refs w implied s top → j < top → ((l : ℕ) → IsTrueByLevel s j l → HasLeftQueue s l) →
    IsPropagatedByLevel words (live_refs words refs) implied s j
complete_where words refs w implied s top j h below left = record {
  long = λ o m c all.
      let i = other_of_two m in
      let three : 3 ≤ size_of words o = h.clauses.long o c in
      let f : IsTrueByLevel s j (negated (lit_of words o i.0)) = all i.0 (omega (arith, i.1.0)) i.1.1 in
      let x : IsSatisfied s (lits_at words o) (level s (negated (lit_of words o i.0))) = h.settled o i.0 c i.1.0 (left (negated (lit_of words o i.0)) f) (omega (arith, f.1)) in
      (x.place, (x.within, (x.holds, omega (arith, x.low, f.1))));
  binary = λ l k b f.
      let x = h.binary l k (left l f) (omega (arith, f.1)) b in
      (x.0, omega (arith, x.1, f.1));
}

-- if the queue is empty, propagation is complete at the current level
pub complete_now : (words refs : List ℕ) (w : WatchState) (implied : List (List ℕ)) (s : PropagationState) → PropagationPrecondition words refs w implied s → s.trail.head ≡ length s.trail.lits →
    IsPropagatedByLevel words (live_refs words refs) implied s (current_level s)
complete_now words refs w implied s h done = complete_where words refs w implied s (current_level s + 1) (current_level s) h (omega arith) (λ l x. left_all s l h.agrees done x.0)

same_or_not : (x y : Bool) → (x ≡ y) ⊎ (x ≡ not y)
same_or_not true true = inl refl
same_or_not true false = inr refl
same_or_not false true = inr refl
same_or_not false false = inl refl

true_or_false : (values : List (Option Bool)) (l : ℕ) (b : Bool) → value_of values (variable l) ≡ Some b → IsTrueLit values l ⊎ IsFalseLit values l
true_or_false values l b e = elim (same_or_not b (is_positive l)) [ inl x ↦ inl (e ∙ ap (λ (z : Bool). Some z) x) | inr x ↦ inr (e ∙ ap (λ (z : Bool). Some z) x) ]

-- one of the first n literals is true, or all of them are false
some_true : (values : List (Option Bool)) (ls : List ℕ) (n : ℕ) → ((k : ℕ) → k < n → (b : Bool) × (value_of values (variable (get_or ls k 0)) ≡ Some b)) →
    ((k : ℕ) × ((k < n) × IsTrueLit values (get_or ls k 0))) ⊎ ((k : ℕ) → k < n → IsFalseLit values (get_or ls k 0))
some_true values ls zero all = inr (λ k b. absurd (omega arith))
some_true values ls (suc n) all =
    let v = all n (omega arith) in
    elim (some_true values ls n (λ k b. all k (omega arith))) [
      | inl x ↦ inl (x.0, (omega (arith, x.1.0), x.1.1))
      | inr none ↦ elim (true_or_false values (get_or ls n 0) v.0 v.1) [
        | inl t ↦ inl (n, (omega arith, t))
        | inr f ↦ inr (λ k b. elim (cases_eq k n) [ inl e ↦ subst (λ i. IsFalseLit values (get_or ls i 0)) (sym e) f | inr d ↦ none k (omega arith) ])
      ]
    ]

-- if the queue is empty, a live clause with all its variables assigned has a true literal
pub model_found : (words refs : List ℕ) (w : WatchState) (implied : List (List ℕ)) (s : PropagationState) (o : ℕ) → PropagationPrecondition words refs w implied s → s.trail.head ≡ length s.trail.lits → Contains (live_refs words refs) o →
    ((k : ℕ) → k < size_of words o → (b : Bool) × (value_of s.values (variable (lit_of words o k)) ≡ Some b)) → (k : ℕ) × ((k < size_of words o) × IsTrueLit s.values (lit_of words o k))
model_found words refs w implied s o h done c all =
    elim (some_true s.values (lits_at words o) (size_of words o) all) [
      | inl x ↦ x
      | inr none ↦
          let at : IsPropagatedByLevel words (live_refs words refs) implied s (current_level s) = complete_now words refs w implied s h done in
          let x = at.long o 0 c (λ k b n.
          let t : IsTrueLit s.values (negated (lit_of words o k)) = true_from_false s.values (lit_of words o k) (none k b) in
          (t, level_low s (negated (lit_of words o k)) h.agrees t)) in
          (x.0, (x.1.0, x.1.1.0))
    ]
