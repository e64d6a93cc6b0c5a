-- Lists and maps after one change.
use Rattle.std.proofs.Common.{◌≡◌, ℕ, ◌<◌, List, [], ◌∷◌, ◌++◌, length, get_or, cond, eqb, inl, inr, ap, ◌∙◌, sym, arith, length-append, Option, None, Some}
use Rattle.std.proofs.lemmas.List.{get_or_append_left, get_or_at, get_or_past}
use Rattle.std.proofs.lemmas.Bool.{cases_eq, cases_lt, eq-eqb, ne_eqb}

pub pushed : {A : Type 0} (xs : List A) (v i : ℕ) (x d : A) → i ≡ length xs → get_or (xs ++ x ∷ []) v d ≡ cond (eqb v i) x (get_or xs v d)
pushed xs v i x d e = elim (cases_lt v (length xs)) [
  | inl within ↦ get_or_append_left xs (x ∷ []) d v within ∙ sym (ap (λ b. cond b x (get_or xs v d)) (ne_eqb v i (λ y. omega arith)))
  | inr past ↦ elim (cases_eq v (length xs)) [
    | inl last ↦ get_or_at xs x [] d v (sym last) ∙ sym (ap (λ b. cond b x (get_or xs v d)) (eq-eqb v i (last ∙ sym e)))
    | inr beyond ↦ get_or_past (xs ++ x ∷ []) v d (omega (arith, length-append xs (x ∷ []))) ∙ sym (get_or_past xs v d past) ∙ sym (ap (λ b. cond b x (get_or xs v d)) (ne_eqb v i (λ y. omega arith)))
  ]
]

-- a key that is mapped is below the length of the list
pub some_within : (xs : List (Option ℕ)) (v u : ℕ) → get_or xs v None ≡ Some u → v < length xs
some_within xs v u e = elim (cases_lt v (length xs)) [ inl lt ↦ lt | inr past ↦ absurd (differ (get_or xs v None) (get_or_past xs v None past) e) ]
  where
    differ : (o : Option ℕ) → o ≡ None → o ≡ Some u → ⊥
    differ o f g = cc
