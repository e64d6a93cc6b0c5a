-- A complete assignment satisfies every live clause.
use Rattle.std.proofs.Common.{ℕ, zero, suc, ◌%◌, ◌<◌, ◌≡◌, Bool, true, false, not, ◌||◌, eqb, Option, Some, None, List, [], ◌∷◌, length, slice_index_or, refl, sym, ◌∙◌, ap, arith, ◌⊎◌, inl, inr}
use Rattle.std.proofs.lemmas.Bool.{or_left, or_right, cases_eq, true≢false}
use Rattle.std.specs.List.{list_any}
use Rattle.sat_base.specs.values.Literals.{negated, is_positive, variable}
use Rattle.sat_store.specs.clause.Buffer.{lits_at}
use Rattle.sat_parts.specs.prop.Values.{value_of, IsTrueLit, IsFalseLit, IsUnassignedLit}
use Rattle.sat_parts.specs.prop.Binaries.{implied_by}
use Rattle.sat_solver.specs.session.AnswerFacts.{same_value, is_true, CompleteIsModel}

same_itself : (b : Bool) → same_value b (Some b) ≡ true
same_itself true = refl
same_itself false = refl

pub true_lit : (values : List (Option Bool)) (l : ℕ) → IsTrueLit values l → is_true values l ≡ true
true_lit values l t = ap (same_value (is_positive l)) t ∙ same_itself (is_positive l)

-- a literal is true, false or open
data Three (values : List (Option Bool)) (l : ℕ) : Type 0 where
  it_is_true : is_true values l ≡ true → Three values l
  it_is_false : IsFalseLit values l → Three values l
  it_is_open : IsUnassignedLit values l → Three values l

three : (values : List (Option Bool)) (l : ℕ) → Three values l
three values l = go (is_positive l) refl (value_of values (variable l)) refl
  where
    go : (b : Bool) → is_positive l ≡ b → (o : Option Bool) → value_of values (variable l) ≡ o → Three values l
    go b p None e = it_is_open e
    go true p (Some true) e = it_is_true (ap (same_value (is_positive l)) e ∙ ap (λ x. same_value x (Some true)) p)
    go true p (Some false) e = it_is_false (e ∙ ap (λ x. Some (not x)) (sym p))
    go false p (Some true) e = it_is_false (e ∙ ap (λ x. Some (not x)) (sym p))
    go false p (Some false) e = it_is_true (ap (same_value (is_positive l)) e ∙ ap (λ x. same_value x (Some false)) p)

-- a clause without open literals has a true one, or all of them are false
some_true : (values : List (Option Bool)) (ls : List ℕ) → ((k : ℕ) → k < length ls → IsUnassignedLit values (slice_index_or ls k 0) → ⊥)
    → (list_any (is_true values) ls ≡ true) ⊎ ((k : ℕ) → k < length ls → IsFalseLit values (slice_index_or ls k 0))
some_true values [] h = inr (λ k n. absurd (omega arith))
some_true values (l ∷ ls) h = go (three values l) (some_true values ls (λ k n. h (suc k) (omega arith)))
  where
    both : IsFalseLit values l → ((k : ℕ) → k < length ls → IsFalseLit values (slice_index_or ls k 0)) → (k : ℕ) → k < length (l ∷ ls) → IsFalseLit values (slice_index_or (l ∷ ls) k 0)
    both f g zero n = f
    both f g (suc k) n = g k (omega arith)

    go : Three values l → (list_any (is_true values) ls ≡ true) ⊎ ((k : ℕ) → k < length ls → IsFalseLit values (slice_index_or ls k 0))
        → (list_any (is_true values) (l ∷ ls) ≡ true) ⊎ ((k : ℕ) → k < length (l ∷ ls) → IsFalseLit values (slice_index_or (l ∷ ls) k 0))
    go (it_is_true t) r = inl (or_left (is_true values l) (list_any (is_true values) ls) t)
    go (it_is_false f) r = elim r [ inl t ↦ inl (or_right (is_true values l) (list_any (is_true values) ls) t) | inr g ↦ inr (both f g) ]
    go (it_is_open o) r = absurd (h zero (omega arith) o)

-- the negation of a false literal is true
pub other_side : (values : List (Option Bool)) (l : ℕ) → IsFalseLit values l → is_true values (negated l) ≡ true
other_side values l f =
    let half : variable (negated l) ≡ variable l = omega arith in
    let sign : is_positive (negated l) ≡ not (is_positive l) = flip in
    ap (λ v. same_value (is_positive (negated l)) (value_of values v)) half ∙ ap (same_value (is_positive (negated l))) f ∙ ap (λ b. same_value b (Some (not (is_positive l)))) sign ∙ same_itself (not (is_positive l))
  where
    flip : is_positive (negated l) ≡ not (is_positive l)
    flip = elim (cases_eq (l % 2) 0) [
      | inl e ↦ let n : negated l % 2 ≡ 1 = omega arith in ap (λ x. eqb x 0) n ∙ sym (ap (λ x. not (eqb x 0)) e)
      | inr e ↦ let o : l % 2 ≡ 1 = omega arith in let n : negated l % 2 ≡ 0 = omega arith in ap (λ x. eqb x 0) n ∙ sym (ap (λ x. not (eqb x 0)) o)
    ]

pub lit_true : (values : List (Option Bool)) (l : ℕ) → is_true values l ≡ true → IsTrueLit values l
lit_true values l t = go (is_positive l) refl (value_of values (variable l)) refl (t)
  where
    wrong : false ≡ true → ⊥
    wrong e = true≢false (sym e)

    go : (b : Bool) → is_positive l ≡ b → (o : Option Bool) → value_of values (variable l) ≡ o → same_value (is_positive l) (value_of values (variable l)) ≡ true → IsTrueLit values l
    go b p None e t = absurd (wrong (sym (none b p e) ∙ t))
      where
        none : (b : Bool) → is_positive l ≡ b → value_of values (variable l) ≡ None → same_value (is_positive l) (value_of values (variable l)) ≡ false
        none b p e = ap (same_value (is_positive l)) e
    go true p (Some true) e t = e ∙ ap (λ x. Some x) (sym p)
    go true p (Some false) e t = absurd (wrong (sym (ap (same_value (is_positive l)) e ∙ ap (λ x. same_value x (Some false)) p) ∙ t))
    go false p (Some true) e t = absurd (wrong (sym (ap (same_value (is_positive l)) e ∙ ap (λ x. same_value x (Some true)) p) ∙ t))
    go false p (Some false) e t = e ∙ ap (λ x. Some x) (sym p)

pub complete_is_model : CompleteIsModel
complete_is_model words live implied values c a = (
  λ o k. elim (some_true values (lits_at words o) (λ i n. a.long o i k n)) [ inl t ↦ t | inr f ↦ absurd (c.not_falsified o k f) ],
  λ l k n. pick l k n (three values l),
)
  where
    pick : (l k : ℕ) → k < length (implied_by implied l) → Three values l → list_any (is_true values) (negated l ∷ slice_index_or (implied_by implied l) k 0 ∷ []) ≡ true
    pick l k n (it_is_true t) = or_right (is_true values (negated l)) (is_true values (slice_index_or (implied_by implied l) k 0) || false) (or_left (is_true values (slice_index_or (implied_by implied l) k 0)) false (true_lit values (slice_index_or (implied_by implied l) k 0) (c.binary l k n (lit_true values l t))))
    pick l k n (it_is_false f) = or_left (is_true values (negated l)) (is_true values (slice_index_or (implied_by implied l) k 0) || false) (other_side values l f)
    pick l k n (it_is_open o) = absurd (a.binary l k n o)
