-- Tests along lists of literals.
use Rattle.std.proofs.Common.{ℕ, zero, suc, ◌+◌, ◌<◌, ◌≤◌, ◌≡◌, Bool, true, false, eqb, List, [], ◌∷◌, ◌++◌, length, drop, take, get_or, map, refl, sym, ap, subst, ◌∙◌, arith, inl, inr, ◌||◌}
use Rattle.std.proofs.lemmas.Bool.{eqb-true, or_cases, true≢false}
use Rattle.std.proofs.lemmas.List.{drop_more}
use Rattle.std.specs.List.{list_any, AllByRecursion}
use Rattle.sat_base.specs.values.Literals.{negated}
use Rattle.sat_checker.specs.LiteralSets.{is_among, is_subset_of}
use Rattle.sat_checker.proofs.lemmas.sets.Subsets.{all_true, each_true}

module _ (test : ℕ → Bool) (ls : List ℕ) (i : ℕ) (inside : i < length ls) where
  pub any_found : test (get_or ls i 0) ≡ true → list_any test (drop i ls) ≡ true
  any_found t = rw (drop_more ls i 0 inside) (rw t refl)

  pub any_passed : test (get_or ls i 0) ≡ false → list_any test (drop i ls) ≡ list_any test (drop (i + 1) ls)
  any_passed t = rw (drop_more ls i 0 inside) (rw t refl)

-- whether some remaining literal passes, given the first of them
pub first_test : (test : ℕ → Bool) (ls : List ℕ) (i l : ℕ) → i < length ls → l ≡ get_or ls i l → list_any test (drop i ls) ≡ (test l || list_any test (drop (i + 1) ls))
first_test test ls i l inside e = ap (list_any test) (drop_more ls i l inside) ∙ ap (λ m. test m || list_any test (drop (i + 1) ls)) (sym e)

pub ruleset any_literal = (any_found, any_passed)

-- one more literal is negated
pub negated_more : (ls : List ℕ) (i d : ℕ) → i < length ls → map negated (take (i + 1) ls) ≡ map negated (take i ls) ++ negated (get_or ls i d) ∷ []
negated_more ls i d l = let m : i + 1 ≡ suc i = omega arith in ap (λ k. map negated (take k ls)) m ∙ go ls i l
  where
    go : (ms : List ℕ) (j : ℕ) → j < length ms → map negated (take (suc j) ms) ≡ map negated (take j ms) ++ negated (get_or ms j d) ∷ []
    go [] j k = absurd (omega arith)
    go (m ∷ ms) zero k = refl
    go (m ∷ ms) (suc j) k = ap (λ xs. negated m ∷ xs) (go ms j (omega arith))

pub negated_all : (ls : List ℕ) (i : ℕ) → length ls ≤ i → map negated (take i ls) ≡ map negated ls
negated_all [] zero l = refl
negated_all [] (suc i) l = refl
negated_all (x ∷ xs) zero l = absurd (omega arith)
negated_all (x ∷ xs) (suc i) l = ap (λ ys. negated x ∷ ys) (negated_all xs i (omega arith))

pub ruleset negating = (negated_more, negated_all)

-- flags that imply each other are equal; `is_subset_of` depends only on the members
implies_same : (a b : Bool) → (a ≡ true → b ≡ true) → (b ≡ true → a ≡ true) → a ≡ b
implies_same true true f g = refl
implies_same false false f g = refl
implies_same true false f g = absurd (true≢false (sym (f refl)))
implies_same false true f g = absurd (true≢false (sym (g refl)))

one_of : (test : ℕ → Bool) (ls : List ℕ) (l : ℕ) → AllByRecursion (λ m. test m ≡ true) ls → is_among ls l ≡ true → test l ≡ true
one_of test [] l h k = absurd (true≢false (sym k))
one_of test (x ∷ xs) l h k = elim (or_cases (eqb x l) (is_among xs l) k) [ inl e ↦ subst (λ y. test y ≡ true) (eqb-true x l e) h.0 | inr m ↦ one_of test xs l h.1 m ]

part_of : (xs ys us vs : List ℕ) → ((l : ℕ) → is_among us l ≡ is_among xs l) → ((l : ℕ) → is_among vs l ≡ is_among ys l) → is_subset_of xs ys ≡ true → is_subset_of us vs ≡ true
part_of xs ys us vs s t h = all_true (is_among vs) us (λ l m. t l ∙ one_of (is_among ys) xs l (each_true (is_among ys) xs h) (sym (s l) ∙ m))

pub same_part : (xs ys us vs : List ℕ) → ((l : ℕ) → is_among us l ≡ is_among xs l) → ((l : ℕ) → is_among vs l ≡ is_among ys l) → is_subset_of us vs ≡ is_subset_of xs ys
same_part xs ys us vs s t = implies_same (is_subset_of us vs) (is_subset_of xs ys) (part_of us vs xs ys (λ l. sym (s l)) (λ l. sym (t l))) (part_of xs ys us vs s t)
