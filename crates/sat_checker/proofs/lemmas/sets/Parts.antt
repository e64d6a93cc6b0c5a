-- Lists without repeats, and their parts.
use Rattle.std.proofs.Common.{ℕ, suc, ◌+◌, ◌<◌, ◌≤◌, ◌≡◌, ◌∙◌, Bool, true, false, not, ◌&&◌, eqb, ltb, List, [], ◌∷◌, length, drop, get_or, refl, sym, ap, subst, arith, inl, inr}
use Rattle.std.proofs.lemmas.Bool.{and_parts, or_cases, or_left, or_right, eqb-true, eq-eqb, true≢false}
use Rattle.std.proofs.lemmas.Bool.Decides.{nat_tests}
use Rattle.std.proofs.lemmas.List.{drop_more}
use Rattle.std.specs.List.{list_all}
use Rattle.sat_checker.specs.LiteralSets.{is_among, is_subset_of, canonical, same_literals}
use Rattle.sat_checker.specs.inner.Marks.{NoRepeats, IsIncreasing}
use Rattle.sat_checker.proofs.lemmas.meaning.Clauses.{same, same_from}
use Rattle.sat_checker.proofs.lemmas.sets.Canonical.{canonical_among, canonical_increasing, same_increasing}
use Rattle.sat_checker.proofs.lemmas.sets.Marks.{once}
use Rattle.sat_checker.proofs.lemmas.sets.Rooms.{few}
use Rattle.sat_checker.proofs.lemmas.sets.Subsets.{all_true}
use Rattle.sat_checker.proofs.lemmas.sets.Trails.{same_tests}

-- whether all remaining literals pass, given the first of them
module _ (test : ℕ → Bool) (ls : List ℕ) (i : ℕ) (inside : i < length ls) where
  pub all_failed : test (get_or ls i 0) ≡ false → list_all test (drop i ls) ≡ false
  all_failed t = rw (drop_more ls i 0 inside) (rw t refl)

  pub all_passed : test (get_or ls i 0) ≡ true → list_all test (drop i ls) ≡ list_all test (drop (i + 1) ls)
  all_passed t = rw (drop_more ls i 0 inside) (rw t refl)

pub ruleset each_literal = (all_failed, all_passed)

-- a member of one list that is not in the other
pub record Missing (xs ys : List ℕ) : Type 0 where
  pub literal : ℕ
  pub within : is_among xs literal ≡ true
  pub outside : is_among ys literal ≡ false

pub missing : (xs ys : List ℕ) → is_subset_of xs ys ≡ false → Missing xs ys
missing [] ys h = absurd (true≢false h)
missing (x ∷ xs) ys h = go (is_among ys x) refl h (missing xs ys)
  where
    go : (b : Bool) → is_among ys x ≡ b → (b && is_subset_of xs ys) ≡ false → (is_subset_of xs ys ≡ false → Missing xs ys) → Missing (x ∷ xs) ys
    go false e k ih = record { literal = x; within = or_left (eqb x x) (is_among xs x) (eq-eqb x x refl); outside = e }
    go true e k ih = let m = ih k in record { literal = m.literal; within = or_right (eqb x m.literal) (is_among xs m.literal) m.within; outside = m.outside }

pub member : (xs ys : List ℕ) (l : ℕ) → is_subset_of xs ys ≡ true → is_among xs l ≡ true → is_among ys l ≡ true
member [] ys l h k = absurd (true≢false (sym k))
member (x ∷ xs) ys l h k = let p = and_parts (is_among ys x) (is_subset_of xs ys) h in elim (or_cases (eqb x l) (is_among xs l) k) [ inl e ↦ subst (λ y. is_among ys y ≡ true) (eqb-true x l e) p.0 | inr m ↦ member xs ys l p.1 m ]

-- a part that is at least as long contains everything
pub whole : (xs ys : List ℕ) → NoRepeats xs → is_subset_of xs ys ≡ true → length ys ≤ length xs → is_subset_of ys xs ≡ true
whole xs ys n p l = go (is_subset_of ys xs) refl
  where
    go : (b : Bool) → is_subset_of ys xs ≡ b → b ≡ true
    go true e = refl
    go false e =
        let m = missing ys xs e in
        let k : suc (length xs) ≤ length ys = few (m.literal ∷ xs) ys (m.outside, n) (λ l h. elim (or_cases (eqb m.literal l) (is_among xs l) h) [ inl e ↦ subst (λ y. is_among ys y ≡ true) (eqb-true m.literal l e) m.within | inr a ↦ member xs ys l p a ]) in
        absurd (omega (arith, l, k))

shorter : (xs ys : List ℕ) → NoRepeats xs → is_subset_of xs ys ≡ true → length xs ≤ length ys
shorter xs ys n p = few xs ys n (λ l. member xs ys l p)

-- lists of equal length are the same set if one is a part of the other
pub same_set : (xs ys : List ℕ) → IsIncreasing xs → NoRepeats ys → length xs ≡ length ys → is_subset_of xs ys ≡ same_literals xs (canonical ys)
same_set xs ys up n e = same_tests (is_subset_of xs ys) (same_literals xs (canonical ys)) to back
  where
    to : is_subset_of xs ys ≡ true → same_literals xs (canonical ys) ≡ true
    to p =
        let q = whole xs ys (once xs up) p (omega (arith, e)) in
        same_from xs (canonical ys) (same_increasing xs (canonical ys) up (canonical_increasing ys) (λ l. same_tests (is_among xs l) (is_among ys l) (member xs ys l p) (member ys xs l q) ∙ sym (canonical_among ys l)))

    back : same_literals xs (canonical ys) ≡ true → is_subset_of xs ys ≡ true
    back s = all_true (is_among ys) xs (λ l m. sym (canonical_among ys l) ∙ ap (λ zs. is_among zs l) (sym (same xs (canonical ys) s)) ∙ m)

pub other_length : (xs ys : List ℕ) → NoRepeats ys → (length xs ≡ length ys → ⊥) → same_literals xs (canonical ys) ≡ false
other_length xs ys n e = go (same_literals xs (canonical ys)) refl
  where
    go : (b : Bool) → same_literals xs (canonical ys) ≡ b → b ≡ false
    go false s = refl
    go true s =
        let q = same xs (canonical ys) s in
        let a : length ys ≤ length (canonical ys) = few ys (canonical ys) n (λ l m. canonical_among ys l ∙ m) in
        let b : length (canonical ys) ≤ length ys = few (canonical ys) ys (once (canonical ys) (canonical_increasing ys)) (λ l m. sym (canonical_among ys l) ∙ m) in
        let l : length xs ≡ length (canonical ys) = ap length q in
        absurd (e (omega (arith, a, b, l)))

pub not_less : (x y : ℕ) → y ≤ x → ltb x y ≡ false
not_less x y l = grind (arith, nat_tests)

-- a shorter part is a strict part
pub strict_part : (xs ys : List ℕ) → NoRepeats ys → length xs < length ys → is_subset_of xs ys ≡ (is_subset_of xs ys && not (is_subset_of ys xs))
strict_part xs ys n l = go (is_subset_of xs ys) (is_subset_of ys xs) refl
  where
    go : (p q : Bool) → is_subset_of ys xs ≡ q → p ≡ (p && not q)
    go false q b = refl
    go true false b = refl
    go true true b = let k = shorter ys xs n b in absurd (omega (arith, l, k))

pub no_strict_part : (xs ys : List ℕ) → NoRepeats xs → length ys ≤ length xs → false ≡ (is_subset_of xs ys && not (is_subset_of ys xs))
no_strict_part xs ys n l = go (is_subset_of xs ys) refl
  where
    go : (p : Bool) → is_subset_of xs ys ≡ p → false ≡ (p && not (is_subset_of ys xs))
    go false a = refl
    go true a = ap not (sym (whole xs ys n a l))

-- lists with the same members have the same sorted set
pub same_canonical : (xs ys : List ℕ) → ((l : ℕ) → is_among xs l ≡ is_among ys l) → canonical xs ≡ canonical ys
same_canonical xs ys e = same_increasing (canonical xs) (canonical ys) (canonical_increasing xs) (canonical_increasing ys) (λ l. canonical_among xs l ∙ e l ∙ sym (canonical_among ys l))
