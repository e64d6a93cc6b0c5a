-- Lists without repeats, in another order.
use Rattle.std.proofs.Common.{ℕ, ◌≡◌, false, eqb, List, [], ◌∷◌, reverse, refl, ◌∙◌}
use Rattle.std.proofs.lemmas.Bool.{or_parts, or_from}
use Rattle.std.proofs.lemmas.List.Sorted.{IsPermutation-reverse, IsNonDecreasingBy-from_sort}
use Rattle.std.proofs.lemmas.Map.Keys.{IsDistinct-head, IsDistinct-tail, IsDistinct-IsPermutation, IsStrictlyIncreasing-from_distinct, sorted_from_strictly_increasing}
use Rattle.std.specs.List.{AllByRecursion, IsDistinct}
use Rattle.std.specs.List.Sorted.{IsPermutation, IsSorted}
use Rattle.std.specs.Ordering.{nat_cmp}
use Rattle.sat_checker.specs.LiteralSets.{is_among}
use Rattle.sat_checker.specs.inner.Marks.{NoRepeats, IsIncreasing}
use Rattle.sat_checker.proofs.lemmas.sets.Canonical.{increasing_from_sorted}
use Rattle.sat_checker.proofs.lemmas.store.Places.{eqb_comm}

distinct_from : (xs : List ℕ) → NoRepeats xs → IsDistinct eqb xs
unfolding IsDistinct
distinct_from [] h = tt
distinct_from (x ∷ xs) h = (differ xs h.0, distinct_from xs h.1)
  where
    differ : (ys : List ℕ) → is_among ys x ≡ false → AllByRecursion (λ y. eqb x y ≡ false) ys
    differ [] e = tt
    differ (y ∷ ys) e = let p = or_parts (eqb y x) (is_among ys x) e in (eqb_comm x y ∙ p.0, differ ys p.1)

once_from : (xs : List ℕ) → IsDistinct eqb xs → NoRepeats xs
once_from [] h = tt
once_from (x ∷ xs) h = (differ xs (IsDistinct-head eqb x xs h), once_from xs (IsDistinct-tail eqb x xs h))
  where
    differ : (ys : List ℕ) → AllByRecursion (λ y. eqb x y ≡ false) ys → is_among ys x ≡ false
    differ [] k = refl
    differ (y ∷ ys) k = or_from (eqb y x) (is_among ys x) (eqb_comm y x ∙ k.0) (differ ys k.1)

pub once_permuted : (xs ys : List ℕ) → IsPermutation xs ys → NoRepeats xs → NoRepeats ys
once_permuted xs ys p h = once_from ys (IsDistinct-IsPermutation eqb eqb_comm xs ys p (distinct_from xs h))

pub once_reversed : (xs : List ℕ) → NoRepeats xs → NoRepeats (reverse xs)
once_reversed xs = once_permuted xs (reverse xs) (IsPermutation-reverse xs)

-- sorting a list without repeats gives an increasing list
pub sorted_increasing : (xs sorted : List ℕ) → NoRepeats xs → IsPermutation xs sorted → IsSorted nat_cmp sorted → IsIncreasing sorted
sorted_increasing xs sorted n p s =
    increasing_from_sorted sorted
    (sorted_from_strictly_increasing sorted (IsStrictlyIncreasing-from_distinct sorted (IsNonDecreasingBy-from_sort (λ x. x) sorted s) (IsDistinct-IsPermutation eqb eqb_comm xs sorted p (distinct_from xs n))))
