-- What the result of a binary search in a sorted list means.
use Rattle.std.proofs.Common.{ℕ, zero, suc, ◌<◌, ◌≤◌, ◌≡◌, ◌≢◌, true, false, eqb, List, [], ◌∷◌, length, map, get_or, None, Result, Ok, Err, is_ok, refl, sym, ◌∙◌, arith}
use Rattle.std.proofs.lemmas.Bool.{or_left, or_right, or_from, eq-eqb, ne_eqb}
use Rattle.std.proofs.lemmas.Bool.Decides.{nat_tests}
use Rattle.std.proofs.lemmas.Cmp.{ranked}
use Rattle.std.proofs.lemmas.List.{get_or-map, length-map}
use Rattle.std.proofs.lemmas.List.Sorted.{searched}
use Rattle.std.specs.List.{AllByRecursion}
use Rattle.std.specs.List.Sorted.{IsBinarySearchResult, IsSearchInRange, IsNonDecreasingBy}
use Rattle.std.specs.Option.{IfSome}
use Rattle.std.specs.Result.{result_ok}
use Rattle.std.specs.Ordering.{nat_cmp, ordering_index}
use Rattle.sat_checker.specs.LiteralSets.{is_among}
use Rattle.sat_checker.specs.inner.Marks.{IsIncreasing}

above_at : (x : ℕ) (xs : List ℕ) (j : ℕ) → AllByRecursion (λ m. x < m) xs → j < length xs → x < get_or xs j 0
above_at x [] j h l = absurd (omega (arith, l))
above_at x (y ∷ ys) zero h l = h.0
above_at x (y ∷ ys) (suc j) h l = above_at x ys j h.1 (omega (arith, l))

rises_to : (xs : List ℕ) → IsIncreasing xs → (i j : ℕ) → i ≤ j → j < length xs → get_or xs i 0 ≤ get_or xs j 0
rises_to [] h i j l k = absurd (omega (arith, k))
rises_to (x ∷ xs) h zero zero l k = omega arith
rises_to (x ∷ xs) h zero (suc j) l k = let a : x < get_or xs j 0 = above_at x xs j h.0 (omega (arith, k)) in omega (arith, a)
rises_to (x ∷ xs) h (suc i) zero l k = absurd (omega (arith, l))
rises_to (x ∷ xs) h (suc i) (suc j) l k = rises_to xs h.1 i j (omega (arith, l)) (omega (arith, k))

among_at : (xs : List ℕ) (i x : ℕ) → i < length xs → get_or xs i 0 ≡ x → is_among xs x ≡ true
among_at [] i x l e = absurd (omega (arith, l))
among_at (y ∷ ys) zero x l e = or_left (eqb y x) (is_among ys x) (eq-eqb y x e)
among_at (y ∷ ys) (suc i) x l e = or_right (eqb y x) (is_among ys x) (among_at ys i x (omega (arith, l)) e)

not_among : (xs : List ℕ) (x : ℕ) → ((k : ℕ) → k < length xs → get_or xs k 0 ≢ x) → is_among xs x ≡ false
not_among [] x h = refl
not_among (y ∷ ys) x h = or_from (eqb y x) (is_among ys x) (ne_eqb y x (h 0 (omega arith))) (not_among ys x (λ k l. h (suc k) (omega (arith, l))))

pub found_among_sorted : (xs : List ℕ) (x : ℕ) (r : Result ℕ ℕ) → IsIncreasing xs → IsBinarySearchResult (λ y. nat_cmp y x) xs r → is_ok r ≡ is_among xs x
found_among_sorted xs x (Ok i) h p = let s = searched xs x (Ok i) p (rises_to xs h) in sym (among_at xs i x s.0 s.1)
found_among_sorted xs x (Err i) h p =
    let s = searched xs x (Err i) p (rises_to xs h) in
    sym (not_among xs x (λ k l. let below = s.1 k in let above = s.2 k in grind (arith, below, above, l)))

-- searching by an increasing key
module _ {X : Type 0} (key : X → ℕ) (k : ℕ) where
  key_at : (xs : List X) (i : ℕ) (d : X) → i < length xs → get_or (map key xs) i 0 ≡ key (get_or xs i d)
  key_at xs i d l = get_or-map key xs i d 0 l

  rising : (xs : List X) → IsIncreasing (map key xs) → IsNonDecreasingBy (λ x. ordering_index (nat_cmp (key x) k)) xs
  rising xs h = λ i j d le l.
      let a = rises_to (map key xs) h i j le (omega (arith, length-map xs key, l)) in
      let r : key (get_or xs i d) ≤ key (get_or xs j d) = omega (arith, a, key_at xs i d (omega (arith, le, l)), key_at xs j d l) in
      grind (arith, nat_tests)

  pub found_by_key : (xs : List X) (r : Result ℕ ℕ) → IsSearchInRange r (length xs) → IsBinarySearchResult (λ x. nat_cmp (key x) k) xs r → IfSome (result_ok r) (λ i. (i < length xs) × (get_or (map key xs) i 0 ≡ k))
  found_by_key [] (Ok i) l e = absurd (let h : i < 0 = l in omega (arith, h))
  found_by_key (x ∷ xs) (Ok i) l e = (l, key_at (x ∷ xs) i x l ∙ ranked _ k _ (sym (e x)))
  found_by_key xs (Err i) l e = tt

  absent_at : (xs : List X) (i : ℕ) → IsIncreasing (map key xs) → IsBinarySearchResult (λ x. nat_cmp (key x) k) xs (Err i) → is_among (map key xs) k ≡ false
  absent_at [] i h p = refl
  absent_at (x ∷ xs) i h p =
      not_among (map key (x ∷ xs)) k (λ j l e.
      let n = length-map (x ∷ xs) key in
      let inside : j < length (x ∷ xs) = omega (arith, n, l) in
      let at = key_at (x ∷ xs) j x inside in
      let below : j < i → key (get_or (x ∷ xs) j x) < k = λ b. ranked _ k _ (sym ((p (rising (x ∷ xs) h)).0 j x (omega arith) b)) in
      let above : i ≤ j → k < key (get_or (x ∷ xs) j x) = λ b. ranked _ k _ (sym ((p (rising (x ∷ xs) h)).1 j x b inside)) in
      grind (arith, below, above, at, e))

  pub absent_by_key : (xs : List X) (r : Result ℕ ℕ) → IsBinarySearchResult (λ x. nat_cmp (key x) k) xs r → result_ok r ≡ None → IsIncreasing (map key xs) → is_among (map key xs) k ≡ false
  absent_by_key xs (Ok i) p n h = absurd cc
  absent_by_key xs (Err i) p n h = absent_at xs i h p
