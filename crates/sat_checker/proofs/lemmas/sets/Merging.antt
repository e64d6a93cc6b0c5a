-- Comparing two increasing lists side by side.
use Rattle.std.proofs.Common.{ℕ, zero, suc, ◌+◌, ◌<◌, ◌≤◌, ◌≡◌, ◌≢◌, true, false, ◌&&◌, eqb, List, [], ◌∷◌, length, drop, get_or, refl, sym, ◌∙◌, ap, subst, arith, ◌⊎◌, inl, inr}
use Rattle.std.proofs.lemmas.Bool.{eq-eqb, ne_eqb}
use Rattle.std.proofs.lemmas.List.{drop_more}
use Rattle.std.specs.List.{AllByRecursion, list_all}
use Rattle.sat_checker.specs.LiteralSets.{is_among, is_subset_of}
use Rattle.sat_checker.specs.inner.Marks.{IsIncreasing}
use Rattle.sat_checker.proofs.lemmas.sets.Marks.{below_all}

pub increasing_drop : (xs : List ℕ) (i : ℕ) → IsIncreasing xs → IsIncreasing (drop i xs)
increasing_drop [] zero h = h
increasing_drop [] (suc i) h = h
increasing_drop (x ∷ xs) zero h = h
increasing_drop (x ∷ xs) (suc i) h = increasing_drop xs i h.1

-- numbers above the first item of a list can only be found after it
all_after : (x : ℕ) (xs ms : List ℕ) → AllByRecursion (λ m. x < m) ms → list_all (is_among (x ∷ xs)) ms ≡ list_all (is_among xs) ms
all_after x xs [] h = refl
all_after x xs (m ∷ ms) h =
    let e : eqb x m ≡ false = ne_eqb x m (λ q. let k : x < m = h.0 in omega arith) in
    rw e (ap (λ b. is_among xs m && b) (all_after x xs ms h.1))

part_same : (s : ℕ) (ss xs : List ℕ) → AllByRecursion (λ m. s < m) ss → is_subset_of (s ∷ ss) (s ∷ xs) ≡ is_subset_of ss xs
part_same s ss xs h = let e : eqb s s ≡ true = eq-eqb s s refl in rw e (all_after s xs ss h)

above_all : (x s : ℕ) (ss : List ℕ) → x < s → AllByRecursion (λ m. s < m) ss → AllByRecursion (λ m. x < m) ss
above_all x s [] l h = tt
above_all x s (m ∷ ms) l h = (let k : s < m = h.0 in omega arith, above_all x s ms l h.1)

lower_or_higher : (s x : ℕ) → s ≢ x → (x < s) ⊎ (s < x)
lower_or_higher s x n = grind arith

part_past : (s x : ℕ) (ss xs : List ℕ) → s ≢ x → IsIncreasing (s ∷ ss) → IsIncreasing (x ∷ xs) → is_subset_of (s ∷ ss) (x ∷ xs) ≡ is_subset_of (s ∷ ss) xs
part_past s x ss xs n h k = elim (lower_or_higher s x n) [
  | inl l ↦ all_after x xs (s ∷ ss) (l, above_all x s ss l h.0)
  | inr l ↦
      let far : is_among (x ∷ xs) s ≡ false = below_all s (x ∷ xs) (l, above_all s x xs l k.0) in
      let near : is_among xs s ≡ false = below_all s xs (above_all s x xs l k.0) in
      ap (λ b. b && list_all (is_among (x ∷ xs)) ss) far ∙ sym (ap (λ b. b && list_all (is_among xs) ss) near)
]

pub nothing_left : (xs : List ℕ) (i : ℕ) → length xs ≤ i → drop i xs ≡ []
nothing_left [] zero h = refl
nothing_left [] (suc i) h = refl
nothing_left (x ∷ xs) zero h = absurd (omega arith)
nothing_left (x ∷ xs) (suc i) h = nothing_left xs i (omega arith)

module _ (part whole : List ℕ) (reached : ℕ) where
  pub reached_all : length part ≤ reached → (i : ℕ) → is_subset_of (drop reached part) (drop i whole) ≡ true
  reached_all h i = rw (nothing_left part reached h) refl

  pub none_left : reached < length part → (i : ℕ) → length whole ≤ i → is_subset_of (drop reached part) (drop i whole) ≡ false
  none_left m i h = rw (nothing_left whole i h, drop_more part reached 0 m) refl

  module _ (i : ℕ) (inside : i < length whole) (more : reached < length part) (part_increasing : IsIncreasing part) (whole_increasing : IsIncreasing whole) where
    first_of : IsIncreasing (get_or part reached 0 ∷ drop (reached + 1) part)
    first_of = subst IsIncreasing (drop_more part reached 0 more) (increasing_drop part reached part_increasing)

    first_in : IsIncreasing (get_or whole i 0 ∷ drop (i + 1) whole)
    first_in = subst IsIncreasing (drop_more whole i 0 inside) (increasing_drop whole i whole_increasing)

    pub reached_one : get_or part reached 0 ≡ get_or whole i 0 → is_subset_of (drop reached part) (drop i whole) ≡ is_subset_of (drop (reached + 1) part) (drop (i + 1) whole)
    reached_one e =
        ap (λ p. is_subset_of p (drop i whole)) (drop_more part reached 0 more) ∙ ap (λ w. is_subset_of (get_or part reached 0 ∷ drop (reached + 1) part) w) (drop_more whole i 0 inside)
        ∙ ap (λ x. is_subset_of (get_or part reached 0 ∷ drop (reached + 1) part) (x ∷ drop (i + 1) whole)) (sym e) ∙ part_same (get_or part reached 0) (drop (reached + 1) part) (drop (i + 1) whole) first_of.0

    pub passed_one : get_or part reached 0 ≢ get_or whole i 0 → is_subset_of (drop reached part) (drop i whole) ≡ is_subset_of (drop reached part) (drop (i + 1) whole)
    passed_one n =
        ap (λ p. is_subset_of p (drop i whole)) (drop_more part reached 0 more) ∙ ap (λ w. is_subset_of (get_or part reached 0 ∷ drop (reached + 1) part) w) (drop_more whole i 0 inside)
        ∙ part_past (get_or part reached 0) (get_or whole i 0) (drop (reached + 1) part) (drop (i + 1) whole) n first_of first_in ∙ ap (λ p. is_subset_of p (drop (i + 1) whole)) (sym (drop_more part reached 0 more))

pub ruleset merging = (reached_all, none_left, reached_one, passed_one)
