-- A literal is removed from a trail, and the newest literal takes its place.
use Rattle.std.proofs.Common.{ℕ, ◌+◌, ◌-◌, ◌<◌, ◌^◌, ◌≡◌, ◌≢◌, ◌∙◌, Bool, true, false, ◌||◌, cond, eqb, List, ◌∷◌, ◌++◌, [], length, get_or, reverse, Option, Some, None, refl, sym, ap, subst, arith}
use Rattle.std.proofs.lemmas.Bool.{eqb-true, eqb-false, eq-eqb, true≢false}
use Rattle.std.proofs.lemmas.Grind.{get_or_default_zero}
use Rattle.std.proofs.lemmas.List.{get_or_append_left, get_or_at, length-append, reverse-reverse}
use Rattle.std.proofs.lemmas.List.Sorted.{IsPermutation-swap_remove, IsPermutation-sym, Contains-permutation}
use Rattle.std.specs.List.{swap_remove}
use Rattle.std.specs.List.Sorted.{IsPermutation}
use Rattle.sat_base.specs.values.Tables.{HasPlaceFor}
use Rattle.sat_base.proofs.lemmas.values.TableLemmas.{has_room}
use Rattle.sat_checker.specs.LiteralSets.{is_among}
use Rattle.sat_checker.specs.inner.LitNumbers.{unless_largest_place, place_at, AreTrailPlaces}
use Rattle.sat_checker.specs.inner.Marks.{NoRepeats, IsSwapRemoved}
use Rattle.sat_checker.specs.declared.units.lit_numbers.LitPlaces.{LitPlaces}
use Rattle.sat_checker.proofs.lemmas.sets.Canonical.{among_from_contains, contains_from_among}
use Rattle.sat_checker.proofs.lemmas.sets.Distinct.{once_permuted, once_reversed}
use Rattle.sat_checker.proofs.lemmas.store.Places.{eqb_comm}

pub same_tests : (a b : Bool) → (a ≡ true → b ≡ true) → (b ≡ true → a ≡ true) → a ≡ b
same_tests true true f g = refl
same_tests false false f g = refl
same_tests true false f g = absurd (true≢false (sym (f refl)))
same_tests false true f g = absurd (true≢false (sym (g refl)))

among_permuted : (xs ys : List ℕ) → IsPermutation xs ys → (l : ℕ) → is_among xs l ≡ is_among ys l
among_permuted xs ys p l =
    same_tests _ _ (λ h. among_from_contains ys l (Contains-permutation xs ys l p (contains_from_among xs l h))) (λ h. among_from_contains xs l (Contains-permutation ys xs l (IsPermutation-sym xs ys p) (contains_from_among ys l h)))

pub once_trail : (trail : List ℕ) → NoRepeats (reverse trail) → NoRepeats trail
once_trail trail h = subst NoRepeats (reverse-reverse trail) (once_reversed (reverse trail) h)

module _ (trail rest : List ℕ) (place x : ℕ) (inside : place < length trail) (is : x ≡ get_or trail place x) (e : rest ≡ swap_remove trail place x) where
  permuted : IsPermutation trail (x ∷ rest)
  permuted = subst (λ ys. IsPermutation trail (x ∷ ys)) (sym e) (IsPermutation-swap_remove trail place x inside is)

  pub once_without : NoRepeats trail → NoRepeats rest
  once_without once = (once_permuted trail (x ∷ rest) permuted once).1

  pub among_without : NoRepeats trail → (l : ℕ) → is_among rest l ≡ cond (eqb l x) false (is_among trail l)
  among_without once l = go (eqb x l) refl ∙ ap (λ b. cond b false (is_among trail l)) (eqb_comm x l)
    where
      go : (b : Bool) → eqb x l ≡ b → is_among rest l ≡ cond b false (is_among trail l)
      go true s = ap (is_among rest) (sym (eqb-true x l s)) ∙ (once_permuted trail (x ∷ rest) permuted once).0
      go false s = sym (among_permuted trail (x ∷ rest) permuted l ∙ ap (λ b. b || is_among rest l) s)

pub lost : (trail rest : List ℕ) (place : ℕ) → length rest + 1 ≡ length trail → ((d : ℕ) → place + 1 < length trail → get_or rest place d ≡ get_or trail (length trail - 1) d)
    → ((k d : ℕ) → k ≢ place → k + 1 < length trail → get_or rest k d ≡ get_or trail k d) → IsSwapRemoved place trail rest
lost trail rest place n at others = record { count = n; each = λ i h. go i h (eqb i place) refl }
  where
    go : (i : ℕ) → i < length rest → (b : Bool) → eqb i place ≡ b → get_or rest i 0 ≡ cond b (get_or trail (length trail - 1) 0) (get_or trail i 0)
    go i h true s = let same = eqb-true i place s in ap (λ j. get_or rest j 0) same ∙ at 0 (omega (arith, h, n, same))
    go i h false s = others i 0 (eqb-false i place s) (omega (arith, h, n))

-- a literal whose place is stored has room in the table
pub place_has_room : (places : LitPlaces) (l n : ℕ) → place_at places l ≡ Some n → HasPlaceFor places.places l
place_has_room places l n e = has_room (2 ^ 32 - 1) places.places l (λ s. none (place_at places l) (ap unless_largest_place s) e)
  where
    none : (o : Option ℕ) → o ≡ None → o ≡ Some n → ⊥
    none None h k = absurd (let w : ◌≡◌ {A = Option ℕ} None (Some n) = k in cc)
    none (Some m) h k = absurd (let w : ◌≡◌ {A = Option ℕ} (Some m) None = h in cc)

same_number : (m n : ℕ) → ◌≡◌ {A = Option ℕ} (Some m) (Some n) → m ≡ n
same_number m n e = ap (number 0) e
  where
    number : ℕ → Option ℕ → ℕ
    number d None = d
    number d (Some k) = k

-- the place of an assumed literal
pub record HasAccepted (places : LitPlaces) (trail : List ℕ) (l : ℕ) : Type 0 where
  pub place : ℕ
  pub inside : place < length trail
  pub there : get_or trail place 0 ≡ l
  pub noted : place_at places l ≡ Some place

pub valid : (places : LitPlaces) (trail : List ℕ) (l : ℕ) → AreTrailPlaces places trail → is_among trail l ≡ true → HasAccepted places trail l
valid places trail l placed among =
    let c = contains_from_among trail l among in
    let there : get_or trail c.0 0 ≡ l = sym (get_or_default_zero trail c.0 l c.1) ∙ c.2 in
    record { place = c.0; inside = c.1; there = there; noted = ap (place_at places) (sym there) ∙ placed c.0 c.1 }

pub stands_at : (places : LitPlaces) (trail : List ℕ) (l n : ℕ) → AreTrailPlaces places trail → is_among trail l ≡ true → place_at places l ≡ Some n → (n < length trail) × (get_or trail n 0 ≡ l)
stands_at places trail l n placed among e =
    let s = valid places trail l placed among in
    let same : s.place ≡ n = same_number s.place n (sym s.noted ∙ e) in
    (subst (λ k. k < length trail) same s.inside, subst (λ k. get_or trail k 0 ≡ l) same s.there)

-- the newest literal gets the place of the removed one
pub placed_without : (places new : LitPlaces) (trail rest : List ℕ) (place newest : ℕ) → AreTrailPlaces places trail → IsSwapRemoved place trail rest → newest ≡ get_or trail (length trail - 1) 0
    → ((k : ℕ) → place_at new k ≡ cond (eqb k newest) (Some place) (place_at places k)) → AreTrailPlaces new rest
placed_without places new trail rest place newest placed loses is numbers i inside = ap (place_at new) (loses.each i inside) ∙ go (eqb i place) refl
  where
    go : (b : Bool) → eqb i place ≡ b → place_at new (cond b (get_or trail (length trail - 1) 0) (get_or trail i 0)) ≡ Some i
    go true s =
        ap (place_at new) (sym is) ∙ numbers newest ∙ ap (λ b. cond b (Some place) (place_at places newest)) (eq-eqb newest newest refl) ∙ ap Some (sym (eqb-true i place s))
    go false s =
        let n = loses.count in
        numbers (get_or trail i 0) ∙ ap (λ b. cond b (Some place) (place_at places (get_or trail i 0))) (other (eqb (get_or trail i 0) newest) refl) ∙ placed i (omega (arith, n, inside))
      where
        other : (b : Bool) → eqb (get_or trail i 0) newest ≡ b → b ≡ false
        other false t = refl
        other true t =
            let n = loses.count in
            let same = eqb-true (get_or trail i 0) newest t in
            let last : i ≡ length trail - 1 = same_number i (length trail - 1) (sym (placed i (omega (arith, n, inside))) ∙ ap (place_at places) (same ∙ is) ∙ placed (length trail - 1) (omega (arith, n, inside))) in
            absurd (omega (arith, n, inside, last))

-- a new literal gets the last place
pub placed_more : (places new : LitPlaces) (trail : List ℕ) (l place : ℕ) → AreTrailPlaces places trail → is_among trail l ≡ false → place ≡ length trail → ((k : ℕ) → place_at new k ≡ cond (eqb k l) (Some place) (place_at places k))
    → AreTrailPlaces new (trail ++ l ∷ [])
placed_more places new trail l place placed fresh is numbers i inside = go (eqb i place) refl
  where
    long : length (trail ++ l ∷ []) ≡ length trail + 1
    long = length-append trail (l ∷ [])

    go : (b : Bool) → eqb i place ≡ b → place_at new (get_or (trail ++ l ∷ []) i 0) ≡ Some i
    go true s =
        let same = eqb-true i place s in
        ap (place_at new) (get_or_at trail l [] 0 i (sym (same ∙ is))) ∙ numbers l ∙ ap (λ b. cond b (Some place) (place_at places l)) (eq-eqb l l refl) ∙ ap Some (sym same)
    go false s =
        let apart = eqb-false i place s in
        let before : i < length trail = omega (arith, apart, is, long, inside) in
        let y : ℕ = get_or trail i 0 in
        ap (place_at new) (get_or_append_left trail (l ∷ []) 0 i before) ∙ numbers y ∙ ap (λ b. cond b (Some place) (place_at places y)) (other before (eqb y l) refl) ∙ placed i before
      where
        other : (before : i < length trail) (b : Bool) → eqb (get_or trail i 0) l ≡ b → b ≡ false
        other before false t = refl
        other before true t =
            absurd (true≢false (sym (among_from_contains trail l (i, before, get_or_default_zero trail i l before ∙ eqb-true (get_or trail i 0) l t)) ∙ fresh))
