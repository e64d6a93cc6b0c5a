-- Lists whose elements are given, and lists that grew from the empty list.
use Rattle.std.proofs.Common.{ℕ, ◌≡◌, ◌-◌, ◌*◌, ◌<◌, inl, inr, List, [], ◌++◌, take, replicate, length, get_or, sym, ap, ◌∙◌, subst, arith, false, Bool}
use Rattle.std.proofs.lemmas.Bool.{cases_lt}
use Rattle.std.proofs.lemmas.List.{get_or-replicate, length-replicate, get_or_past, take_all}
use Rattle.std.specs.List.{Contains}
use Rattle.sat_store.specs.variables.Flags.{flags_for}
use Rattle.sat_parts.proofs.lemmas.clause.ListLemmas.{place_in}

-- reading a list of equal values returns that value at every place
same_everywhere : {X : Type 0} → (m i : ℕ) (x : X) → get_or (replicate m x) i x ≡ x
same_everywhere m i x = elim (cases_lt i m) [
  | inl lt ↦ get_or-replicate m i x x lt
  | inr past ↦ (let n : length (replicate m x) ≡ m = length-replicate m x in get_or_past (replicate m x) i x (omega arith))
]

nothing_taken : {X : Type 0} → (xs : List X) (n : ℕ) → xs ≡ [] → take n xs ≡ []
nothing_taken xs n e = (let z : length xs ≡ 0 = ap (λ ys. length ys) e in take_all n xs (omega arith)) ∙ e

-- reading a list that grew from the empty list returns the value that it was filled with
grown_reads : {X : Type 0} → (xs : List X) (x : X) (n i : ℕ) → xs ≡ [] → get_or (take n xs ++ replicate (n - length xs) x) i x ≡ x
grown_reads xs x n i e = ap (λ ys. get_or (ys ++ replicate (n - length xs) x) i x) (nothing_taken xs n e) ∙ same_everywhere (n - length xs) i x

grown_length : {X : Type 0} → (xs : List X) (x : X) (n : ℕ) → xs ≡ [] → length (take n xs ++ replicate (n - length xs) x) ≡ n
grown_length xs x n e =
    let z : length xs ≡ 0 = ap (λ ys. length ys) e in
    let m : length (replicate (n - length xs) x) ≡ n - length xs = length-replicate (n - length xs) x in
    ap (λ ys. length (ys ++ replicate (n - length xs) x)) (nothing_taken xs n e) ∙ omega arith

-- the number at place `k` of a list is in the list
pub contains_at : (xs ys : List ℕ) (k o : ℕ) → xs ≡ ys → o ≡ get_or ys k 0 → k < length ys → Contains xs o
contains_at xs ys k o e f lt = subst (λ (zs : List ℕ). Contains zs o) (sym e) (subst (λ (p : ℕ). Contains ys p) (sym f) (place_in ys k lt))

pub flags_clear : (fs fs' : List Bool) (count : ℕ) → fs ≡ [] → fs' ≡ flags_for count fs → ((k : ℕ) → get_or fs' k false ≡ false) × (length fs' ≡ 2 * count)
flags_clear fs fs' count e to_fs = rw to_fs (λ k. grown_reads fs false (2 * count) k e, grown_length fs false (2 * count) e)
