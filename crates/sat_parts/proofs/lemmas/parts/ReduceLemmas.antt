-- The clauses that a reduction considers.
use Rattle.std.proofs.Common.{ℕ, ◌≡◌, ◌==◌, ◌<◌, ◌&&◌, inl, inr, Bool, true, false, List, [], ◌∷◌, map, length, get_or, suc, zero, refl, sym, ap, ◌∙◌, subst, arith}
use Rattle.std.proofs.lemmas.Bool.{cases_Bool, cases_eq, true≢false, cond-true, cond-false}
use Rattle.std.proofs.lemmas.List.{get_or-map, length-map, get_or_read, get_or_default}
use Rattle.std.proofs.lemmas.List.Sorted.{IsPermutation-map, IsPermutation-sym, Contains-permutation}
use Rattle.std.specs.List.{Contains, filter}
use Rattle.std.specs.List.Sorted.{IsPermutation, IsNonDecreasingBy}
use Rattle.sat_store.specs.declared.clause.tier.Tier.{Tier}
use Rattle.sat_store.specs.clause.Header.{tier_index}
use Rattle.sat_store.specs.clause.Buffer.{header_at}
use Rattle.sat_parts.specs.clause.Db.{live_refs, is_live, is_live_in_tier, AreStrictlyIncreasing}
use Rattle.sat_parts.specs.clause.Orders.{AreDistinct, IsReordering}
use Rattle.sat_parts.proofs.lemmas.clause.ListLemmas.{there, in_head, in_tail, place_in, rising_distinct}
use Rattle.sat_parts.specs.parts.Reducing.{clause_rank, with_rank}
use Rattle.sat_parts.proofs.lemmas.parts.SortLemmas.{shuffled_by}

-- what is in a filtered list is in the list and passes the test
pub filter_in : (p : ℕ → Bool) (xs : List ℕ) (o : ℕ) → Contains (filter p xs) o → Contains xs o × (p o ≡ true)
filter_in p [] o c = absurd (omega (arith, c.1))
filter_in p (x ∷ xs) o c = elim (cases_Bool (p x)) [
  | inl on ↦
      let e : filter p (x ∷ xs) ≡ x ∷ filter p xs = cond-true (p x) (x ∷ filter p xs) (filter p xs) on in
      elim (cases_eq x o) [
        | inl q ↦ (subst (λ z. Contains (x ∷ xs) z) q (in_head x xs), subst (λ z. p z ≡ true) q on)
        | inr n ↦ (let y = filter_in p xs o (there x (filter p xs) o n (subst (λ (ys : List ℕ). Contains ys o) e c)) in (in_tail x xs o y.0, y.1))
      ]
  | inr off ↦
      let e : filter p (x ∷ xs) ≡ filter p xs = cond-false (p x) (x ∷ filter p xs) (filter p xs) off in
      (let y = filter_in p xs o (subst (λ (ys : List ℕ). Contains ys o) e c) in (in_tail x xs o y.0, y.1))
]

pub in_filter : (p : ℕ → Bool) (xs : List ℕ) (o : ℕ) → Contains xs o → p o ≡ true → Contains (filter p xs) o
in_filter p [] o c pass = absurd (omega (arith, c.1))
in_filter p (x ∷ xs) o c pass = elim (cases_Bool (p x)) [
  | inl on ↦
      let e : filter p (x ∷ xs) ≡ x ∷ filter p xs = cond-true (p x) (x ∷ filter p xs) (filter p xs) on in
      subst (λ (ys : List ℕ). Contains ys o) (sym e) (elim (cases_eq x o) [
        | inl q ↦ subst (λ z. Contains (x ∷ filter p xs) z) q (in_head x (filter p xs))
        | inr n ↦ in_tail x (filter p xs) o (in_filter p xs o (there x xs o n c) pass)
      ])
  | inr off ↦
      let e : filter p (x ∷ xs) ≡ filter p xs = cond-false (p x) (x ∷ filter p xs) (filter p xs) off in
      subst (λ (ys : List ℕ). Contains ys o) (sym e) (in_filter p xs o (there x xs o (λ q. true≢false (sym pass ∙ sym (ap (λ z. p z) q) ∙ off)) c) pass)
]

first_true : (a b : Bool) → (a && b) ≡ true → a ≡ true
first_true true b e = refl
first_true false b e = e

-- a live clause of one tier is a live clause
pub live_of : (words refs : List ℕ) (tier : Tier) (o : ℕ) → Contains (filter (is_live_in_tier words tier) refs) o → Contains (live_refs words refs) o
live_of words refs tier o c =
    let x = filter_in (is_live_in_tier words tier) refs o c in
    in_filter (is_live words) refs o x.0 (first_true (is_live words o) (tier_index (header_at words o).tier == tier_index tier) x.1)

distinct_more : (x : ℕ) (xs : List ℕ) → (Contains xs x → ⊥) → AreDistinct xs → AreDistinct (x ∷ xs)
distinct_more x xs n d zero zero a b e = refl
distinct_more x xs n d zero (suc k) a b e = absurd (n (subst (λ z. Contains xs z) (sym e) (place_in xs k (omega arith))))
distinct_more x xs n d (suc j) zero a b e = absurd (n (subst (λ z. Contains xs z) e (place_in xs j (omega arith))))
distinct_more x xs n d (suc j) (suc k) a b e = ap (λ i. suc i) (d j k (omega arith) (omega arith) e)

distinct_less : (x : ℕ) (xs : List ℕ) → AreDistinct (x ∷ xs) → AreDistinct xs
distinct_less x xs d j k a b e = (let q : suc j ≡ suc k = d (suc j) (suc k) (omega arith) (omega arith) e in omega arith)

-- the first item of a list without repeats is not in the rest
first_once : (x : ℕ) (xs : List ℕ) → AreDistinct (x ∷ xs) → Contains xs x → ⊥
first_once x xs d c = (let q : 0 ≡ suc c.0 = d 0 (suc c.0) (omega arith) (omega (arith, c.1)) (get_or_read xs c.0 x c.1 (sym c.2) 0) in omega arith)

distinct_filter : (p : ℕ → Bool) (xs : List ℕ) → AreDistinct xs → AreDistinct (filter p xs)
distinct_filter p [] d = d
distinct_filter p (x ∷ xs) d = elim (cases_Bool (p x)) [
  | inl on ↦
      let e : filter p (x ∷ xs) ≡ x ∷ filter p xs = cond-true (p x) (x ∷ filter p xs) (filter p xs) on in
      subst (λ (ys : List ℕ). AreDistinct ys) (sym e) (distinct_more x (filter p xs) (λ c. first_once x xs d (filter_in p xs x c).0) (distinct_filter p xs (distinct_less x xs d)))
  | inr off ↦
      let e : filter p (x ∷ xs) ≡ filter p xs = cond-false (p x) (x ∷ filter p xs) (filter p xs) off in
      subst (λ (ys : List ℕ). AreDistinct ys) (sym e) (distinct_filter p xs (distinct_less x xs d))
]

-- a permutation of the live clauses of one tier has no repeats
pub listed_once : (words refs list : List ℕ) (tier : Tier) → AreStrictlyIncreasing refs → IsPermutation (filter (is_live_in_tier words tier) refs) list → AreDistinct list
listed_once words refs list tier rising p =
    let x : IsReordering (filter (is_live_in_tier words tier) refs) list = shuffled_by (filter (is_live_in_tier words tier) refs) list p in
    x.apart (distinct_filter (is_live_in_tier words tier) refs (λ j k a b e. rising_distinct refs j k rising a b e))

pub listed_live : (words refs list : List ℕ) (tier : Tier) → IsPermutation (filter (is_live_in_tier words tier) refs) list → (k : ℕ) → k < length list → Contains (live_refs words refs) (get_or list k 0)
listed_live words refs list tier p k b =
    live_of words refs tier (get_or list k 0) (Contains-permutation list (filter (is_live_in_tier words tier) refs) (get_or list k 0) (IsPermutation-sym (filter (is_live_in_tier words tier) refs) list p) (place_in list k b))

-- RANKS

without_ranks : (words list : List ℕ) → map (λ (x : ℕ × ℕ). x.1) (map (with_rank words) list) ≡ list
without_ranks words [] = refl
without_ranks words (o ∷ os) = ap (λ (xs : List ℕ). o ∷ xs) (without_ranks words os)

pub permuted_ranks : (words list : List ℕ) (pairs : List (ℕ × ℕ)) → IsPermutation (map (with_rank words) list) pairs → IsPermutation list (map (λ (x : ℕ × ℕ). x.1) pairs)
permuted_ranks words list pairs p = subst (λ (xs : List ℕ). IsPermutation xs (map (λ (x : ℕ × ℕ). x.1) pairs)) (without_ranks words list) (IsPermutation-map (λ (x : ℕ × ℕ). x.1) (map (with_rank words) list) pairs p)

there_pair : (pairs : List (ℕ × ℕ)) (k : ℕ) (d : ℕ × ℕ) → k < length pairs → Contains pairs (get_or pairs k d)
there_pair pairs k d b = (k, b, get_or_default pairs k (get_or pairs k d) d b)

is_ranked : (words list : List ℕ) (x : ℕ × ℕ) → Contains (map (with_rank words) list) x → x.0 ≡ clause_rank words x.1
is_ranked words list x c =
    let size : length (map (with_rank words) list) ≡ length list = length-map list (with_rank words) in
    let e : with_rank words (get_or list c.0 0) ≡ x = sym (get_or-map (with_rank words) list c.0 0 x (omega (arith, c.1))) ∙ c.2 in
    subst (λ (z : ℕ × ℕ). z.0 ≡ clause_rank words z.1) e refl

-- sorted by rank, the clauses are sorted by activity, then by offset
pub rising_ranks : (words list : List ℕ) (pairs : List (ℕ × ℕ)) → IsPermutation (map (with_rank words) list) pairs → IsNonDecreasingBy (λ (x : ℕ × ℕ). x.0) pairs → IsNonDecreasingBy (clause_rank words) (map (λ (x : ℕ × ℕ). x.1) pairs)
rising_ranks words list pairs p rising i j d le lt =
    let size : length (map (λ (x : ℕ × ℕ). x.1) pairs) ≡ length pairs = length-map pairs (λ (x : ℕ × ℕ). x.1) in
    let at : (k : ℕ) → k < length pairs → (get_or pairs k (0, d)).0 ≡ clause_rank words (get_or (map (λ (x : ℕ × ℕ). x.1) pairs) k d) = λ k b.
    is_ranked words list (get_or pairs k (0, d)) (Contains-permutation pairs (map (with_rank words) list) (get_or pairs k (0, d)) (IsPermutation-sym (map (with_rank words) list) pairs p) (there_pair pairs k (0, d) b))
    ∙ ap (λ o. clause_rank words o) (sym (get_or-map (λ (x : ℕ × ℕ). x.1) pairs k (0, d) d b)) in
    omega (arith, at i (omega arith), at j (omega arith), rising i j (0, d) le (omega arith))
