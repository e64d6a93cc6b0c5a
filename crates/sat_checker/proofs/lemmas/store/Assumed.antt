-- The first clause with a hash, compared with the assumed literals.
use Rattle.std.proofs.Common.{ℕ, suc, ◌+◌, ◌<◌, ◌≤◌, ◌≡◌, Bool, true, false, not, ◌&&◌, ◌||◌, cond, eqb, List, [], ◌∷◌, length, map, reverse, Some, refl, sym, ◌∙◌, ap, subst, arith}
use Rattle.std.proofs.lemmas.Bool.{eqb-true, true≢false}
use Rattle.sat_checker.specs.LiteralSets.{is_among, canonical, same_literals}
use Rattle.sat_checker.specs.Looks.{total_length}
use Rattle.sat_checker.specs.Stored.{Stored, clause_hash_by}
use Rattle.sat_checker.specs.Storing.{clause_with}
use Rattle.sat_checker.specs.HasherView.{solver_name_of, width_of}
use Rattle.sat_checker.specs.inner.Marks.{NoRepeats, IsIncreasing}
use Rattle.sat_checker.specs.inner.OccurrenceView.{times_in}
use Rattle.sat_checker.specs.inner.PairView.{first_of}
use Rattle.sat_checker.specs.inner.SlotView.{Slot, slot_at, slot_count, literals_at, is_removed, is_filed, bucket_in, places_from, places_of, is_same_at, found_among, without_count_at}
use Rattle.sat_checker.specs.inner.StoreView.{RepresentsClauses, store_count_in, with_count_removed}
use Rattle.sat_checker.specs.declared.store.Store.{Store}
use Rattle.sat_checker.proofs.lemmas.meaning.Clauses.{same}
use Rattle.sat_checker.proofs.lemmas.sets.Canonical.{canonical_among, canonical_increasing, same_increasing}
use Rattle.sat_checker.proofs.lemmas.sets.Marks.{below_all}
use Rattle.sat_checker.proofs.lemmas.sets.Order.{among-reverse}
use Rattle.sat_checker.proofs.lemmas.store.Counting.{times_beyond}
use Rattle.sat_checker.proofs.lemmas.store.Finding.{bucket_literals}
use Rattle.sat_checker.proofs.lemmas.store.Storing.{hashed_at, count_there, deleted_one}

-- a literal of a list without repeats occurs once
times_of : (l : ℕ) (xs : List ℕ) → NoRepeats xs → times_in l xs ≡ cond (is_among xs l) 1 0
times_of l [] h = refl
times_of l (x ∷ xs) h = go (eqb x l) refl (times_of l xs h.1)
  where
    go : (b : Bool) → eqb x l ≡ b → times_in l xs ≡ cond (is_among xs l) 1 0 → cond b 1 0 + times_in l xs ≡ cond (b || is_among xs l) 1 0
    go true e ih = let z : times_in l xs ≡ 0 = times_beyond l xs (subst (λ y. is_among xs y ≡ false) (eqb-true x l e) h.0) in omega (arith, z)
    go false e ih = (let z : 0 + times_in l xs ≡ times_in l xs = omega arith in z) ∙ ih

once_increasing : (xs : List ℕ) → IsIncreasing xs → NoRepeats xs
once_increasing [] h = tt
once_increasing (x ∷ xs) h = (below_all x xs h.0, once_increasing xs h.1)

-- a clause of exactly the assumed literals has each of them once
pub times_assumed : (l : ℕ) (given assumed found : List ℕ) → given ≡ reverse assumed → NoRepeats given → IsIncreasing found → same_literals found (canonical assumed) ≡ true → times_in l given ≡ times_in l found
times_assumed l given assumed found e once increasing s =
    times_of l given once
    ∙ ap (λ b. cond b 1 0) (ap (λ xs. is_among xs l) e ∙ among-reverse assumed l ∙ sym (canonical_among assumed l) ∙ ap (λ xs. is_among xs l) (sym (same found (canonical assumed) s)))
    ∙ sym (times_of l found (once_increasing found increasing))

-- the set of literals does not depend on their order
pub canonical_reversed : (xs : List ℕ) → canonical (reverse xs) ≡ canonical xs
canonical_reversed xs = same_increasing (canonical (reverse xs)) (canonical xs) (canonical_increasing (reverse xs)) (canonical_increasing xs) (λ m. canonical_among (reverse xs) m ∙ among-reverse xs m ∙ sym (canonical_among xs m))

-- that the clause at a place is not removed, and has this hash
pub record IsFiledAt (ss : List Slot) (hash place : ℕ) : Type 0 where
  pub inside : place < length ss
  pub there : is_removed (slot_at ss place) ≡ false
  pub hash_is : (slot_at ss place).hash ≡ hash

filed_from : (ss : List Slot) (k hash p : ℕ) → Some p ≡ first_of (places_from k hash ss) → (i : ℕ) × (p ≡ k + i) × (i < length ss) × (is_filed hash (slot_at ss i) ≡ true)
filed_from [] k hash p e = absurd cc
filed_from (s ∷ ss) k hash p e = go (filed_from ss (k + 1) hash p) (is_filed hash s) refl e
  where
    go : (Some p ≡ first_of (places_from (k + 1) hash ss) → (i : ℕ) × (p ≡ k + 1 + i) × (i < length ss) × (is_filed hash (slot_at ss i) ≡ true)) → (b : Bool) → is_filed hash s ≡ b
        → Some p ≡ first_of (cond b (k ∷ places_from (k + 1) hash ss) (places_from (k + 1) hash ss)) → (i : ℕ) × (p ≡ k + i) × (i < length (s ∷ ss)) × (is_filed hash (slot_at (s ∷ ss) i) ≡ true)
    go ih true f n = let q : p ≡ k = cc in (0, omega (arith, q), omega arith, f)
    go ih false f n = let r = ih n in (suc r.0, (let q : p ≡ k + 1 + r.0 = r.1 in omega (arith, q)), (let l : r.0 < length ss = r.2 in omega (arith, l)), r.3)

both_parts : (a b : Bool) → (not a && b) ≡ true → (a ≡ false) × (b ≡ true)
both_parts true b h = absurd (true≢false (sym h))
both_parts false b h = (refl, h)

pub first_filed : (ss : List Slot) (hash p : ℕ) → Some p ≡ first_of (places_of hash ss) → IsFiledAt ss hash p
first_filed ss hash p e =
    let r = filed_from ss 0 hash p e in
    let q : r.0 ≡ p = (let z : p ≡ 0 + r.0 = r.1 in omega (arith, z)) in
    let parts = both_parts (is_removed (slot_at ss r.0)) (eqb (slot_at ss r.0).hash hash) r.3 in
    subst (IsFiledAt ss hash) q (record { inside = r.2; there = parts.0; hash_is = eqb-true (slot_at ss r.0).hash hash parts.1 })

found_first : (ss : List Slot) (literals : List ℕ) (p : ℕ) (ps : List ℕ) → Some p ≡ first_of ps → is_same_at ss literals p ≡ true → Some p ≡ found_among ss literals ps
found_first ss literals p [] e s = absurd cc
found_first ss literals p (q ∷ qs) e s = let is : p ≡ q = cc in sym (ap (λ b. cond b (Some q) (found_among ss literals qs)) (ap (is_same_at ss literals) (sym is) ∙ s) ∙ ap (λ x. Some x) (sym is))

-- the first clause of a bucket is not longer than the bucket
pub first_length : (ss : List Slot) (hash p : ℕ) → Some p ≡ first_of (places_of hash ss) → length (literals_at ss p) ≤ total_length (bucket_in hash ss)
first_length ss hash p e = subst (λ cs. length (literals_at ss p) ≤ total_length cs) (bucket_literals hash ss) (go (places_of hash ss) e)
  where
    go : (ps : List ℕ) → Some p ≡ first_of ps → length (literals_at ss p) ≤ total_length (map (literals_at ss) ps)
    go [] k = absurd cc
    go (q ∷ qs) k = let is : p ≡ q = cc in let same : length (literals_at ss p) ≡ length (literals_at ss q) = ap (λ x. length (literals_at ss x)) is in omega (arith, same)

-- if the first clause with a hash consists of exactly these literals, it is the stored clause with them
module _ (store : Store) (literals : List ℕ) (hash p : ℕ) (first : Some p ≡ first_of (places_of hash store.clauses)) (s : same_literals (literals_at store.clauses p) literals ≡ true) where
  found : Some p ≡ found_among store.clauses literals (places_of hash store.clauses)
  found = found_first store.clauses literals p (places_of hash store.clauses) first s

  module _ (f : Stored) (k : RepresentsClauses store f) where
    hash_same : hash ≡ clause_hash_by (solver_name_of store.hasher) (width_of store.hasher) literals
    hash_same =
        let filed = first_filed store.clauses hash p first in
        sym filed.hash_is ∙ hashed_at store.hasher store.clauses p filed.inside k.hashed filed.there ∙ ap (clause_hash_by (solver_name_of store.hasher) (width_of store.hasher)) (same (literals_at store.clauses p) literals s)

    pub count_of_first : (r : Bool) → store_count_in r (clause_with literals f.clauses) ≡ slot_count r (slot_at store.clauses p)
    count_of_first r = count_there store f k literals hash hash_same p found r

    pub deleted_first : (r : Bool) (new : List Slot) → new ≡ without_count_at r p store.clauses → RepresentsClauses (record store { clauses = new }) (with_count_removed r literals f)
    deleted_first r new n = deleted_one store f k literals hash hash_same p found r new n
