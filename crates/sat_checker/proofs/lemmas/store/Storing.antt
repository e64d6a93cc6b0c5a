-- What the place of a clause means for the stored clauses.
use Rattle.std.proofs.Common.{ℕ, zero, suc, ◌+◌, ◌<◌, ◌≤◌, ◌≡◌, is_some, Bool, true, false, not, ◌&&◌, cond, eqb, List, [], ◌∷◌, ◌++◌, length, Option, None, Some, refl, sym, ◌∙◌, ap, subst, arith, slice_set}
use Rattle.std.proofs.lemmas.Bool.{true≢false, eq-eqb}
use Rattle.sat_checker.specs.LiteralSets.{same_literals}
use Rattle.sat_checker.specs.Stored.{Stored, StoredClause, clause_hash_by}
use Rattle.sat_checker.specs.Storing.{with_count, new_clause, with_stored_clause, clause_with, without_count, unless_removed, without_clause}
use Rattle.sat_checker.specs.HasherView.{solver_name_of, width_of}
use Rattle.sat_checker.specs.inner.SlotView.{Slot, stored_slot, slot_at, slot_count, with_count_at, without_count_at, is_removed, live_clauses, live_literal_count, bucket_in, places_from, places_of, is_same_at, found_among}
use Rattle.sat_checker.specs.Looks.{total_length, stored_literal_count}
use Rattle.sat_checker.specs.inner.StoreView.{AreHashed, RepresentsClauses, StoreEffect, store_count_in, id_in}
use Rattle.sat_checker.specs.declared.store.Store.{Store}
use Rattle.sat_checker.specs.declared.hash.ClauseHasher.{ClauseHasher}
use Rattle.sat_checker.proofs.lemmas.meaning.Clauses.{same}
use Rattle.sat_checker.proofs.lemmas.store.Places.{gone_more, set_at}
use Rattle.sat_checker.proofs.lemmas.store.Buckets.{bucket_length}
use Rattle.sat_checker.proofs.lemmas.store.Keeping.{length_same}

-- the first place, counted from `k`, whose clause has the literals and is not removed
find_place : List ℕ → ℕ → List Slot → Option ℕ
find_place literals k [] = None
find_place literals k (s ∷ ss) = cond (not (is_removed s) && same_literals s.clause.literals literals) (Some k) (find_place literals (k + 1) ss)

found_is : (h : ClauseHasher) (all ss : List Slot) (literals : List ℕ) (k hash : ℕ) → ((j : ℕ) → slot_at all (k + j) ≡ slot_at ss j) → AreHashed h ss → hash ≡ clause_hash_by (solver_name_of h) (width_of h) literals
    → found_among all literals (places_from k hash ss) ≡ find_place literals k ss
unfolding find_place
found_is h all [] literals k hash at a e = refl
found_is h all (s ∷ ss) literals k hash at a e = go (is_removed s) refl (found_is h all ss literals (k + 1) hash (λ j. let z : k + 1 + j ≡ k + suc j = omega arith in ap (slot_at all) z ∙ at (suc j)) a.1 e)
  where
    first : is_same_at all literals k ≡ same_literals s.clause.literals literals
    first = let z : k ≡ k + 0 = omega arith in ap (is_same_at all literals) z ∙ ap (λ (x : Slot). same_literals x.clause.literals literals) (at 0)

    go : (g : Bool) → is_removed s ≡ g → found_among all literals (places_from (k + 1) hash ss) ≡ find_place literals (k + 1) ss
        → found_among all literals (cond (not g && eqb s.hash hash) (k ∷ places_from (k + 1) hash ss) (places_from (k + 1) hash ss)) ≡ cond (not g && same_literals s.clause.literals literals) (Some k) (find_place literals (k + 1) ss)
    go true q ih = ih
    go false q ih = by_hash (eqb s.hash hash) refl (same_literals s.clause.literals literals) refl
      where
        by_hash : (b : Bool) → eqb s.hash hash ≡ b → (d : Bool) → same_literals s.clause.literals literals ≡ d
            → found_among all literals (cond b (k ∷ places_from (k + 1) hash ss) (places_from (k + 1) hash ss)) ≡ cond d (Some k) (find_place literals (k + 1) ss)
        by_hash true m true n = ap (λ b. cond b (Some k) (found_among all literals (places_from (k + 1) hash ss))) (first ∙ n)
        by_hash true m false n = ap (λ b. cond b (Some k) (found_among all literals (places_from (k + 1) hash ss))) (first ∙ n) ∙ ih
        by_hash false m true n =
            let right : s.hash ≡ hash = a.0 q ∙ ap (clause_hash_by (solver_name_of h) (width_of h)) (same s.clause.literals literals n) ∙ sym e in
            absurd (true≢false (sym (eq-eqb s.hash hash right) ∙ m))
        by_hash false m false n = ih

-- what is known about the place of a stored clause
pub record IsStoredAt (ss : List Slot) (literals : List ℕ) (i : ℕ) : Type 0 where
  pub inside : i < length ss
  pub there : is_removed (slot_at ss i) ≡ false
  pub is : clause_with literals (live_clauses ss) ≡ Some (slot_at ss i).clause
  pub more : (r : Bool) (id : ℕ) → with_stored_clause r id literals (live_clauses ss) ≡ live_clauses (with_count_at r i ss)
  pub less : (r : Bool) → without_clause r literals (live_clauses ss) ≡ live_clauses (without_count_at r i ss)

pub record IsStoredNowhere (ss : List Slot) (literals : List ℕ) : Type 0 where
  pub none : clause_with literals (live_clauses ss) ≡ None
  pub new : (r : Bool) (id hash : ℕ) → with_stored_clause r id literals (live_clauses ss) ≡ live_clauses (ss ++ stored_slot r id hash literals ∷ [])

not_gone : (c : StoredClause) → (eqb c.irredundant 0 && eqb c.redundant 0) ≡ false → unless_removed c ≡ c ∷ []
not_gone c e = ap (λ b. cond b [] (c ∷ [])) e

not_gone_more : (r : Bool) (c : StoredClause) → unless_removed (with_count r c) ≡ with_count r c ∷ []
not_gone_more r c = not_gone (with_count r c) (gone_more c 0 r)

stands_first : (s : Slot) (ss : List Slot) (literals : List ℕ) → is_removed s ≡ false → same_literals s.clause.literals literals ≡ true → IsStoredAt (s ∷ ss) literals 0
stands_first s ss literals g e = record {
  inside = omega arith;
  there = g;
  is = ap (λ cs. clause_with literals (cs ++ live_clauses ss)) (not_gone s.clause g) ∙ ap (λ b. cond b (Some s.clause) (clause_with literals (live_clauses ss))) e;
  more = λ r id.
      ap (λ cs. with_stored_clause r id literals (cs ++ live_clauses ss)) (not_gone s.clause g) ∙ ap (λ b. cond b (with_count r s.clause ∷ live_clauses ss) (s.clause ∷ with_stored_clause r id literals (live_clauses ss))) e
      ∙ sym (ap (λ cs. cs ++ live_clauses ss) (not_gone_more r s.clause));
  less = λ r.
      ap (λ cs. without_clause r literals (cs ++ live_clauses ss)) (not_gone s.clause g) ∙ ap (λ b. cond b (unless_removed (without_count r s.clause) ++ live_clauses ss) (s.clause ∷ without_clause r literals (live_clauses ss))) e;
}

stands_after : (s : Slot) (ss : List Slot) (literals : List ℕ) (i : ℕ) → (not (is_removed s) && same_literals s.clause.literals literals) ≡ false → IsStoredAt ss literals i → IsStoredAt (s ∷ ss) literals (suc i)
stands_after s ss literals i n k = go (is_removed s) refl n
  where
    go : (g : Bool) → is_removed s ≡ g → (not g && same_literals s.clause.literals literals) ≡ false → IsStoredAt (s ∷ ss) literals (suc i)
    go true g n = record {
      inside = let l : i < length ss = k.inside in omega arith;
      there = k.there;
      is = ap (λ b. clause_with literals (cond b [] (s.clause ∷ []) ++ live_clauses ss)) g ∙ k.is;
      more = λ r id. ap (λ b. with_stored_clause r id literals (cond b [] (s.clause ∷ []) ++ live_clauses ss)) g ∙ k.more r id ∙ sym (ap (λ b. cond b [] (s.clause ∷ []) ++ live_clauses (with_count_at r i ss)) g);
      less = λ r. ap (λ b. without_clause r literals (cond b [] (s.clause ∷ []) ++ live_clauses ss)) g ∙ k.less r ∙ sym (ap (λ b. cond b [] (s.clause ∷ []) ++ live_clauses (without_count_at r i ss)) g);
    }
    go false g n = record {
      inside = let l : i < length ss = k.inside in omega arith;
      there = k.there;
      is = ap (λ b. clause_with literals (cond b [] (s.clause ∷ []) ++ live_clauses ss)) g ∙ ap (λ b. cond b (Some s.clause) (clause_with literals (live_clauses ss))) n ∙ k.is;
      more = λ r id.
          ap (λ b. with_stored_clause r id literals (cond b [] (s.clause ∷ []) ++ live_clauses ss)) g ∙ ap (λ b. cond b (with_count r s.clause ∷ live_clauses ss) (s.clause ∷ with_stored_clause r id literals (live_clauses ss))) n
          ∙ ap (λ cs. s.clause ∷ cs) (k.more r id) ∙ sym (ap (λ b. cond b [] (s.clause ∷ []) ++ live_clauses (with_count_at r i ss)) g);
      less = λ r.
          ap (λ b. without_clause r literals (cond b [] (s.clause ∷ []) ++ live_clauses ss)) g ∙ ap (λ b. cond b (unless_removed (without_count r s.clause) ++ live_clauses ss) (s.clause ∷ without_clause r literals (live_clauses ss))) n
          ∙ ap (λ cs. s.clause ∷ cs) (k.less r) ∙ sym (ap (λ b. cond b [] (s.clause ∷ []) ++ live_clauses (without_count_at r i ss)) g);
    }

place_there : (literals : List ℕ) (ss : List Slot) (k p : ℕ) → find_place literals k ss ≡ Some p → (i : ℕ) × (p ≡ k + i) × IsStoredAt ss literals i
unfolding find_place
place_there literals [] k p e = absurd cc
place_there literals (s ∷ ss) k p e = go (place_there literals ss (k + 1) p) (not (is_removed s) && same_literals s.clause.literals literals) refl e
  where
    parts : (a b : Bool) → (not a && b) ≡ true → (a ≡ false) × (b ≡ true)
    parts true b h = absurd (true≢false (sym h))
    parts false b h = (refl, h)

    go : (find_place literals (k + 1) ss ≡ Some p → (i : ℕ) × (p ≡ k + 1 + i) × IsStoredAt ss literals i) → (b : Bool) → (not (is_removed s) && same_literals s.clause.literals literals) ≡ b → cond b (Some k) (find_place literals (k + 1) ss) ≡ Some p → (i : ℕ) × (p ≡ k + i) × IsStoredAt (s ∷ ss) literals i
    go ih true n e = let q : k ≡ p = cc in let m = parts (is_removed s) (same_literals s.clause.literals literals) n in (0, omega arith, stands_first s ss literals m.0 m.1)
    go ih false n e = let r = ih e in (suc r.0, (let q : p ≡ k + 1 + r.0 = r.1 in omega arith), stands_after s ss literals r.0 n r.2)

place_nowhere : (literals : List ℕ) (ss : List Slot) (k : ℕ) → find_place literals k ss ≡ None → IsStoredNowhere ss literals
unfolding find_place
place_nowhere literals [] k e = record { none = refl; new = λ r id hash. fresh_one r id }
  where
    fresh_one : (r : Bool) (id : ℕ) → new_clause r id literals ∷ [] ≡ unless_removed (new_clause r id literals) ++ []
    fresh_one true id = refl
    fresh_one false id = refl
place_nowhere literals (s ∷ ss) k e = go (place_nowhere literals ss (k + 1)) (not (is_removed s) && same_literals s.clause.literals literals) refl e
  where
    go : (find_place literals (k + 1) ss ≡ None → IsStoredNowhere ss literals) → (b : Bool) → (not (is_removed s) && same_literals s.clause.literals literals) ≡ b → cond b (Some k) (find_place literals (k + 1) ss) ≡ None → IsStoredNowhere (s ∷ ss) literals
    go ih true n e = absurd cc
    go ih false n e = by_gone (is_removed s) refl n (ih e)
      where
        by_gone : (g : Bool) → is_removed s ≡ g → (not g && same_literals s.clause.literals literals) ≡ false → IsStoredNowhere ss literals → IsStoredNowhere (s ∷ ss) literals
        by_gone true g n ih = record {
          none = ap (λ b. clause_with literals (cond b [] (s.clause ∷ []) ++ live_clauses ss)) g ∙ ih.none;
          new = λ r id hash. ap (λ b. with_stored_clause r id literals (cond b [] (s.clause ∷ []) ++ live_clauses ss)) g ∙ ih.new r id hash ∙ sym (ap (λ b. cond b [] (s.clause ∷ []) ++ live_clauses (ss ++ stored_slot r id hash literals ∷ [])) g);
        }
        by_gone false g n ih = record {
          none = ap (λ b. clause_with literals (cond b [] (s.clause ∷ []) ++ live_clauses ss)) g ∙ ap (λ b. cond b (Some s.clause) (clause_with literals (live_clauses ss))) n ∙ ih.none;
          new = λ r id hash.
              ap (λ b. with_stored_clause r id literals (cond b [] (s.clause ∷ []) ++ live_clauses ss)) g ∙ ap (λ b. cond b (with_count r s.clause ∷ live_clauses ss) (s.clause ∷ with_stored_clause r id literals (live_clauses ss))) n
              ∙ ap (λ cs. s.clause ∷ cs) (ih.new r id hash) ∙ sym (ap (λ b. cond b [] (s.clause ∷ []) ++ live_clauses (ss ++ stored_slot r id hash literals ∷ [])) g);
        }

module _ (h : ClauseHasher) (ss : List Slot) (literals : List ℕ) (hash : ℕ) (a : AreHashed h ss) (e : hash ≡ clause_hash_by (solver_name_of h) (width_of h) literals) where
  from_start : found_among ss literals (places_of hash ss) ≡ find_place literals 0 ss
  from_start = found_is h ss ss literals 0 hash (λ j. let z : 0 + j ≡ j = omega arith in ap (slot_at ss) z) a e

  pub stands_found : (p : ℕ) → Some p ≡ found_among ss literals (places_of hash ss) → IsStoredAt ss literals p
  stands_found p f = let r = place_there literals ss 0 p (sym (f ∙ from_start)) in subst (IsStoredAt ss literals) (let q : p ≡ 0 + r.0 = r.1 in let z : r.0 ≡ p = omega arith in z) r.2

  pub stands_none : None ≡ found_among ss literals (places_of hash ss) → IsStoredNowhere ss literals
  stands_none f = place_nowhere literals ss 0 (sym (f ∙ from_start))

-- hashes stay current
pub hashed_set : (h : ClauseHasher) (ss : List Slot) (i : ℕ) (t : Slot) → AreHashed h ss → (is_removed t ≡ false → t.hash ≡ clause_hash_by (solver_name_of h) (width_of h) t.clause.literals) → AreHashed h (slice_set ss i t)
hashed_set h [] i t a k = tt
hashed_set h (s ∷ ss) zero t a k = (k, a.1)
hashed_set h (s ∷ ss) (suc i) t a k = (a.0, hashed_set h ss i t a.1 k)

pub hashed_push : (h : ClauseHasher) (ss : List Slot) (t : Slot) → AreHashed h ss → t.hash ≡ clause_hash_by (solver_name_of h) (width_of h) t.clause.literals → AreHashed h (ss ++ t ∷ [])
hashed_push h [] t a k = ((λ n. k), tt)
hashed_push h (s ∷ ss) t a k = (a.0, hashed_push h ss t a.1 k)

pub hashed_at : (h : ClauseHasher) (ss : List Slot) (i : ℕ) → i < length ss → AreHashed h ss → is_removed (slot_at ss i) ≡ false → (slot_at ss i).hash ≡ clause_hash_by (solver_name_of h) (width_of h) (slot_at ss i).clause.literals
hashed_at h [] i l a g = absurd (omega arith)
hashed_at h (s ∷ ss) zero l a g = a.0 g
hashed_at h (s ∷ ss) (suc i) l a g = hashed_at h ss i (omega arith) a.1 g

-- a place that was found exists and is not removed, whatever the hashes are
pub record IsThere (ss : List Slot) (p : ℕ) : Type 0 where
  pub inside : p < length ss
  pub there : is_removed (slot_at ss p) ≡ false

there_from : (all ss : List Slot) (literals : List ℕ) (k hash p : ℕ) → found_among all literals (places_from k hash ss) ≡ Some p → (i : ℕ) × (p ≡ k + i) × IsThere ss i
there_from all [] literals k hash p e = absurd cc
there_from all (s ∷ ss) literals k hash p e = go (there_from all ss literals (k + 1) hash p) (is_removed s) refl (eqb s.hash hash) e
  where
    later : ((i : ℕ) × (p ≡ k + 1 + i) × IsThere ss i) → (i : ℕ) × (p ≡ k + i) × IsThere (s ∷ ss) i
    later r = (suc r.0, (let q : p ≡ k + 1 + r.0 = r.1 in omega arith), record { inside = let l : r.0 < length ss = r.2.inside in omega arith; there = r.2.there })

    go : (found_among all literals (places_from (k + 1) hash ss) ≡ Some p → (i : ℕ) × (p ≡ k + 1 + i) × IsThere ss i) → (g : Bool) → is_removed s ≡ g → (b : Bool)
        → found_among all literals (cond (not g && b) (k ∷ places_from (k + 1) hash ss) (places_from (k + 1) hash ss)) ≡ Some p → (i : ℕ) × (p ≡ k + i) × IsThere (s ∷ ss) i
    go ih true q b e = later (ih e)
    go ih false q false e = later (ih e)
    go ih false q true e = pick (is_same_at all literals k) e
      where
        pick : (b : Bool) → cond b (Some k) (found_among all literals (places_from (k + 1) hash ss)) ≡ Some p → (i : ℕ) × (p ≡ k + i) × IsThere (s ∷ ss) i
        pick true e = let z : k ≡ p = cc in (0, omega arith, record { inside = omega arith; there = q })
        pick false e = later (ih e)

pub is_there : (ss : List Slot) (literals : List ℕ) (hash p : ℕ) → Some p ≡ found_among ss literals (places_of hash ss) → IsThere ss p
is_there ss literals hash p e = let r = there_from ss ss literals 0 hash p (sym e) in subst (IsThere ss) (let q : p ≡ 0 + r.0 = r.1 in let z : r.0 ≡ p = omega arith in z) r.2

pub inside_more : (r : Bool) (p : ℕ) (ss new : List Slot) → p < length ss → new ≡ with_count_at r p ss → p < length new
inside_more r p ss new l e = let n : length (with_count_at r p ss) ≡ length ss = same_length ss p (record (slot_at ss p) { clause = with_count r (slot_at ss p).clause }) in let m : length new ≡ length (with_count_at r p ss) = ap length e in omega arith
  where
    same_length : (xs : List Slot) (i : ℕ) (t : Slot) → length (slice_set xs i t) ≡ length xs
    same_length [] i t = refl
    same_length (x ∷ xs) zero t = refl
    same_length (x ∷ xs) (suc i) t = ap suc (same_length xs i t)

pub looks_one : (store : Store) (hash old new : ℕ) → new ≤ old + total_length (bucket_in hash store.clauses) → (f : Stored) → RepresentsClauses store f → new ≤ old + stored_literal_count f
looks_one store hash old new h f k =
    let a : total_length (bucket_in hash store.clauses) ≤ live_literal_count store.clauses = bucket_length hash store.clauses in
    let b : live_literal_count store.clauses ≡ stored_literal_count f = length_same store f k in omega arith

module _ (store : Store) (f : Stored) (k : RepresentsClauses store f) (literals : List ℕ) (hash : ℕ) (e : hash ≡ clause_hash_by (solver_name_of store.hasher) (width_of store.hasher) literals) where
  pub count_there : (p : ℕ) → Some p ≡ found_among store.clauses literals (places_of hash store.clauses) → (r : Bool) → store_count_in r (clause_with literals f.clauses) ≡ slot_count r (slot_at store.clauses p)
  count_there p found r = ap (store_count_in r) (ap (clause_with literals) (sym k.clauses) ∙ (stands_found store.hasher store.clauses literals hash k.hashed e p found).is)

  pub count_none : None ≡ found_among store.clauses literals (places_of hash store.clauses) → (r : Bool) → store_count_in r (clause_with literals f.clauses) ≡ 0
  count_none found r = ap (store_count_in r) (ap (clause_with literals) (sym k.clauses) ∙ (stands_none store.hasher store.clauses literals hash k.hashed e found).none) ∙ zero_in r
    where
      zero_in : (r : Bool) → store_count_in r None ≡ 0
      zero_in true = refl
      zero_in false = refl

  pub stored_again : (p : ℕ) → Some p ≡ found_among store.clauses literals (places_of hash store.clauses) → (r : Bool) (id stored_id : ℕ) (new : List Slot) → new ≡ with_count_at r p store.clauses → stored_id ≡ (slot_at new p).clause.id
      → StoreEffect (record store { clauses = new }) f id r literals stored_id false
  stored_again p found r id stored_id new n i =
      let s = stands_found store.hasher store.clauses literals hash k.hashed e p found in
      let was : clause_with literals f.clauses ≡ Some (slot_at store.clauses p).clause = ap (clause_with literals) (sym k.clauses) ∙ s.is in
      record {
        stored = record {
          clauses = ap live_clauses n ∙ sym (s.more r id) ∙ ap (with_stored_clause r id literals) k.clauses;
          hashed = subst (AreHashed store.hasher) (sym n) (hashed_set store.hasher store.clauses p (record (slot_at store.clauses p) { clause = with_count r (slot_at store.clauses p).clause }) k.hashed
              (λ g. hashed_at store.hasher store.clauses p s.inside k.hashed s.there ∙ ap (clause_hash_by (solver_name_of store.hasher) (width_of store.hasher)) (counted_literals r (slot_at store.clauses p).clause)));
          names = k.names;
          width = k.width;
        };
        id_is =
            i ∙ ap (λ x. (slot_at x p).clause.id) n ∙ ap (λ (x : Slot). x.clause.id) (set_at store.clauses p (record (slot_at store.clauses p) { clause = with_count r (slot_at store.clauses p).clause }) s.inside)
            ∙ counted_id r (slot_at store.clauses p).clause ∙ sym (ap (λ o. id_in o id) was);
        new_is = sym (ap (λ (o : Option StoredClause). not (is_some o)) was);
      }
    where
      counted_literals : (r : Bool) (c : StoredClause) → c.literals ≡ (with_count r c).literals
      counted_literals true c = refl
      counted_literals false c = refl

      counted_id : (r : Bool) (c : StoredClause) → (with_count r c).id ≡ c.id
      counted_id true c = refl
      counted_id false c = refl

  pub stored_new : None ≡ found_among store.clauses literals (places_of hash store.clauses) → (r : Bool) (id : ℕ) (new : List Slot) → new ≡ store.clauses ++ stored_slot r id hash literals ∷ []
      → StoreEffect (record store { clauses = new }) f id r literals id true
  stored_new found r id new n =
      let s = stands_none store.hasher store.clauses literals hash k.hashed e found in
      let was : clause_with literals f.clauses ≡ None = ap (clause_with literals) (sym k.clauses) ∙ s.none in
      record {
        stored = record {
          clauses = ap live_clauses n ∙ sym (s.new r id hash) ∙ ap (with_stored_clause r id literals) k.clauses;
          hashed = subst (AreHashed store.hasher) (sym n) (hashed_push store.hasher store.clauses (stored_slot r id hash literals) k.hashed (e ∙ ap (clause_hash_by (solver_name_of store.hasher) (width_of store.hasher)) (fresh_literals r)));
          names = k.names;
          width = k.width;
        };
        id_is = sym (ap (λ o. id_in o id) was);
        new_is = sym (ap (λ (o : Option StoredClause). not (is_some o)) was);
      }
    where
      fresh_literals : (r : Bool) → literals ≡ (stored_slot r id hash literals).clause.literals
      fresh_literals true = refl
      fresh_literals false = refl

  pub deleted_one : (p : ℕ) → Some p ≡ found_among store.clauses literals (places_of hash store.clauses) → (r : Bool) (new : List Slot) → new ≡ without_count_at r p store.clauses
      → RepresentsClauses (record store { clauses = new }) (record f { clauses = without_clause r literals f.clauses })
  deleted_one p found r new n =
      let s = stands_found store.hasher store.clauses literals hash k.hashed e p found in
      record {
        clauses = ap live_clauses n ∙ sym (s.less r) ∙ ap (without_clause r literals) k.clauses;
        hashed = subst (AreHashed store.hasher) (sym n) (hashed_set store.hasher store.clauses p (record (slot_at store.clauses p) { clause = without_count r (slot_at store.clauses p).clause }) k.hashed
            (λ g. hashed_at store.hasher store.clauses p s.inside k.hashed s.there ∙ ap (clause_hash_by (solver_name_of store.hasher) (width_of store.hasher)) (left_literals r (slot_at store.clauses p).clause)));
        names = k.names;
        width = k.width;
      }
    where
      left_literals : (r : Bool) (c : StoredClause) → c.literals ≡ (without_count r c).literals
      left_literals true c = refl
      left_literals false c = refl
