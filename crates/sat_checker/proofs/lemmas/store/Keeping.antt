-- What the store represents, as clauses are added and removed.
use Rattle.std.proofs.Common.{ℕ, ◌+◌, ◌*◌, ◌/◌, ◌%◌, ◌-◌, ◌^◌, ◌≤◌, ◌≡◌, Bool, true, false, not, ◌&&◌, cond, eqb, List, [], ◌∷◌, ◌++◌, map, filter, Option, refl, sym, ◌∙◌, ap, subst, Result, Ok, Err, IfOk, ◌↔◌, unwrap_or}
use Rattle.sat_base.specs.values.Literals.{variable}
use Rattle.sat_base.specs.values.Hashes.{hash_of}
use Rattle.sat_checker.specs.Propagation.{PassesCheck}
use Rattle.sat_checker.specs.Stored.{Stored, solver_literal, clause_hash_by, bucket}
use Rattle.sat_checker.specs.Looks.{stored_literal_count, total_length}
use Rattle.sat_checker.specs.HasherView.{solver_name_of, width_of}
use Rattle.sat_checker.specs.announcements.Needed.{clauses_of_hashes}
use Rattle.std.specs.Result.{OnErr}
use Rattle.sat_checker.specs.inner.Reasons.{clauses_by_hash, clauses_by_hashes}
use Rattle.sat_checker.specs.inner.AssumedRoom.{HasStoredRoom}
use Rattle.sat_checker.specs.inner.SlotView.{Slot, is_removed, is_filed, all_lits, live_clauses, live_literal_count, bucket_in, bucket_of}
use Rattle.sat_checker.specs.inner.StoreView.{AreHashed, RepresentsClauses}
use Rattle.sat_checker.specs.declared.store.Store.{Store}
use Rattle.sat_checker.specs.declared.hash.ClauseHasher.{ClauseHasher}

-- equal solver names give equal hashes
same_names : (f g : ℕ → Option ℕ) → ((v : ℕ) → f v ≡ g v) → (ls : List ℕ) → map (solver_literal f) ls ≡ map (solver_literal g) ls
same_names f g e [] = refl
same_names f g e (l ∷ ls) = ap (λ o. solver_by o l ∷ map (solver_literal f) ls) (e (variable l)) ∙ ap (λ ms. solver_literal g l ∷ ms) (same_names f g e ls)
  where
    solver_by : Option ℕ → ℕ → ℕ
    solver_by o l = 2 * unwrap_or o (variable l) + l % 2

pub hash_same : (f g : ℕ → Option ℕ) (m n : ℕ) → ((v : ℕ) → f v ≡ g v) → m ≡ n → (ls : List ℕ) → clause_hash_by f m ls ≡ clause_hash_by g n ls
hash_same f g m n e w ls = ap (λ ks. hash_of ks / 2 ^ (64 - m)) (same_names f g e ls) ∙ ap (λ k. hash_of (map (solver_literal g) ls) / 2 ^ (64 - k)) w

-- the clauses of a hash are those of the definition's bucket
bucket_live : (h : ClauseHasher) (f : Stored) (k : ℕ) (ss : List Slot) → AreHashed h ss → ((v : ℕ) → solver_name_of h v ≡ f.solver_names v) → width_of h ≡ f.width
    → bucket_in k ss ≡ filter (λ c. eqb (clause_hash_by f.solver_names f.width c) k) (map (λ c. c.literals) (live_clauses ss))
bucket_live h f k [] a n w = refl
bucket_live h f k (s ∷ ss) a n w = go (is_removed s) refl (bucket_live h f k ss a.1 n w)
  where
    go : (b : Bool) → is_removed s ≡ b → bucket_in k ss ≡ filter (λ c. eqb (clause_hash_by f.solver_names f.width c) k) (map (λ c. c.literals) (live_clauses ss))
        → all_lits (cond (not b && eqb s.hash k) (s ∷ filter (is_filed k) ss) (filter (is_filed k) ss)) ≡ filter (λ c. eqb (clause_hash_by f.solver_names f.width c) k) (map (λ c. c.literals) (cond b [] (s.clause ∷ []) ++ live_clauses ss))
    go true e ih = ih
    go false e ih =
        let same : s.hash ≡ clause_hash_by f.solver_names f.width s.clause.literals = a.0 e ∙ hash_same (solver_name_of h) f.solver_names (width_of h) f.width n w s.clause.literals in
        ap (λ q. all_lits (cond (eqb q k) (s ∷ filter (is_filed k) ss) (filter (is_filed k) ss))) same ∙ pick (eqb (clause_hash_by f.solver_names f.width s.clause.literals) k) ih
      where
        pick : (b : Bool) → bucket_in k ss ≡ filter (λ c. eqb (clause_hash_by f.solver_names f.width c) k) (map (λ c. c.literals) (live_clauses ss))
            → all_lits (cond b (s ∷ filter (is_filed k) ss) (filter (is_filed k) ss)) ≡ cond b (s.clause.literals ∷ filter (λ c. eqb (clause_hash_by f.solver_names f.width c) k) (map (λ c. c.literals) (live_clauses ss))) (filter (λ c. eqb (clause_hash_by f.solver_names f.width c) k) (map (λ c. c.literals) (live_clauses ss)))
        pick true ih = ap (λ ls. s.clause.literals ∷ ls) ih
        pick false ih = ih

pub bucket_same : (store : Store) (f : Stored) → RepresentsClauses store f → (k : ℕ) → bucket_of store.clauses k ≡ bucket f k
bucket_same store f p k = bucket_live store.hasher f k store.clauses p.hashed p.names p.width ∙ ap (λ cs. filter (λ c. eqb (clause_hash_by f.solver_names f.width c) k) (map (λ c. c.literals) cs)) p.clauses

buckets_same : (store : Store) (f : Stored) → RepresentsClauses store f → (hashes : List ℕ) → map (bucket_of store.clauses) hashes ≡ map (bucket f) hashes
buckets_same store f p [] = refl
buckets_same store f p (k ∷ ks) = ap (λ b. b ∷ map (bucket_of store.clauses) ks) (bucket_same store f p k) ∙ ap (λ bs. bucket f k ∷ bs) (buckets_same store f p ks)

-- the filed clauses of a hash are those of the definition
filed_live : (h : ClauseHasher) (f : Stored) (k : ℕ) (ss : List Slot) → AreHashed h ss → ((v : ℕ) → solver_name_of h v ≡ f.solver_names v) → width_of h ≡ f.width
    → clauses_by_hash k ss ≡ filter (λ c. eqb (clause_hash_by f.solver_names f.width c.literals) k) (live_clauses ss)
filed_live h f k [] a n w = refl
filed_live h f k (s ∷ ss) a n w = go (is_removed s) refl (filed_live h f k ss a.1 n w)
  where
    go : (b : Bool) → is_removed s ≡ b → clauses_by_hash k ss ≡ filter (λ c. eqb (clause_hash_by f.solver_names f.width c.literals) k) (live_clauses ss)
        → map (λ x. x.clause) (cond (not b && eqb s.hash k) (s ∷ filter (is_filed k) ss) (filter (is_filed k) ss)) ≡ filter (λ c. eqb (clause_hash_by f.solver_names f.width c.literals) k) (cond b [] (s.clause ∷ []) ++ live_clauses ss)
    go true e ih = ih
    go false e ih =
        let same : s.hash ≡ clause_hash_by f.solver_names f.width s.clause.literals = a.0 e ∙ hash_same (solver_name_of h) f.solver_names (width_of h) f.width n w s.clause.literals in
        ap (λ q. map (λ (x : Slot). x.clause) (cond (eqb q k) (s ∷ filter (is_filed k) ss) (filter (is_filed k) ss))) same ∙ pick (eqb (clause_hash_by f.solver_names f.width s.clause.literals) k) ih
      where
        pick : (b : Bool) → clauses_by_hash k ss ≡ filter (λ c. eqb (clause_hash_by f.solver_names f.width c.literals) k) (live_clauses ss)
            → map (λ x. x.clause) (cond b (s ∷ filter (is_filed k) ss) (filter (is_filed k) ss)) ≡ cond b (s.clause ∷ filter (λ c. eqb (clause_hash_by f.solver_names f.width c.literals) k) (live_clauses ss)) (filter (λ c. eqb (clause_hash_by f.solver_names f.width c.literals) k) (live_clauses ss))
        pick true ih = ap (λ cs. s.clause ∷ cs) ih
        pick false ih = ih

pub named_same : (store : Store) (f : Stored) → RepresentsClauses store f → (hashes : List ℕ) → clauses_by_hashes hashes store.clauses ≡ clauses_of_hashes hashes f
named_same store f p [] = refl
named_same store f p (k ∷ ks) =
    ap (λ cs. cs ++ clauses_by_hashes ks store.clauses) (filed_live store.hasher f k store.clauses p.hashed p.names p.width ∙ ap (filter (λ c. eqb (clause_hash_by f.solver_names f.width c.literals) k)) p.clauses)
    ∙ ap (λ cs. filter (λ c. eqb (clause_hash_by f.solver_names f.width c.literals) k) f.clauses ++ cs) (named_same store f p ks)

-- the clauses of the store have room
room_kept : (store : Store) (room : List ℕ) (f : Stored) → RepresentsClauses store f → HasStoredRoom room f.clauses → HasStoredRoom room (live_clauses store.clauses)
room_kept store room f k h = subst (HasStoredRoom room) (sym k.clauses) h

pub checked : {E : Type 0} (r : Result Bool E) (store : Store) (room units clause hashes : List ℕ) → IfOk r (λ yes'. HasStoredRoom room (live_clauses store.clauses) → (yes' ≡ true) ↔ PassesCheck units clause (map (bucket_of store.clauses) hashes))
    → IfOk r (λ yes'. (f : Stored) → RepresentsClauses store f → HasStoredRoom room f.clauses → (yes' ≡ true) ↔ PassesCheck units clause (map (bucket f) hashes))
checked (Ok b) store room units clause hashes h = λ f k roomy. subst (λ bs. (b ≡ true) ↔ PassesCheck units clause bs) (buckets_same store f k hashes) (h (room_kept store room f k roomy))
checked (Err e) store room units clause hashes h = tt

pub short_checked : {E : Type 0} (r : Result Bool E) (store : Store) (room : List ℕ) → OnErr r (HasStoredRoom room (live_clauses store.clauses) → ⊥) → OnErr r ((f : Stored) → RepresentsClauses store f → HasStoredRoom room f.clauses → ⊥)
short_checked (Ok b) store room h = tt
short_checked (Err e) store room h = λ f k roomy. h (room_kept store room f k roomy)

-- an implication between results still holds under a premise
pub under_premise : {E : Type 0} (r : Result Bool E) (S A B : Type 0) → (IfOk r (λ b. b ≡ true → A) → IfOk r (λ b. b ≡ true → B)) → IfOk r (λ b. b ≡ true → S → A) → IfOk r (λ b. b ≡ true → S → B)
under_premise (Ok b) S A B law h = λ t s. law (λ t'. h t' s) t
under_premise (Err e) S A B law h = tt

pub length_same : (store : Store) (f : Stored) → RepresentsClauses store f → live_literal_count store.clauses ≡ stored_literal_count f
length_same store f k = ap (λ cs. total_length (map (λ c. c.literals) cs)) k.clauses

pub looks_same : (store : Store) (old new n : ℕ) → new ≤ old + n * live_literal_count store.clauses → (f : Stored) → RepresentsClauses store f → new ≤ old + n * stored_literal_count f
looks_same store old new n h f k = subst (λ m. new ≤ old + n * m) (length_same store f k) h

pub ruleset checking = (checked, looks_same)
