-- Stored clauses that are named by hashes are in the buckets of these hashes.
-- A clause passes if they lead to a conflict.
use Rattle.std.proofs.Common.{ℕ, ◌≡◌, ◌≢◌, Bool, true, false, cond, eqb, List, [], ◌∷◌, ◌++◌, map, filter, refl, sym, ◌∙◌, subst, ◌⊎◌, inl, inr, append-nil, Some, is_some}
use Rattle.std.proofs.lemmas.Bool.{both_ways, eq-eqb, true≢false}
use Rattle.std.specs.List.{AllByRecursion}
use Rattle.sat_base.specs.values.Literals.{negated}
use Rattle.sat_checker.specs.LiteralSets.{canonical, same_literals}
use Rattle.sat_checker.specs.Propagation.{IsSubsequence, BucketsConflict, clauses_in, conflict}
use Rattle.sat_checker.specs.Stored.{StoredClause, Stored, unit_literals, long_clauses, clause_hash_by, bucket}
use Rattle.sat_checker.specs.Storing.{clause_with}
use Rattle.sat_checker.specs.ConflictPropagation.{PropagatesToConflict, AreStoredByHash, stored_rup_assumptions, PropagatingPasses}
use Rattle.sat_checker.proofs.lemmas.sets.Order.{among-append}
use Rattle.sat_checker.proofs.lemmas.meaning.Clauses.{same}
use Rattle.sat_checker.proofs.lemmas.leading.AnyOrder.{hash_any_order}
use Rattle.sat_checker.proofs.lemmas.leading.Turns.{longer, picked_from, sorted_lead}

following : (b xs ys : List (List ℕ)) → IsSubsequence xs ys → IsSubsequence xs (b ++ ys)
following [] xs ys h = h
following (y ∷ b) xs ys h = longer xs y (b ++ ys) (following b xs ys h)

sub_trans : (xs ys zs : List (List ℕ)) → IsSubsequence xs ys → IsSubsequence ys zs → IsSubsequence xs zs
sub_trans [] ys zs s t = tt
sub_trans (x ∷ xs) [] zs s t = absurd s
sub_trans (x ∷ xs) (y ∷ ys) [] s t = absurd t
sub_trans (x ∷ xs) (y ∷ ys) (z ∷ zs) s t =
    elim t [
      | inl p ↦ elim s [ inl q ↦ inl (q.0 ∙ p.0, sub_trans xs ys zs q.1 p.1) | inr k ↦ inr (sub_trans (x ∷ xs) ys zs k p.1) ]
      | inr k ↦ inr (sub_trans (x ∷ xs) (y ∷ ys) zs s k)
    ]

abbrev Has : List ℕ → List (List ℕ) → Type 0
Has x [] = ⊥
Has x (y ∷ ys) = (x ≡ y) ⊎ Has x ys

has_filter : (test : List ℕ → Bool) (x : List ℕ) (cs : List (List ℕ)) → Has x cs → test x ≡ true → Has x (filter test cs)
has_filter test x [] h t = h
has_filter test x (c ∷ cs) h t = go (has_filter test x cs) (test c) refl
  where
    go : (Has x cs → test x ≡ true → Has x (filter test cs)) → (b : Bool) → test c ≡ b → Has x (cond b (c ∷ filter test cs) (filter test cs))
    go ih true e = elim h [ inl s ↦ inl s | inr k ↦ inr (ih k t) ]
    go ih false e = elim h [ inl s ↦ absurd (both_ways (test c) e (subst (λ y. test y ≡ true) s t)) | inr k ↦ ih k t ]

-- a set that is found is in the list
has_found : (set : List ℕ) (cs : List StoredClause) → is_some (clause_with set cs) ≡ true → Has set (map (λ c. c.literals) cs)
has_found set [] n = absurd (true≢false (sym n))
has_found set (c ∷ cs) n = go (has_found set cs) (same_literals c.literals set) refl n
  where
    go : (is_some (clause_with set cs) ≡ true → Has set (map (λ c. c.literals) cs)) → (b : Bool) → same_literals c.literals set ≡ b → is_some (cond b (Some c) (clause_with set cs)) ≡ true → Has set (map (λ c. c.literals) (c ∷ cs))
    go ih true e k = inl (sym (same c.literals set e))
    go ih false e k = inr (ih k)

in_bucket : (f : Stored) (set : List ℕ) (h : ℕ) → Has set (long_clauses f) → clause_hash_by f.solver_names f.width set ≡ h → Has set (bucket f h)
in_bucket f set h k e = has_filter (λ c. eqb (clause_hash_by f.solver_names f.width c) h) set (long_clauses f) k (eq-eqb (clause_hash_by f.solver_names f.width set) h e)

from_bucket : (x : List ℕ) (b xs ys : List (List ℕ)) → Has x b → IsSubsequence xs ys → IsSubsequence (x ∷ xs) (b ++ ys)
from_bucket x [] xs ys h s = absurd h
from_bucket x (y ∷ b) xs ys h s = elim h [ inl e ↦ inl (e, following b xs ys s) | inr k ↦ inr (from_bucket x b xs ys k s) ]

not_empty : (x : List ℕ) (b : List (List ℕ)) → Has x b → b ≢ []
not_empty x [] h e = h
not_empty x (y ∷ b) h e = cc

-- every set is in the bucket of its hash
abbrev AreInBuckets : Stored → List (List ℕ) → List ℕ → Type 0
AreInBuckets f [] [] = Unit {0}
AreInBuckets f [] (h ∷ hs) = ⊥
AreInBuckets f (c ∷ cs) [] = ⊥
AreInBuckets f (c ∷ cs) (h ∷ hs) = Has c (bucket f h) × AreInBuckets f cs hs

all_chosen : (f : Stored) (cs : List (List ℕ)) (hs : List ℕ) → AreInBuckets f cs hs → IsSubsequence cs (clauses_in (map (bucket f) hs))
all_chosen f [] hs h = tt
all_chosen f (c ∷ cs) [] h = absurd h
all_chosen f (c ∷ cs) (k ∷ ks) h = from_bucket c (bucket f k) cs (clauses_in (map (bucket f) ks)) h.0 (all_chosen f cs ks h.1)

none_empty : (f : Stored) (cs : List (List ℕ)) (hs : List ℕ) → AreInBuckets f cs hs → AllByRecursion (λ b. b ≢ []) (map (bucket f) hs)
none_empty f [] [] h = tt
none_empty f [] (k ∷ ks) h = absurd h
none_empty f (c ∷ cs) [] h = absurd h
none_empty f (c ∷ cs) (k ∷ ks) h = (not_empty c (bucket f k) h.0, none_empty f cs ks h.1)

-- a subsequence of these sets is a subsequence of the clauses of the buckets
chosen_from : (f : Stored) (picked cs : List (List ℕ)) (hs : List ℕ) → IsSubsequence picked cs → AreInBuckets f cs hs → IsSubsequence picked (clauses_in (map (bucket f) hs))
chosen_from f picked cs hs s h = sub_trans picked cs (clauses_in (map (bucket f) hs)) s (all_chosen f cs hs h)

in_buckets : (f : Stored) (named : List (List ℕ)) (hashes : List ℕ) → AreStoredByHash f named hashes → AreInBuckets f (map canonical named) hashes
in_buckets f [] [] h = tt
in_buckets f [] (k ∷ ks) h = absurd h
in_buckets f (c ∷ cs) [] h = absurd h
in_buckets f (c ∷ cs) (k ∷ ks) h =
    (in_bucket f (canonical c) k (has_found (canonical c) f.clauses h.0.stored) (hash_any_order f.solver_names f.width c h.0.once ∙ sym h.0.hash), in_buckets f cs ks h.1)

lead_to_conflict : (f : Stored) (clause hashes : List ℕ) (named : List (List ℕ)) → AreStoredByHash f named hashes → PropagatesToConflict (stored_rup_assumptions f clause) named → BucketsConflict (map negated clause ++ unit_literals f) (map (bucket f) hashes)
lead_to_conflict f clause hashes named n lead =
    let r = picked_from (map canonical named) (stored_rup_assumptions f clause) (map negated clause ++ unit_literals f) (λ l. sym (among-append (map negated clause) (unit_literals f) l)) (sorted_lead named (stored_rup_assumptions f clause) lead) in
    let s = in_buckets f named hashes n in
    record {
      first = map (bucket f) hashes;
      rest = [];
      picked = r.picked;
      split = sym (append-nil (map (bucket f) hashes));
      none_empty = none_empty f (map canonical named) hashes s;
      chosen = chosen_from f r.picked (map canonical named) hashes r.chosen s;
      conflict = r.conflict;
    }

pub leading_passes : PropagatingPasses
leading_passes f clause hashes named n lead = conflict (lead_to_conflict f clause hashes named n lead)
