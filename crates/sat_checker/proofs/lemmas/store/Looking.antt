-- The clause that a lookup finds.
use Rattle.std.proofs.Common.{ℕ, ◌≡◌, Bool, true, false, cond, List, [], ◌∷◌, None, Some, refl, sym, ◌∙◌, ap}
use Rattle.sat_checker.specs.LiteralSets.{same_literals}
use Rattle.sat_checker.specs.Stored.{Stored, StoredClause, clause_hash_by}
use Rattle.sat_checker.specs.Storing.{clause_with}
use Rattle.sat_checker.specs.HasherView.{solver_name_of, width_of}
use Rattle.sat_checker.specs.inner.SlotView.{Slot, literals_at, slot_at, slot_count, places_of, found_among}
use Rattle.sat_checker.specs.inner.StoreView.{RepresentsClauses, found_clause}
use Rattle.sat_checker.specs.declared.store.Store.{Store}
use Rattle.sat_checker.proofs.lemmas.meaning.Clauses.{same}
use Rattle.sat_checker.proofs.lemmas.store.Storing.{stands_found, stands_none}

-- a stored clause that is found has the literals
pub literals_found : (literals : List ℕ) (c : StoredClause) (cs : List StoredClause) → clause_with literals cs ≡ Some c → c.literals ≡ literals
literals_found literals c [] e = absurd cc
literals_found literals c (d ∷ ds) e = go (literals_found literals c ds) (same_literals d.literals literals) refl e
  where
    go : (clause_with literals ds ≡ Some c → c.literals ≡ literals) → (b : Bool) → same_literals d.literals literals ≡ b → cond b (Some d) (clause_with literals ds) ≡ Some c → c.literals ≡ literals
    go ih true n e = let q : d ≡ c = cc in ap (λ (x : StoredClause). x.literals) (sym q) ∙ same d.literals literals n
    go ih false n e = ih e

-- the clause at a place that is found has the literals
pub literals_there : (ss : List Slot) (literals : List ℕ) (p : ℕ) (ps : List ℕ) → Some p ≡ found_among ss literals ps → literals ≡ literals_at ss p
literals_there ss literals p [] e = absurd cc
literals_there ss literals p (q ∷ ps) e = go (literals_there ss literals p ps) (same_literals (literals_at ss q) literals) refl e
  where
    go : (Some p ≡ found_among ss literals ps → literals ≡ literals_at ss p) → (b : Bool) → same_literals (literals_at ss q) literals ≡ b → Some p ≡ cond b (Some q) (found_among ss literals ps) → literals ≡ literals_at ss p
    go ih true n e = let r : p ≡ q = cc in sym (ap (literals_at ss) r ∙ same (literals_at ss q) literals n)
    go ih false n e = ih e

module _ (store : Store) (f : Stored) (k : RepresentsClauses store f) (literals : List ℕ) (hash : ℕ) (e : hash ≡ clause_hash_by (solver_name_of store.hasher) (width_of store.hasher) literals) where
  pub none_found : None ≡ found_among store.clauses literals (places_of hash store.clauses) → clause_with literals f.clauses ≡ None
  none_found found = ap (clause_with literals) (sym k.clauses) ∙ (stands_none store.hasher store.clauses literals hash k.hashed e found).none

  pub one_found : (p : ℕ) → Some p ≡ found_among store.clauses literals (places_of hash store.clauses) → (id irredundant redundant : ℕ) → id ≡ (slot_at store.clauses p).clause.id → irredundant ≡ slot_count false (slot_at store.clauses p)
      → redundant ≡ slot_count true (slot_at store.clauses p) → clause_with literals f.clauses ≡ found_clause literals (Some (record { id = id; irredundant = irredundant; redundant = redundant }))
  one_found p found id irredundant redundant i n r =
      was ∙ ap (λ ls. Some (signed there.id ls there.irredundant there.redundant)) (literals_found literals there f.clauses was) ∙ ap (λ x. Some (signed x literals there.irredundant there.redundant)) (sym i)
      ∙ ap (λ x. Some (signed id literals x there.redundant)) (sym n) ∙ ap (λ x. Some (signed id literals irredundant x)) (sym r)
    where
      there : StoredClause
      there = (slot_at store.clauses p).clause

      was : clause_with literals f.clauses ≡ Some there
      was = ap (clause_with literals) (sym k.clauses) ∙ (stands_found store.hasher store.clauses literals hash k.hashed e p found).is

      signed : ℕ → List ℕ → ℕ → ℕ → StoredClause
      signed i ls n r = record { id = i; literals = ls; irredundant = n; redundant = r }
