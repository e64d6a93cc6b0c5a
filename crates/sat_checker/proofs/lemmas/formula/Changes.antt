-- The change that storing a derived clause makes is the one that deriving it announces.
use Rattle.std.proofs.Common.{ℕ, ◌+◌, ◌^◌, max, inl, inr, ◌≤◌, ◌≡◌, ◌==◌, ◌&&◌, Bool, true, false, not, cond, List, [], ◌∷◌, length, Option, None, Some, is_some, Err, refl, sym, ◌∙◌, ap, arith}
use Rattle.sat_checker.specs.Stored.{Stored, StoredClause}
use Rattle.sat_checker.specs.Storing.{clause_with, with_input, with_stored}
use Rattle.sat_checker.specs.announcements.Announcements.{MakeIrredundant, announced_derived_set, id_of, id_of_set, is_only_redundant}
use Rattle.sat_checker.specs.inner.FormulaView.{ChangeResult}
use Rattle.sat_checker.specs.inner.StoreView.{StoreEffect, store_count_in, id_in}
use Rattle.sat_checker.specs.listeners.AnnouncingView.{announced_change, change_in, HasNoStoredUnitClause}
use Rattle.sat_checker.specs.declared.announce.step_announcements.StoreClauseResult.TheVariants as results
use Rattle.sat_checker.specs.declared.store.Placed.{Placed}
use Rattle.sat_checker.specs.declared.store.Store.{Store}
use Rattle.sat_checker.specs.declared.store.StoreError.{StoreError}
use Rattle.sat_checker.specs.declared.store.StoreError.TheVariants.{OutOfMemory, CounterEnd}

new_change : (r : Bool) (p : Placed) → p.is_new ≡ true → change_in r p ≡ results.New
new_change r p e = ap (λ b. cond b results.New (cond r results.Duplicate (cond (p.irredundant == 0) (results.NewlyIrredundant p.id) results.Duplicate))) e

old_change : (r : Bool) (p : Placed) → p.is_new ≡ false → change_in r p ≡ cond r results.Duplicate (cond (p.irredundant == 0) (results.NewlyIrredundant p.id) results.Duplicate)
old_change r p e = ap (λ b. cond b results.New (cond r results.Duplicate (cond (p.irredundant == 0) (results.NewlyIrredundant p.id) results.Duplicate))) e

-- the change that a clause of two or more literals makes
pub long_change : (store : Store) (f : Stored) (id : ℕ) (r : Bool) (ls ids : List ℕ) (p : Placed) → 2 ≤ length ls → StoreEffect store f id r ls p.id p.is_new → store_count_in false (clause_with ls f.clauses) ≡ p.irredundant
    → announced_change (change_in r p) f.next_id r ls ids ≡ announced_derived_set r ls ids f (id_of_set ls f)
long_change store f id r [] ids p l s n = absurd (omega arith)
long_change store f id r (x ∷ []) ids p l s n = absurd (omega arith)
long_change store f id r (x ∷ y ∷ ls) ids p l s n = go (clause_with (x ∷ y ∷ ls) f.clauses) refl
  where
    by_flags : (r b : Bool) (c : ℕ) → announced_change (cond r results.Duplicate (cond b (results.NewlyIrredundant c) results.Duplicate)) f.next_id r (x ∷ y ∷ ls) ids ≡ cond (not r && b) (MakeIrredundant c (x ∷ y ∷ ls) ∷ []) []
    by_flags true b c = refl
    by_flags false true c = refl
    by_flags false false c = refl

    go : (o : Option StoredClause) → clause_with (x ∷ y ∷ ls) f.clauses ≡ o → announced_change (change_in r p) f.next_id r (x ∷ y ∷ ls) ids ≡ announced_derived_set r (x ∷ y ∷ ls) ids f (id_of (clause_with (x ∷ y ∷ ls) f.clauses))
    go None e =
        ap (λ c. announced_change c f.next_id r (x ∷ y ∷ ls) ids) (new_change r p (s.new_is ∙ ap (λ o. not (is_some o)) e))
        ∙ sym (ap (λ o. announced_derived_set r (x ∷ y ∷ ls) ids f (id_of o)) e)
    go (Some c) e =
        let irredundant : p.irredundant ≡ c.irredundant = sym n ∙ ap (store_count_in false) e in
        let same : p.id ≡ c.id = s.id_is ∙ ap (λ o. id_in o id) e in
        ap (λ d. announced_change d f.next_id r (x ∷ y ∷ ls) ids) (old_change r p (s.new_is ∙ ap (λ o. not (is_some o)) e))
        ∙ ap (λ (k : ℕ). announced_change (cond r results.Duplicate (cond (k == 0) (results.NewlyIrredundant p.id) results.Duplicate)) f.next_id r (x ∷ y ∷ ls) ids) irredundant
        ∙ by_flags r (c.irredundant == 0) p.id ∙ ap (λ (k : ℕ). cond (not r && (c.irredundant == 0)) (MakeIrredundant k (x ∷ y ∷ ls) ∷ []) []) same
        ∙ sym (ap (λ o. cond (not r && is_only_redundant o) (MakeIrredundant c.id (x ∷ y ∷ ls) ∷ []) []) e)
        ∙ sym (ap (λ o. announced_derived_set r (x ∷ y ∷ ls) ids f (id_of o)) e)

-- a unit that is already stored announces nothing
pub neither_reported : (r : Bool) (l : ℕ) (ids : List ℕ) (f : Stored) (id : ℕ) → HasNoStoredUnitClause f → [] ≡ announced_derived_set r (l ∷ []) ids f (Some id)
neither_reported r l ids f id long = sym (ap (λ o. cond (not r && is_only_redundant o) (MakeIrredundant id (l ∷ []) ∷ []) []) (long l) ∙ none r)
  where
    none : (r : Bool) → cond (not r && false) (MakeIrredundant id (l ∷ []) ∷ []) [] ≡ []
    none true = refl
    none false = refl

below_max : (a b : ℕ) → 2 ^ 64 ≤ a → 2 ^ 64 ≤ max a b
below_max a b h = omega arith

-- an error of storing a clause means the same for an input clause
pub input_refused : (T U : Type 0) (e : StoreError) (K L : Type 0) (c : List ℕ) (f : Stored) → ChangeResult {T = T} (Err e) K (with_stored false c f) → ChangeResult {T = U} (Err e) L (with_input c f)
input_refused T U OutOfMemory K L c f k = tt
input_refused T U CounterEnd K L c f k = elim k [
  | inl h ↦ inl (below_max (with_stored false c f).next_id (f.next_id + 1) h)
  | inr s ↦ inr (record { literals = s.literals; past = s.past })
]

-- an error means the same for results of another type
pub spent_as : (T U : Type 0) (e : StoreError) (K L : Type 0) (g : Stored) → ChangeResult {T = T} (Err e) K g → ChangeResult {T = U} (Err e) L g
spent_as T U OutOfMemory K L g k = tt
spent_as T U CounterEnd K L g k = k
