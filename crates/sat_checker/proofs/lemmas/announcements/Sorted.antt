-- After accepted steps every stored clause is sorted, and units are in order of their ids.
use Rattle.std.proofs.Common.{ℕ, ◌+◌, ◌≡◌, ◌<◌, Bool, true, false, not, cond, eqb, max, List, [], ◌∷◌, ◌++◌, map, filter, refl, sym, ap, subst, arith, Option, None, Some, is_some}
use Rattle.std.specs.List.{AllByRecursion}
use Rattle.sat_base.specs.values.Literals.{variable, negated}
use Rattle.sat_base.specs.steps.Steps.{Redundant, Simplified, Satisfied, Step, SolverVarName, UserVarName, DeleteVar, AddClause, AtClause, UnitClauses, DeleteClause, Model, FailedAssumptions}
use Rattle.sat_checker.specs.LiteralSets.{is_tautology, canonical, same_literals}
use Rattle.sat_checker.specs.inner.Marks.{IsIncreasing}
use Rattle.sat_checker.specs.Stored.{StoredClause, StoredUnit, Stored, is_unit}
use Rattle.sat_checker.specs.Storing.{with_count, with_stored_clause, clause_with, without_count, unless_removed, without_clause, with_unit, with_contradiction, with_new_unit, with_conflict_settled, settled_by, with_long_clause, with_sorted_set, with_canonical, with_stored, with_input, with_units, with_literals_known}
use Rattle.sat_checker.specs.Accepts.{effect, stored_after, ready_after}
use Rattle.sat_checker.proofs.lemmas.sets.Canonical.{canonical_increasing}
use Rattle.sat_checker.proofs.lemmas.meaning.Orderly.{below_more, increasing_push}

abbrev AreSets : List StoredClause → Type 0
AreSets = AllByRecursion (λ c. IsIncreasing c.literals)

abbrev unit_ids : List StoredUnit → List ℕ
unit_ids = map (λ u. u.id)

pub record Sorted (f : Stored) : Type 0 where
  pub sets : AllByRecursion (λ c. IsIncreasing c.literals) f.clauses
  pub increasing : IsIncreasing (map (λ u. u.id) f.units)
  pub below : AllByRecursion (λ i. i < f.next_id) (map (λ u. u.id) f.units)

-- only the clauses and the units matter, and the next id may increase
aside : (f g : Stored) → g.clauses ≡ f.clauses → g.units ≡ f.units → ((i : ℕ) → i < f.next_id → i < g.next_id) → Sorted f → Sorted g
aside f g c u n s = record {
  sets = subst AreSets (sym c) s.sets;
  increasing = subst (λ us. IsIncreasing (unit_ids us)) (sym u) s.increasing;
  below = subst (λ us. AllByRecursion (λ i. i < g.next_id) (unit_ids us)) (sym u) (below_more f.next_id g.next_id n (unit_ids f.units) s.below);
}

sets_with : (r : Bool) (n : ℕ) (ls : List ℕ) (cs : List StoredClause) → IsIncreasing ls → AreSets cs → AreSets (with_stored_clause r n ls cs)
sets_with true n ls [] i h = (i, tt)
sets_with false n ls [] i h = (i, tt)
sets_with r n ls (c ∷ cs) i h = go r (sets_with r n ls cs i h.1) (same_literals c.literals ls)
  where
    go : (r : Bool) → AreSets (with_stored_clause r n ls cs) → (b : Bool) → AreSets (cond b (with_count r c ∷ cs) (c ∷ with_stored_clause r n ls cs))
    go true ih true = h
    go false ih true = h
    go r ih false = (h.0, ih)

sets_unless : (c : StoredClause) (b : Bool) (cs : List StoredClause) → IsIncreasing c.literals → AreSets cs → AreSets (cond b [] (c ∷ []) ++ cs)
sets_unless c true cs i h = h
sets_unless c false cs i h = (i, h)

sets_without : (r : Bool) (ls : List ℕ) (cs : List StoredClause) → AreSets cs → AreSets (without_clause r ls cs)
sets_without r ls [] h = tt
sets_without r ls (c ∷ cs) h = go (sets_without r ls cs h.1) (same_literals c.literals ls)
  where
    less : (r : Bool) → IsIncreasing (without_count r c).literals
    less true = h.0
    less false = h.0

    go : AreSets (without_clause r ls cs) → (b : Bool) → AreSets (cond b (unless_removed (without_count r c) ++ cs) (c ∷ without_clause r ls cs))
    go ih true = sets_unless (without_count r c) _ cs (less r) h.1
    go ih false = (h.0, ih)

push_ids : (us : List StoredUnit) (u : StoredUnit) → unit_ids (us ++ u ∷ []) ≡ unit_ids us ++ u.id ∷ []
push_ids [] u = refl
push_ids (w ∷ ws) u = ap (λ is. w.id ∷ is) (push_ids ws u)

below_one : (n : ℕ) (is : List ℕ) → AllByRecursion (λ i. i < n) is → AllByRecursion (λ i. i < n + 1) (is ++ n ∷ [])
below_one n [] h = (omega arith, tt)
below_one n (i ∷ is) h = (let k : i < n = h.0 in omega arith, below_one n is h.1)

pub sorted_unit : (l : ℕ) (f : Stored) → Sorted f → Sorted (with_unit l f)
sorted_unit l f s = go (is_unit f l) (is_unit f (negated l))
  where
    more : (i : ℕ) → i < f.next_id → i < f.next_id + 1
    more i h = omega arith

    go : (b d : Bool) → Sorted (cond b f (cond d (with_contradiction l f) (with_new_unit l f)))
    go true d = s
    go false true = aside f (with_contradiction l f) refl refl more s
    go false false = record {
      sets = s.sets;
      increasing = subst IsIncreasing (sym (push_ids f.units (record { id = f.next_id; literal = l }))) (increasing_push (unit_ids f.units) f.next_id s.increasing s.below);
      below = subst (AllByRecursion (λ i. i < f.next_id + 1)) (sym (push_ids f.units (record { id = f.next_id; literal = l }))) (below_one f.next_id (unit_ids f.units) s.below);
    }

pub sorted_units : (ls : List ℕ) (f : Stored) → Sorted f → Sorted (with_units ls f)
sorted_units [] f s = s
sorted_units (l ∷ ls) f s = sorted_units ls (with_unit l f) (sorted_unit l f s)

sorted_set : (r : Bool) (ls : List ℕ) (f : Stored) → IsIncreasing ls → Sorted f → Sorted (with_sorted_set r ls f)
sorted_set r [] f i s = aside f (with_sorted_set r [] f) refl refl (λ k h. omega arith) s
sorted_set r (l ∷ []) f i s = sorted_unit l f s
sorted_set r (l ∷ m ∷ ls) f i s = record {
  sets = sets_with r f.next_id (l ∷ m ∷ ls) f.clauses i s.sets;
  increasing = s.increasing;
  below = below_more f.next_id (with_long_clause r (l ∷ m ∷ ls) f).next_id (raised (is_some (clause_with (l ∷ m ∷ ls) f.clauses))) (unit_ids f.units) s.below;
}
  where
    raised : (b : Bool) (k : ℕ) → k < f.next_id → k < cond b f.next_id (f.next_id + 1)
    raised true k h = h
    raised false k h = omega arith

sorted_canonical : (r : Bool) (ls : List ℕ) (f : Stored) → IsIncreasing ls → Sorted f → Sorted (with_canonical r ls f)
sorted_canonical true ls f i s = sorted_set true ls f i s
sorted_canonical false ls f i s = aside (with_sorted_set false ls f) (with_canonical false ls f) refl refl (λ k h. h) (sorted_set false ls f i s)

sorted_stored : (r : Bool) (c : List ℕ) (f : Stored) → Sorted f → Sorted (with_stored r c f)
sorted_stored r c f s = go (is_tautology c)
  where
    go : (b : Bool) → Sorted (cond b f (with_canonical r (canonical c) f))
    go true = s
    go false = sorted_canonical r (canonical c) f (canonical_increasing c) s

sorted_input : (c : List ℕ) (f : Stored) → Sorted f → Sorted (with_input c f)
sorted_input c f s = raised (with_stored false c f) (sorted_stored false c f s)
  where
    raised : (g : Stored) → Sorted g → Sorted (record g { next_id = max g.next_id (f.next_id + 1) })
    raised g k = aside g (record g { next_id = max g.next_id (f.next_id + 1) }) refl refl (λ i h. omega arith) k

sorted_known : (ls : List ℕ) (f : Stored) → Sorted f → Sorted (with_literals_known ls f)
sorted_known ls f s = aside f (with_literals_known ls f) refl refl (λ k h. h) s

-- what holds for all ids still holds if some units are left out
few_ids : (p : StoredUnit → Bool) (P : ℕ → Type 0) (us : List StoredUnit) → AllByRecursion P (unit_ids us) → AllByRecursion P (unit_ids (filter p us))
few_ids p P [] h = tt
few_ids p P (u ∷ us) h = go (few_ids p P us h.1) (p u)
  where
    go : AllByRecursion P (unit_ids (filter p us)) → (b : Bool) → AllByRecursion P (unit_ids (cond b (u ∷ filter p us) (filter p us)))
    go ih true = (h.0, ih)
    go ih false = ih

pub few_increasing : (p : StoredUnit → Bool) (us : List StoredUnit) → IsIncreasing (map (λ u. u.id) us) → IsIncreasing (map (λ u. u.id) (filter p us))
few_increasing p [] h = tt
few_increasing p (u ∷ us) h = go (few_increasing p us h.1) (p u)
  where
    go : IsIncreasing (unit_ids (filter p us)) → (b : Bool) → IsIncreasing (unit_ids (cond b (u ∷ filter p us) (filter p us)))
    go ih true = (few_ids p (λ i. u.id < i) us h.0, ih)
    go ih false = ih

sorted_deleted : (r : Bool) (ls : List ℕ) (f : Stored) → Sorted f → Sorted (record f { clauses = without_clause r ls f.clauses })
sorted_deleted r ls f s = record { sets = sets_without r ls f.clauses s.sets; increasing = s.increasing; below = s.below }

sorted_effect : (step : Step) (f : Stored) → Sorted f → Sorted (effect step f)
sorted_effect (SolverVarName v None) f s = aside f (effect (SolverVarName v None) f) refl refl (λ k h. h) s
sorted_effect (UserVarName v (Some n)) f s = aside f (effect (UserVarName v (Some n)) f) refl refl (λ k h. h) s
sorted_effect (DeleteVar v) f s = record {
  sets = s.sets;
  increasing = few_increasing (λ u. not (eqb (variable u.literal) v)) f.units s.increasing;
  below = few_ids (λ u. not (eqb (variable u.literal) v)) (λ i. i < f.next_id) f.units s.below;
}
sorted_effect (AddClause c) f s = go f.unsat
  where
    go : (b : Bool) → Sorted (cond b f (with_input c (with_literals_known c f)))
    go true = s
    go false = sorted_input c (with_literals_known c f) (sorted_known c f s)
sorted_effect (AtClause r c hs) f s = sorted_stored r c (with_literals_known c f) (sorted_known c f s)
sorted_effect (UnitClauses us) f s = sorted_units (map (λ u. u.0) us) (with_literals_known (map (λ u. u.0) us) f) (sorted_known (map (λ u. u.0) us) f s)
sorted_effect (DeleteClause c Redundant) f s = sorted_deleted true (canonical c) f s
sorted_effect (DeleteClause c Satisfied) f s = sorted_deleted false (canonical c) f s
sorted_effect (DeleteClause c Simplified) f s = sorted_deleted false (canonical c) f s
sorted_effect (Model ls) f s = sorted_known ls f s
sorted_effect (FailedAssumptions c hs) f s = s
sorted_effect step f s = aside f (effect step f) refl refl (λ k h. h) s

sorted_settled : (f : Stored) → Sorted f → Sorted (with_conflict_settled f)
sorted_settled f s = go f.conflict
  where
    go : (x : Option (ℕ × ℕ)) → Sorted (settled_by x f)
    go None = s
    go (Some units) = aside f (record f { conflict = None; next_id = f.next_id + 1 }) refl refl (λ k h. omega arith) s

sorted_after : (steps : List Step) → Sorted (stored_after steps)
sorted_after [] = record { sets = tt; increasing = tt; below = tt }
sorted_after (step ∷ earlier) = sorted_effect step (with_conflict_settled (stored_after earlier)) (sorted_settled (stored_after earlier) (sorted_after earlier))

pub sorted_ready : (steps : List Step) → Sorted (ready_after steps)
sorted_ready steps = sorted_settled (stored_after steps) (sorted_after steps)
