-- The order of ids, and the last irredundant clause, after accepted steps.
use Rattle.std.proofs.Common.{ℕ, ◌+◌, ◌≡◌, ◌<◌, Bool, true, false, cond, eqb, List, [], ◌∷◌, ◌++◌, map, refl, sym, ◌∙◌, ap, subst, arith, ◌⊎◌, inl, inr, Option, None, Some, is_some}
use Rattle.std.proofs.lemmas.Bool.{or_cases, or_left, or_right, true≢false, eqb-true, ne_eqb}
use Rattle.std.specs.List.{AllByRecursion}
use Rattle.sat_base.specs.values.Literals.{negated}
use Rattle.sat_checker.specs.LiteralSets.{is_among, same_literals}
use Rattle.sat_checker.specs.Stored.{StoredClause, StoredUnit, LastIrredundant, NoneYet, Empty, UnitClause, LongClause, Stored, is_unit, unit_literals}
use Rattle.sat_checker.specs.Storing.{with_count, with_stored_clause, clause_with, irredundant_count, with_unit, with_contradiction, with_new_unit, with_conflict_settled, settled_by, with_long_clause, with_sorted_set, clause_with_id}
pub use Rattle.sat_checker.specs.Invariants.{IsSatisfiedOrIrredundant, LastClauseHolds, LastIdIsBelow, OrderInvariant}
use Rattle.sat_checker.specs.inner.Marks.{IsIncreasing}
use Rattle.sat_checker.proofs.lemmas.sets.Subsets.{any_true, some_of}
use Rattle.sat_checker.proofs.lemmas.meaning.Clauses.{same, irredundant_more}

abbrev pub ids : List StoredClause → List ℕ
ids = map (λ c. c.id)

pub below_more : (n m : ℕ) → ((i : ℕ) → i < n → i < m) → (is : List ℕ) → AllByRecursion (λ i. i < n) is → AllByRecursion (λ i. i < m) is
below_more n m w [] h = tt
below_more n m w (i ∷ is) h = (w i h.0, below_more n m w is h.1)

pub last_below_more : (n m : ℕ) → ((i : ℕ) → i < n → i < m) → (last : LastIrredundant) → LastIdIsBelow n last → LastIdIsBelow m last
last_below_more n m w NoneYet h = tt
last_below_more n m w (Empty id) h = w id h
last_below_more n m w (UnitClause id) h = tt
last_below_more n m w (LongClause id) h = w id h

-- what holds for the last clause still holds if units are added and unsat stays recorded
pub last_stays : (last : LastIrredundant) (u v : Bool) (us vs : List ℕ) (cs : List StoredClause) → (u ≡ true → v ≡ true) → ((l : ℕ) → is_among us l ≡ true → is_among vs l ≡ true) → LastClauseHolds last u us cs → LastClauseHolds last v vs cs
last_stays NoneYet u v us vs cs b w h = tt
last_stays (Empty id) u v us vs cs b w h = b h
last_stays (UnitClause id) u v us vs cs b w h = tt
last_stays (LongClause id) u v us vs cs b w h = λ ls e. elim (h ls e) [
  | inl t ↦ inl (let s = some_of (is_among us) ls t in any_true (is_among vs) ls s.literal s.within (w s.literal s.passes))
  | inr n ↦ inr n
]

among_longer : (us : List StoredUnit) (u : StoredUnit) (l : ℕ) → is_among (map (λ w. w.literal) us) l ≡ true → is_among (map (λ w. w.literal) (us ++ u ∷ [])) l ≡ true
among_longer [] u l h = absurd (true≢false (sym h))
among_longer (w ∷ ws) u l h =
    elim (or_cases (eqb w.literal l) (is_among (map (λ x. x.literal) ws) l) h) [
      | inl e ↦ or_left (eqb w.literal l) (is_among (map (λ x. x.literal) (ws ++ u ∷ [])) l) e
      | inr k ↦ or_right (eqb w.literal l) (is_among (map (λ x. x.literal) (ws ++ u ∷ [])) l) (among_longer ws u l k)
    ]

pub orderly_unit : (f : Stored) (l : ℕ) → OrderInvariant f → OrderInvariant (with_unit l f)
orderly_unit f l o = go (is_unit f l) (is_unit f (negated l))
  where
    more : (k i : ℕ) → i < f.next_id → i < f.next_id + k
    more k i h = omega arith

    go : (b d : Bool) → OrderInvariant (cond b f (cond d (with_contradiction l f) (with_new_unit l f)))
    go true d = o
    go false true = record {
      increasing = o.increasing;
      below = below_more f.next_id (f.next_id + 1) (more 1) (ids f.clauses) o.below;
      last_below = last_below_more f.next_id (f.next_id + 1) (more 1) f.last o.last_below;
      last_holds = last_stays f.last f.unsat true (unit_literals f) (unit_literals f) f.clauses (λ e. refl) (λ x h. h) o.last_holds;
    }
    go false false = record {
      increasing = o.increasing;
      below = below_more f.next_id (f.next_id + 1) (more 1) (ids f.clauses) o.below;
      last_below = last_below_more f.next_id (f.next_id + 1) (more 1) f.last o.last_below;
      last_holds = last_stays f.last f.unsat f.unsat (unit_literals f) (map (λ w. w.literal) (f.units ++ (record { id = f.next_id; literal = l }) ∷ [])) f.clauses (λ e. e) (λ x h. among_longer f.units (record { id = f.next_id; literal = l }) x h) o.last_holds;
    }

-- the ids after a clause is stored
ids_with : (r : Bool) (n : ℕ) (ls : List ℕ) (cs : List StoredClause) → is_some (clause_with ls cs) ≡ true → ids (with_stored_clause r n ls cs) ≡ ids cs
ids_with r n ls [] e = absurd (true≢false (sym e))
ids_with r n ls (c ∷ cs) e = go r (ids_with r n ls cs) (same_literals c.literals ls) e
  where
    go : (r : Bool) → (is_some (clause_with ls cs) ≡ true → ids (with_stored_clause r n ls cs) ≡ ids cs) → (b : Bool) → is_some (cond b (Some c) (clause_with ls cs)) ≡ true → ids (cond b (with_count r c ∷ cs) (c ∷ with_stored_clause r n ls cs)) ≡ c.id ∷ ids cs
    go true ih true e = refl
    go false ih true e = refl
    go r ih false e = ap (λ is. c.id ∷ is) (ih e)

ids_new : (r : Bool) (n : ℕ) (ls : List ℕ) (cs : List StoredClause) → is_some (clause_with ls cs) ≡ false → ids (with_stored_clause r n ls cs) ≡ ids cs ++ n ∷ []
ids_new true n ls [] e = refl
ids_new false n ls [] e = refl
ids_new r n ls (c ∷ cs) e = go r (ids_new r n ls cs) (same_literals c.literals ls) e
  where
    go : (r : Bool) → (is_some (clause_with ls cs) ≡ false → ids (with_stored_clause r n ls cs) ≡ ids cs ++ n ∷ []) → (b : Bool) → is_some (cond b (Some c) (clause_with ls cs)) ≡ false → ids (cond b (with_count r c ∷ cs) (c ∷ with_stored_clause r n ls cs)) ≡ c.id ∷ (ids cs ++ n ∷ [])
    go r ih true e = absurd (true≢false e)
    go r ih false e = ap (λ is. c.id ∷ is) (ih e)

pub increasing_push : (is : List ℕ) (n : ℕ) → IsIncreasing is → AllByRecursion (λ i. i < n) is → IsIncreasing (is ++ n ∷ [])
increasing_push [] n h b = (tt, tt)
increasing_push (i ∷ is) n h b = (above is h.0, increasing_push is n h.1 b.1)
  where
    above : (js : List ℕ) → AllByRecursion (λ j. i < j) js → AllByRecursion (λ j. i < j) (js ++ n ∷ [])
    above [] k = (b.0, tt)
    above (j ∷ js) k = (k.0, above js k.1)

pub below_push : (is : List ℕ) (n : ℕ) → AllByRecursion (λ i. i < n) is → AllByRecursion (λ i. i < n + 1) (is ++ n ∷ [])
below_push [] n b = (omega arith, tt)
below_push (i ∷ is) n b = (let h : i < n = b.0 in omega arith, below_push is n b.1)

-- the clause with an id after a clause is stored
pub numbered_with : (r : Bool) (id n : ℕ) (ls ms : List ℕ) (cs : List StoredClause) → clause_with_id id (with_stored_clause r n ls cs) ≡ Some ms → (clause_with_id id cs ≡ Some ms) ⊎ (id ≡ n)
numbered_with true id n ls ms [] e = go (eqb n id) refl e
  where
    go : (b : Bool) → eqb n id ≡ b → cond b (Some ls) None ≡ Some ms → (None ≡ Some ms) ⊎ (id ≡ n)
    go true h e = inr (sym (eqb-true n id h))
    go false h e = inl e
numbered_with false id n ls ms [] e = go (eqb n id) refl e
  where
    go : (b : Bool) → eqb n id ≡ b → cond b (Some ls) None ≡ Some ms → (None ≡ Some ms) ⊎ (id ≡ n)
    go true h e = inr (sym (eqb-true n id h))
    go false h e = inl e
numbered_with r id n ls ms (c ∷ cs) e = go r (numbered_with r id n ls ms cs) (same_literals c.literals ls) e
  where
    following : (r b : Bool) → (clause_with_id id (with_stored_clause r n ls cs) ≡ Some ms → (clause_with_id id cs ≡ Some ms) ⊎ (id ≡ n)) → cond b (Some c.literals) (clause_with_id id (with_stored_clause r n ls cs)) ≡ Some ms → (cond b (Some c.literals) (clause_with_id id cs) ≡ Some ms) ⊎ (id ≡ n)
    following r true ih e = inl e
    following r false ih e = ih e

    go : (r : Bool) → (clause_with_id id (with_stored_clause r n ls cs) ≡ Some ms → (clause_with_id id cs ≡ Some ms) ⊎ (id ≡ n)) → (b : Bool) → clause_with_id id (cond b (with_count r c ∷ cs) (c ∷ with_stored_clause r n ls cs)) ≡ Some ms → (clause_with_id id (c ∷ cs) ≡ Some ms) ⊎ (id ≡ n)
    go true ih true e = inl e
    go false ih true e = inl e
    go r ih false e = following r (eqb c.id id) ih e

-- what holds for the last clause still holds after another clause is stored
last_beside : (r : Bool) (n : ℕ) (ls : List ℕ) (last : LastIrredundant) (unsat : Bool) (us : List ℕ) (cs : List StoredClause) → LastIdIsBelow n last → LastClauseHolds last unsat us cs → LastClauseHolds last unsat us (with_stored_clause r n ls cs)
last_beside r n ls NoneYet unsat us cs b h = tt
last_beside r n ls (Empty id) unsat us cs b h = h
last_beside r n ls (UnitClause id) unsat us cs b h = tt
last_beside r n ls (LongClause id) unsat us cs b h = λ ms e. elim (numbered_with r id n ls ms cs e) [
  | inl k ↦ elim (h ms k) [ inl t ↦ inl t | inr m ↦ inr (irredundant_more r n ms ls cs m) ]
  | inr k ↦ absurd (let lt : id < n = b in omega arith)
]

pub orderly_long : (f : Stored) (r : Bool) (ls : List ℕ) → OrderInvariant f → OrderInvariant (with_long_clause r ls f)
orderly_long f r ls o = go (is_some (clause_with ls f.clauses)) refl
  where
    more : (i : ℕ) → i < f.next_id → i < f.next_id + 1
    more i h = omega arith

    go : (b : Bool) → is_some (clause_with ls f.clauses) ≡ b → OrderInvariant (record f { clauses = with_stored_clause r f.next_id ls f.clauses; next_id = cond b f.next_id (f.next_id + 1) })
    go true e = record {
      increasing = subst IsIncreasing (sym (ids_with r f.next_id ls f.clauses e)) o.increasing;
      below = subst (AllByRecursion (λ i. i < f.next_id)) (sym (ids_with r f.next_id ls f.clauses e)) o.below;
      last_below = o.last_below;
      last_holds = last_beside r f.next_id ls f.last f.unsat (unit_literals f) f.clauses o.last_below o.last_holds;
    }
    go false e = record {
      increasing = subst IsIncreasing (sym (ids_new r f.next_id ls f.clauses e)) (increasing_push (ids f.clauses) f.next_id o.increasing o.below);
      below = subst (AllByRecursion (λ i. i < f.next_id + 1)) (sym (ids_new r f.next_id ls f.clauses e)) (below_push (ids f.clauses) f.next_id o.below);
      last_below = last_below_more f.next_id (f.next_id + 1) more f.last o.last_below;
      last_holds = last_beside r f.next_id ls f.last f.unsat (unit_literals f) f.clauses o.last_below o.last_holds;
    }

pub orderly_set : (f : Stored) (r : Bool) (ls : List ℕ) → OrderInvariant f → OrderInvariant (with_sorted_set r ls f)
orderly_set f r [] o = record {
  increasing = o.increasing;
  below = below_more f.next_id (f.next_id + 1) (λ i h. omega arith) (ids f.clauses) o.below;
  last_below = last_below_more f.next_id (f.next_id + 1) (λ i h. omega arith) f.last o.last_below;
  last_holds = last_stays f.last f.unsat true (unit_literals f) (unit_literals f) f.clauses (λ e. refl) (λ x h. h) o.last_holds;
}
orderly_set f r (l ∷ []) o = orderly_unit f l o
orderly_set f r (l ∷ m ∷ ls) o = orderly_long f r (l ∷ m ∷ ls) o

-- if all ids are above a bound, so is the id of every stored clause
pub numbered_above : (b id : ℕ) (ms : List ℕ) (cs : List StoredClause) → AllByRecursion (λ i. b < i) (ids cs) → clause_with_id id cs ≡ Some ms → b < id
numbered_above b id ms [] h e = absurd cc
numbered_above b id ms (c ∷ cs) h e = go (numbered_above b id ms cs h.1) (eqb c.id id) refl e
  where
    go : (clause_with_id id cs ≡ Some ms → b < id) → (d : Bool) → eqb c.id id ≡ d → cond d (Some c.literals) (clause_with_id id cs) ≡ Some ms → b < id
    go ih true k e = subst (λ x. b < x) (eqb-true c.id id k) h.0
    go ih false k e = ih e

with_above : (b : ℕ) (ls : List ℕ) (c : StoredClause) (cs : List StoredClause) → AllByRecursion (λ i. b < i) (ids cs) → clause_with ls cs ≡ Some c → b < c.id
with_above b ls c [] h e = absurd cc
with_above b ls c (d ∷ ds) h e = go (with_above b ls c ds h.1) (same_literals d.literals ls) e
  where
    go : (clause_with ls ds ≡ Some c → b < c.id) → (s : Bool) → cond s (Some d) (clause_with ls ds) ≡ Some c → b < c.id
    go ih true e = let k : d ≡ c = cc in subst (λ x. b < x.id) k h.0
    go ih false e = ih e

-- a clause found by its literals is also found by its id
pub numbered_itself : (ls : List ℕ) (c : StoredClause) (cs : List StoredClause) → IsIncreasing (ids cs) → clause_with ls cs ≡ Some c → clause_with_id c.id cs ≡ Some ls
numbered_itself ls c [] h e = absurd cc
numbered_itself ls c (d ∷ ds) h e = go (numbered_itself ls c ds h.1) (same_literals d.literals ls) refl e
  where
    go : (clause_with ls ds ≡ Some c → clause_with_id c.id ds ≡ Some ls) → (s : Bool) → same_literals d.literals ls ≡ s → cond s (Some d) (clause_with ls ds) ≡ Some c → clause_with_id c.id (d ∷ ds) ≡ Some ls
    go ih true s e =
        let k : d ≡ c = cc in
        let t : eqb d.id c.id ≡ true = subst (λ x. eqb d.id x.id ≡ true) k (same_id d.id) in
        ap (λ b. cond b (Some d.literals) (clause_with_id c.id ds)) t ∙ ap Some (same d.literals ls s)
      where
        same_id : (n : ℕ) → eqb n n ≡ true
        same_id n = grind arith
    go ih false s e =
        let k : d.id < c.id = with_above d.id ls c ds h.0 e in
        let t : eqb d.id c.id ≡ false = ne_eqb d.id c.id (λ q. omega arith) in
        ap (λ b. cond b (Some d.literals) (clause_with_id c.id ds)) t ∙ ih e

pub below_itself : (n : ℕ) (ls : List ℕ) (c : StoredClause) (cs : List StoredClause) → AllByRecursion (λ i. i < n) (ids cs) → clause_with ls cs ≡ Some c → c.id < n
below_itself n ls c [] h e = absurd cc
below_itself n ls c (d ∷ ds) h e = go (below_itself n ls c ds h.1) (same_literals d.literals ls) e
  where
    go : (clause_with ls ds ≡ Some c → c.id < n) → (s : Bool) → cond s (Some d) (clause_with ls ds) ≡ Some c → c.id < n
    go ih true e = let k : d ≡ c = cc in subst (λ x. x.id < n) k h.0
    go ih false e = ih e

-- a clause stored as irredundant has an irredundant count
pub stored_count : (n : ℕ) (ls : List ℕ) (cs : List StoredClause) → 0 < irredundant_count (clause_with ls (with_stored_clause false n ls cs))
stored_count n ls [] = subst (λ b. 0 < irredundant_count (cond b (Some (record { id = n; literals = ls; irredundant = 0 + 1; redundant = 0 })) None)) (sym (itself ls)) (omega arith)
  where
    itself : (xs : List ℕ) → same_literals xs xs ≡ true
    itself [] = refl
    itself (x ∷ xs) = let e : eqb x x ≡ true = grind arith in rw e (itself xs)
stored_count n ls (c ∷ cs) = go (stored_count n ls cs) (same_literals c.literals ls) refl
  where
    go : 0 < irredundant_count (clause_with ls (with_stored_clause false n ls cs)) → (b : Bool) → same_literals c.literals ls ≡ b → 0 < irredundant_count (clause_with ls (cond b (with_count false c ∷ cs) (c ∷ with_stored_clause false n ls cs)))
    go ih true e = subst (λ b. 0 < irredundant_count (cond b (Some (with_count false c)) (clause_with ls cs))) (sym e) (omega arith)
    go ih false e = subst (λ b. 0 < irredundant_count (cond b (Some c) (clause_with ls (with_stored_clause false n ls cs)))) (sym e) ih

pub orderly_settled : (f : Stored) → OrderInvariant f → OrderInvariant (with_conflict_settled f)
orderly_settled f o = go f.conflict
  where
    go : (x : Option (ℕ × ℕ)) → OrderInvariant (settled_by x f)
    go None = o
    go (Some units) = record {
      increasing = o.increasing;
      below = below_more f.next_id (f.next_id + 1) (λ i h. omega arith) (ids f.clauses) o.below;
      last_below = last_below_more f.next_id (f.next_id + 1) (λ i h. omega arith) f.last o.last_below;
      last_holds = o.last_holds;
    }
