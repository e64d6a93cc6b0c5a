-- Accepted steps preserve the order of ids and what holds for the last irredundant clause.
use Rattle.std.proofs.Common.{ℕ, ◌+◌, ◌≡◌, ◌<◌, Bool, true, false, not, ◌&&◌, ◌||◌, cond, eqb, max, List, [], ◌∷◌, ◌++◌, map, refl, sym, ◌∙◌, ap, subst, arith, inl, inr, Option, None, Some}
use Rattle.std.proofs.lemmas.Bool.{or_cases, or_left, or_right, or_parts, both_ways, true≢false, eqb-true, ne_eqb}
use Rattle.std.specs.List.{AllByRecursion, list_any}
use Rattle.sat_base.specs.values.Literals.{variable, negated}
use Rattle.sat_base.specs.steps.Steps.{Redundant, Simplified, Satisfied, Step, SolverVarName, UserVarName, DeleteVar, AddClause, AtClause, UnitClauses, DeleteClause, Model, FailedAssumptions}
use Rattle.sat_checker.specs.LiteralSets.{is_among, mentions, is_subset_of, is_tautology, same_literals, canonical}
use Rattle.sat_checker.specs.Stored.{StoredClause, StoredUnit, LastIrredundant, NoneYet, Empty, UnitClause, LongClause, Stored, is_unit, unit_literals}
use Rattle.sat_checker.specs.Storing.{clause_with, irredundant_count, without_count, unless_removed, without_clause, with_unit, with_contradiction, with_new_unit, with_conflict_settled, with_sorted_set, last_unit_or, last_long_or, with_canonical, with_stored, with_input, with_units, with_literals_known, without_variable, clause_with_id, last_literals}
use Rattle.sat_checker.specs.Accepts.{IsStrictSubset, Accepts, AcceptsAll, effect, stored_after, ready_after}
use Rattle.sat_checker.specs.inner.Marks.{IsIncreasing}
use Rattle.sat_checker.proofs.lemmas.sets.Subsets.{subset_canonical, any_true, some_of, any_canonical}
use Rattle.sat_checker.proofs.lemmas.meaning.Clauses.{same, others_stay, irredundant_stay}
use Rattle.sat_checker.proofs.lemmas.meaning.Deleting.{IsUnused, left, units_of_left}
use Rattle.sat_checker.proofs.lemmas.meaning.Orderly.{ids, IsSatisfiedOrIrredundant, LastClauseHolds, LastIdIsBelow, OrderInvariant, below_more, last_below_more, numbered_above, numbered_itself, below_itself, stored_count, orderly_unit, orderly_set, orderly_settled}

-- only the clauses, the units, unsat, the last clause and the next id matter
aside : (f g : Stored) → g.clauses ≡ f.clauses → g.units ≡ f.units → g.unsat ≡ f.unsat → g.last ≡ f.last → g.next_id ≡ f.next_id → OrderInvariant f → OrderInvariant g
aside f g c u b l n o = record {
  increasing = subst (λ cs. IsIncreasing (ids cs)) (sym c) o.increasing;
  below = subst (λ k. AllByRecursion (λ i. i < k) (ids g.clauses)) (sym n) (subst (λ cs. AllByRecursion (λ i. i < f.next_id) (ids cs)) (sym c) o.below);
  last_below = subst (λ k. LastIdIsBelow k g.last) (sym n) (subst (LastIdIsBelow f.next_id) (sym l) o.last_below);
  last_holds = subst (λ x. LastClauseHolds x g.unsat (unit_literals g) g.clauses) (sym l)
      (subst (λ x. LastClauseHolds f.last x (unit_literals g) g.clauses) (sym b)
      (subst (λ x. LastClauseHolds f.last f.unsat (map (λ w. w.literal) x) g.clauses) (sym u)
      (subst (λ x. LastClauseHolds f.last f.unsat (unit_literals f) x) (sym c) o.last_holds)));
}

-- another clause may become the last one if the same holds for it
orderly_last : (g : Stored) (last : LastIrredundant) → OrderInvariant g → LastIdIsBelow g.next_id last → LastClauseHolds last g.unsat (unit_literals g) g.clauses → OrderInvariant (record g { last = last })
orderly_last g last o b h = record { increasing = o.increasing; below = o.below; last_below = b; last_holds = h }

unit_at_orderly : (g : Stored) (l : ℕ) (us : List StoredUnit) → OrderInvariant g → OrderInvariant (record g { last = last_unit_or l us g.last })
unit_at_orderly g l [] o = orderly_last g g.last o o.last_below o.last_holds
unit_at_orderly g l (u ∷ us) o = go (unit_at_orderly g l us o) (eqb u.literal l)
  where
    go : OrderInvariant (record g { last = last_unit_or l us g.last }) → (b : Bool) → OrderInvariant (record g { last = cond b (UnitClause u.id) (last_unit_or l us g.last) })
    go ih true = orderly_last g (UnitClause u.id) o tt tt
    go ih false = ih

long_at_orderly : (g : Stored) (ls : List ℕ) → OrderInvariant g → 0 < irredundant_count (clause_with ls g.clauses) → OrderInvariant (record g { last = last_long_or (clause_with ls g.clauses) g.last })
long_at_orderly g ls o n = go (clause_with ls g.clauses) refl
  where
    go : (x : Option StoredClause) → clause_with ls g.clauses ≡ x → OrderInvariant (record g { last = last_long_or x g.last })
    go None e = orderly_last g g.last o o.last_below o.last_holds
    go (Some c) e = orderly_last g (LongClause c.id) o (below_itself g.next_id ls c g.clauses o.below e)
        (λ ms k. let s : ls ≡ ms = let i : clause_with_id c.id g.clauses ≡ Some ls = numbered_itself ls c g.clauses o.increasing e in cc in inr (subst (λ x. 0 < irredundant_count (clause_with x g.clauses)) s n))

orderly_canonical : (f : Stored) (r : Bool) (ls : List ℕ) → OrderInvariant f → OrderInvariant (with_canonical r ls f)
orderly_canonical f true ls o = orderly_set f true ls o
orderly_canonical f false [] o = let s = orderly_set f false [] o in orderly_last (with_sorted_set false [] f) (Empty f.next_id) s (omega arith) refl
orderly_canonical f false (l ∷ []) o =
    let s = orderly_unit f l o in
    aside (record (with_unit l f) { last = last_unit_or l (with_unit l f).units (with_unit l f).last }) (with_canonical false (l ∷ []) f) refl refl refl (ap (last_unit_or l (with_unit l f).units) (same_last (is_unit f l) (is_unit f (negated l)))) refl (unit_at_orderly (with_unit l f) l (with_unit l f).units s)
  where
    same_last : (b d : Bool) → f.last ≡ (cond b f (cond d (with_contradiction l f) (with_new_unit l f))).last
    same_last true d = refl
    same_last false true = refl
    same_last false false = refl
orderly_canonical f false (l ∷ m ∷ ls) o = long_at_orderly (with_sorted_set false (l ∷ m ∷ ls) f) (l ∷ m ∷ ls) (orderly_set f false (l ∷ m ∷ ls) o) (stored_count f.next_id (l ∷ m ∷ ls) f.clauses)

pub orderly_derived : (f : Stored) (r : Bool) (c : List ℕ) → OrderInvariant f → OrderInvariant (with_stored r c f)
orderly_derived f r c o = go (is_tautology c)
  where
    go : (b : Bool) → OrderInvariant (cond b f (with_canonical r (canonical c) f))
    go true = o
    go false = orderly_canonical f r (canonical c) o

orderly_input : (f : Stored) (c : List ℕ) → OrderInvariant f → OrderInvariant (with_input c f)
orderly_input f c o = raised (with_stored false c f) (orderly_derived f false c o)
  where
    raised : (g : Stored) → OrderInvariant g → OrderInvariant (record g { next_id = max g.next_id (f.next_id + 1) })
    raised g k = record {
      increasing = k.increasing;
      below = below_more g.next_id (max g.next_id (f.next_id + 1)) (λ i h. omega arith) (ids g.clauses) k.below;
      last_below = last_below_more g.next_id (max g.next_id (f.next_id + 1)) (λ i h. omega arith) g.last k.last_below;
      last_holds = k.last_holds;
    }

orderly_units : (ls : List ℕ) (f : Stored) → OrderInvariant f → OrderInvariant (with_units ls f)
orderly_units [] f o = o
orderly_units (l ∷ ls) f o = orderly_units ls (with_unit l f) (orderly_unit f l o)

orderly_known : (f : Stored) (ls : List ℕ) → OrderInvariant f → OrderInvariant (with_literals_known ls f)
orderly_known f ls o = aside f (with_literals_known ls f) refl refl refl refl refl o

-- the ids after a count is removed
ids_above : (b : ℕ) (r : Bool) (ls : List ℕ) (cs : List StoredClause) → AllByRecursion (λ i. b < i) (ids cs) → AllByRecursion (λ i. b < i) (ids (without_clause r ls cs))
ids_above b r ls [] h = tt
ids_above b r ls (c ∷ cs) h = go r (ids_above b r ls cs h.1) (same_literals c.literals ls)
  where
    left_over : (r d : Bool) → AllByRecursion (λ i. b < i) (ids (cond d [] (without_count r c ∷ []) ++ cs))
    left_over r true = h.1
    left_over true false = (h.0, h.1)
    left_over false false = (h.0, h.1)

    go : (r : Bool) → AllByRecursion (λ i. b < i) (ids (without_clause r ls cs)) → (d : Bool) → AllByRecursion (λ i. b < i) (ids (cond d (unless_removed (without_count r c) ++ cs) (c ∷ without_clause r ls cs)))
    go r ih true = left_over r (eqb (without_count r c).irredundant 0 && eqb (without_count r c).redundant 0)
    go r ih false = (h.0, ih)

ids_below : (n : ℕ) (r : Bool) (ls : List ℕ) (cs : List StoredClause) → AllByRecursion (λ i. i < n) (ids cs) → AllByRecursion (λ i. i < n) (ids (without_clause r ls cs))
ids_below n r ls [] h = tt
ids_below n r ls (c ∷ cs) h = go r (ids_below n r ls cs h.1) (same_literals c.literals ls)
  where
    left_over : (r d : Bool) → AllByRecursion (λ i. i < n) (ids (cond d [] (without_count r c ∷ []) ++ cs))
    left_over r true = h.1
    left_over true false = (h.0, h.1)
    left_over false false = (h.0, h.1)

    go : (r : Bool) → AllByRecursion (λ i. i < n) (ids (without_clause r ls cs)) → (d : Bool) → AllByRecursion (λ i. i < n) (ids (cond d (unless_removed (without_count r c) ++ cs) (c ∷ without_clause r ls cs)))
    go r ih true = left_over r (eqb (without_count r c).irredundant 0 && eqb (without_count r c).redundant 0)
    go r ih false = (h.0, ih)

ids_increase : (r : Bool) (ls : List ℕ) (cs : List StoredClause) → IsIncreasing (ids cs) → IsIncreasing (ids (without_clause r ls cs))
ids_increase r ls [] h = tt
ids_increase r ls (c ∷ cs) h = go r (ids_increase r ls cs h.1) (same_literals c.literals ls)
  where
    left_over : (r d : Bool) → IsIncreasing (ids (cond d [] (without_count r c ∷ []) ++ cs))
    left_over r true = h.1
    left_over true false = (h.0, h.1)
    left_over false false = (h.0, h.1)

    go : (r : Bool) → IsIncreasing (ids (without_clause r ls cs)) → (d : Bool) → IsIncreasing (ids (cond d (unless_removed (without_count r c) ++ cs) (c ∷ without_clause r ls cs)))
    go r ih true = left_over r (eqb (without_count r c).irredundant 0 && eqb (without_count r c).redundant 0)
    go r ih false = (ids_above c.id r ls cs h.0, ih)

-- an id that is found after a count is removed had the same clause before
numbered_before : (r : Bool) (id : ℕ) (ls ms : List ℕ) (cs : List StoredClause) → IsIncreasing (ids cs) → clause_with_id id (without_clause r ls cs) ≡ Some ms → clause_with_id id cs ≡ Some ms
numbered_before r id ls ms [] h e = e
numbered_before r id ls ms (c ∷ cs) h e = go r (numbered_before r id ls ms cs h.1) (same_literals c.literals ls) e
  where
    later : clause_with_id id cs ≡ Some ms → clause_with_id id (c ∷ cs) ≡ Some ms
    later k =
        let above : c.id < id = numbered_above c.id id ms cs h.0 k in
        let t : eqb c.id id ≡ false = ne_eqb c.id id (λ q. omega arith) in
        ap (λ b. cond b (Some c.literals) (clause_with_id id cs)) t ∙ k

    left_over : (r d : Bool) → clause_with_id id (cond d [] (without_count r c ∷ []) ++ cs) ≡ Some ms → clause_with_id id (c ∷ cs) ≡ Some ms
    left_over r true e = later e
    left_over true false e = e
    left_over false false e = e

    following : (r b : Bool) → (clause_with_id id (without_clause r ls cs) ≡ Some ms → clause_with_id id cs ≡ Some ms) → cond b (Some c.literals) (clause_with_id id (without_clause r ls cs)) ≡ Some ms → cond b (Some c.literals) (clause_with_id id cs) ≡ Some ms
    following r true ih e = e
    following r false ih e = ih e

    go : (r : Bool) → (clause_with_id id (without_clause r ls cs) ≡ Some ms → clause_with_id id cs ≡ Some ms) → (d : Bool) → clause_with_id id (cond d (unless_removed (without_count r c) ++ cs) (c ∷ without_clause r ls cs)) ≡ Some ms → clause_with_id id (c ∷ cs) ≡ Some ms
    go r ih true e = left_over r (eqb (without_count r c).irredundant 0 && eqb (without_count r c).redundant 0) e
    go r ih false e = following r (eqb c.id id) ih e

-- a count may be removed if the last clause is still supported
last_without : (f : Stored) (r : Bool) (ls : List ℕ) → OrderInvariant f → ((ms : List ℕ) → last_literals f.last f ≡ Some ms → IsSatisfiedOrIrredundant (unit_literals f) f.clauses ms → IsSatisfiedOrIrredundant (unit_literals f) (without_clause r ls f.clauses) ms) → LastClauseHolds f.last f.unsat (unit_literals f) (without_clause r ls f.clauses)
last_without f r ls o w = go f.last o.last_holds w
  where
    go : (last : LastIrredundant) → LastClauseHolds last f.unsat (unit_literals f) f.clauses → ((ms : List ℕ) → last_literals last f ≡ Some ms → IsSatisfiedOrIrredundant (unit_literals f) f.clauses ms → IsSatisfiedOrIrredundant (unit_literals f) (without_clause r ls f.clauses) ms) → LastClauseHolds last f.unsat (unit_literals f) (without_clause r ls f.clauses)
    go NoneYet h w = tt
    go (Empty id) h w = h
    go (UnitClause id) h w = tt
    go (LongClause id) h w = λ ms e. let k = numbered_before r id ls ms f.clauses o.increasing e in w ms k (h ms k)

orderly_without : (f : Stored) (r : Bool) (ls : List ℕ) → OrderInvariant f → ((ms : List ℕ) → last_literals f.last f ≡ Some ms → IsSatisfiedOrIrredundant (unit_literals f) f.clauses ms → IsSatisfiedOrIrredundant (unit_literals f) (without_clause r ls f.clauses) ms) → OrderInvariant (record f { clauses = without_clause r ls f.clauses })
orderly_without f r ls o w = record {
  increasing = ids_increase r ls f.clauses o.increasing;
  below = ids_below f.next_id r ls f.clauses o.below;
  last_below = o.last_below;
  last_holds = last_without f r ls o w;
}

-- clauses with other literals are still supported
others_supported : (us ms ls : List ℕ) (r : Bool) (cs : List StoredClause) → same_literals ms ls ≡ false → IsSatisfiedOrIrredundant us cs ms → IsSatisfiedOrIrredundant us (without_clause r ls cs) ms
others_supported us ms ls r cs n (inl t) = inl t
others_supported us ms ls r cs n (inr k) = inr (subst (λ x. 0 < irredundant_count x) (sym (others_stay r ms ls cs n)) k)

-- a strict part of a clause is a different set
pub strict_differs : (ms c : List ℕ) → is_subset_of c ms ≡ false → same_literals ms (canonical c) ≡ false
strict_differs ms c s = go (same_literals ms (canonical c)) refl
  where
    go : (b : Bool) → same_literals ms (canonical c) ≡ b → b ≡ false
    go true e = absurd (both_ways (is_subset_of c ms) s (subst (λ x. is_subset_of c x ≡ true) (sym (same ms (canonical c) e)) (subset_canonical c)))
    go false e = refl

satisfied_supports : (f : Stored) (c : List ℕ) → list_any (is_unit f) c ≡ true → (ms : List ℕ) → IsSatisfiedOrIrredundant (unit_literals f) f.clauses ms → IsSatisfiedOrIrredundant (unit_literals f) (without_clause false (canonical c) f.clauses) ms
satisfied_supports f c t ms s = go (same_literals ms (canonical c)) refl
  where
    go : (b : Bool) → same_literals ms (canonical c) ≡ b → IsSatisfiedOrIrredundant (unit_literals f) (without_clause false (canonical c) f.clauses) ms
    go true e = inl (subst (λ x. list_any (is_unit f) x ≡ true) (sym (same ms (canonical c) e)) (any_canonical (is_unit f) c t))
    go false e = others_supported (unit_literals f) ms (canonical c) false f.clauses e s

simplified_supports : (f : Stored) (c : List ℕ) → IsStrictSubset (last_literals f.last f) c → (ms : List ℕ) → last_literals f.last f ≡ Some ms → IsSatisfiedOrIrredundant (unit_literals f) f.clauses ms → IsSatisfiedOrIrredundant (unit_literals f) (without_clause false (canonical c) f.clauses) ms
simplified_supports f c p ms e s =
    let q : IsStrictSubset (Some ms) c = subst (λ x. IsStrictSubset x c) e p in
    others_supported (unit_literals f) ms (canonical c) false f.clauses (strict_differs ms c q.1) s

-- clauses without the variable are still supported
numbered_unused : (v id : ℕ) (ms : List ℕ) (cs : List StoredClause) → IsUnused v cs → clause_with_id id cs ≡ Some ms → mentions ms v ≡ false
numbered_unused v id ms [] u e = absurd cc
numbered_unused v id ms (c ∷ cs) u e =
    let parts = or_parts (mentions c.literals v) (list_any (λ d. mentions d.literals v) cs) u in
    go parts.0 (numbered_unused v id ms cs parts.1) (eqb c.id id) e
  where
    go : mentions c.literals v ≡ false → (clause_with_id id cs ≡ Some ms → mentions ms v ≡ false) → (b : Bool) → cond b (Some c.literals) (clause_with_id id cs) ≡ Some ms → mentions ms v ≡ false
    go n ih true e = let k : c.literals ≡ ms = cc in subst (λ x. mentions x v ≡ false) k n
    go n ih false e = ih e

among_left : (v l : ℕ) (us : List ℕ) → eqb (variable l) v ≡ false → is_among us l ≡ true → is_among (left v us) l ≡ true
among_left v l [] n h = h
among_left v l (u ∷ us) n h = go (among_left v l us n) (eqb (variable u) v) refl h
  where
    go : (is_among us l ≡ true → is_among (left v us) l ≡ true) → (b : Bool) → eqb (variable u) v ≡ b → eqb u l || is_among us l ≡ true → is_among (cond (not b) (u ∷ left v us) (left v us)) l ≡ true
    go ih true e h = elim (or_cases (eqb u l) (is_among us l) h) [ inl s ↦ absurd (both_ways (eqb (variable l) v) n (subst (λ x. eqb (variable x) v ≡ true) (eqb-true u l s) e)) | inr k ↦ ih k ]
    go ih false e h = elim (or_cases (eqb u l) (is_among us l) h) [ inl s ↦ or_left (eqb u l) (is_among (left v us) l) s | inr k ↦ or_right (eqb u l) (is_among (left v us) l) (ih k) ]

not_mentioned : (v l : ℕ) (ls : List ℕ) → mentions ls v ≡ false → is_among ls l ≡ true → eqb (variable l) v ≡ false
not_mentioned v l [] n h = absurd (true≢false (sym h))
not_mentioned v l (m ∷ ms) n h =
    let parts = or_parts (eqb (variable m) v) (mentions ms v) n in
    elim (or_cases (eqb m l) (is_among ms l) h) [ inl e ↦ subst (λ x. eqb (variable x) v ≡ false) (eqb-true m l e) parts.0 | inr k ↦ not_mentioned v l ms parts.1 k ]

last_left : (v : ℕ) (last : LastIrredundant) (unsat : Bool) (us : List ℕ) (cs : List StoredClause) → IsUnused v cs → LastClauseHolds last unsat us cs → LastClauseHolds last unsat (left v us) cs
last_left v NoneYet unsat us cs u h = tt
last_left v (Empty id) unsat us cs u h = h
last_left v (UnitClause id) unsat us cs u h = tt
last_left v (LongClause id) unsat us cs u h = λ ls e. elim (h ls e) [
  | inl t ↦ inl (let s = some_of (is_among us) ls t in any_true (is_among (left v us)) ls s.literal s.within (among_left v s.literal us (not_mentioned v s.literal ls (numbered_unused v id ls cs u e) s.within) s.passes))
  | inr n ↦ inr n
]

orderly_deleted : (f : Stored) (v : ℕ) → IsUnused v f.clauses → OrderInvariant f → OrderInvariant (without_variable v f)
orderly_deleted f v u o = record {
  increasing = o.increasing;
  below = o.below;
  last_below = o.last_below;
  last_holds = subst (λ us. LastClauseHolds f.last f.unsat us f.clauses) (sym (units_of_left v f.units)) (last_left v f.last f.unsat (unit_literals f) f.clauses u o.last_holds);
}

pub orderly_effect : (step : Step) (f : Stored) → Accepts f step → OrderInvariant f → OrderInvariant (effect step f)
orderly_effect (SolverVarName v None) f a o = aside f (effect (SolverVarName v None) f) refl refl refl refl refl o
orderly_effect (UserVarName v (Some n)) f a o = aside f (effect (UserVarName v (Some n)) f) refl refl refl refl refl o
orderly_effect (DeleteVar v) f a o = orderly_deleted f v a.unused o
orderly_effect (AddClause c) f a o = go f.unsat
  where
    go : (b : Bool) → OrderInvariant (cond b f (with_input c (with_literals_known c f)))
    go true = o
    go false = orderly_input (with_literals_known c f) c (orderly_known f c o)
orderly_effect (AtClause r c hs) f a o = orderly_derived (with_literals_known c f) r c (orderly_known f c o)
orderly_effect (UnitClauses us) f a o = orderly_units (map (λ u. u.0) us) (with_literals_known (map (λ u. u.0) us) f) (orderly_known f (map (λ u. u.0) us) o)
orderly_effect (DeleteClause c Redundant) f a o = orderly_without f true (canonical c) o (λ ms e s. elim s [ inl t ↦ inl t | inr n ↦ inr (irredundant_stay ms (canonical c) f.clauses n) ])
orderly_effect (DeleteClause c Satisfied) f a o = orderly_without f false (canonical c) o (λ ms e s. satisfied_supports f c a.1 ms s)
orderly_effect (DeleteClause c Simplified) f a o = orderly_without f false (canonical c) o (simplified_supports f c a.1)
orderly_effect (Model ls) f a o = orderly_known f ls o
orderly_effect (FailedAssumptions c hs) f a o = o
orderly_effect step f a o = aside f (effect step f) refl refl refl refl refl o

pub orderly : (steps : List Step) → AcceptsAll steps → OrderInvariant (stored_after steps)
orderly [] a = record { increasing = tt; below = tt; last_below = tt; last_holds = tt }
orderly (step ∷ earlier) a = orderly_effect step (with_conflict_settled (stored_after earlier)) a.1 (orderly_settled (stored_after earlier) (orderly earlier a.0))

pub empty_is_given : (steps : List Step) (id : ℕ) → AcceptsAll steps → (ready_after steps).last ≡ Empty id → id < (ready_after steps).next_id
empty_is_given steps id a e = subst (LastIdIsBelow (ready_after steps).next_id) e (orderly_settled (stored_after steps) (orderly steps a)).last_below
