-- Counts of stored clauses, as clauses are added and removed.
use Rattle.std.proofs.Common.{ℕ, ◌+◌, ◌-◌, ◌<◌, ◌≡◌, Bool, true, false, ◌&&◌, cond, eqb, List, [], ◌∷◌, ◌++◌, refl, sym, ◌∙◌, ap, subst, arith, inl, inr, Option, None, Some, eq-zero-or-pos}
use Rattle.std.proofs.lemmas.Bool.{and_parts, both_ways, eqb-true, eqb-false}
use Rattle.std.specs.List.{AllByRecursion}
use Rattle.sat_checker.specs.LiteralSets.{same_literals}
use Rattle.sat_checker.specs.Stored.{StoredClause}
use Rattle.sat_checker.specs.Storing.{with_count, new_clause, with_stored_clause, clause_with, without_count, unless_removed, without_clause}
use Rattle.sat_checker.proofs.lemmas.meaning.Clauses.{same, same_from, others_stay}
use Rattle.sat_checker.specs.Contents.{count_in, same_flag, plus_one_if, minus_one_if}
use Rattle.sat_checker.specs.Invariants.{AreDistinctSets, HaveCounts}

nonzero : (n : ℕ) → eqb n 0 ≡ false → 0 < n
nonzero n e = elim (eq-zero-or-pos n) [ inl z ↦ absurd (eqb-false n 0 e z) | inr p ↦ p ]

-- if two sets differ, one differs from every copy of the other
differ : (xs ys zs : List ℕ) → same_literals xs ys ≡ false → same_literals xs zs ≡ true → same_literals ys zs ≡ false
differ xs ys zs n e = go (same_literals ys zs) refl
  where
    go : (b : Bool) → same_literals ys zs ≡ b → b ≡ false
    go true t = absurd (both_ways (same_literals xs ys) n (same_from xs ys (same xs zs e ∙ sym (same ys zs t))))
    go false t = refl

differ_back : (xs ys : List ℕ) → same_literals xs ys ≡ false → same_literals ys xs ≡ false
differ_back xs ys n = go (same_literals ys xs) refl
  where
    go : (b : Bool) → same_literals ys xs ≡ b → b ≡ false
    go true t = absurd (both_ways (same_literals xs ys) n (same_from xs ys (sym (same ys xs t))))
    go false t = refl

more_none : (r q b : Bool) (n : ℕ) → b ≡ false → n ≡ plus_one_if (same_flag r q && b) n
more_none r q true n e = absurd cc
more_none true true false n e = refl
more_none true false false n e = refl
more_none false true false n e = refl
more_none false false false n e = refl

less_none : (r q b : Bool) (n : ℕ) → b ≡ false → n ≡ minus_one_if (same_flag r q && b) n
less_none r q true n e = absurd cc
less_none true true false n e = refl
less_none true false false n e = refl
less_none false true false n e = refl
less_none false false false n e = refl

-- adding a clause adds one count of this set on this side
pub count_more : (r q : Bool) (id : ℕ) (ls ms : List ℕ) (cs : List StoredClause) → count_in q (clause_with ms (with_stored_clause r id ls cs)) ≡ plus_one_if (same_flag r q && same_literals ls ms) (count_in q (clause_with ms cs))
count_more true q id ls ms [] = go q (same_literals ls ms)
  where
    go : (q b : Bool) → count_in q (cond b (Some (new_clause true id ls)) None) ≡ plus_one_if (same_flag true q && b) (count_in q None)
    go true true = refl
    go true false = refl
    go false true = refl
    go false false = refl
count_more false q id ls ms [] = go q (same_literals ls ms)
  where
    go : (q b : Bool) → count_in q (cond b (Some (new_clause false id ls)) None) ≡ plus_one_if (same_flag false q && b) (count_in q None)
    go true true = refl
    go true false = refl
    go false true = refl
    go false false = refl
count_more r q id ls ms (c ∷ cs) = go r (count_more r q id ls ms cs) (same_literals c.literals ls) refl
  where
    hit : (r q b : Bool) (o : Option StoredClause) → count_in q (cond b (Some (with_count r c)) o) ≡ plus_one_if (same_flag r q && b) (count_in q (cond b (Some c) o))
    hit true true true o = refl
    hit true true false o = refl
    hit true false true o = refl
    hit true false false o = refl
    hit false true true o = refl
    hit false true false o = refl
    hit false false true o = refl
    hit false false false o = refl

    miss : (r : Bool) → count_in q (clause_with ms (with_stored_clause r id ls cs)) ≡ plus_one_if (same_flag r q && same_literals ls ms) (count_in q (clause_with ms cs)) → same_literals c.literals ls ≡ false → (b : Bool) → same_literals c.literals ms ≡ b
        → count_in q (cond b (Some c) (clause_with ms (with_stored_clause r id ls cs))) ≡ plus_one_if (same_flag r q && same_literals ls ms) (count_in q (cond b (Some c) (clause_with ms cs)))
    miss r ih e true s = more_none r q (same_literals ls ms) (count_in q (Some c)) (differ c.literals ls ms e s)
    miss r ih e false s = ih

    as_its : same_literals c.literals ls ≡ true → same_literals c.literals ms ≡ same_literals ls ms
    as_its e = ap (λ l. same_literals l ms) (same c.literals ls e)

    go : (r : Bool) → count_in q (clause_with ms (with_stored_clause r id ls cs)) ≡ plus_one_if (same_flag r q && same_literals ls ms) (count_in q (clause_with ms cs)) → (b : Bool) → same_literals c.literals ls ≡ b
        → count_in q (clause_with ms (cond b (with_count r c ∷ cs) (c ∷ with_stored_clause r id ls cs))) ≡ plus_one_if (same_flag r q && same_literals ls ms) (count_in q (clause_with ms (c ∷ cs)))
    go true ih true e = hit true q (same_literals c.literals ms) (clause_with ms cs) ∙ ap (λ b. plus_one_if (same_flag true q && b) (count_in q (clause_with ms (c ∷ cs)))) (as_its e)
    go false ih true e = hit false q (same_literals c.literals ms) (clause_with ms cs) ∙ ap (λ b. plus_one_if (same_flag false q && b) (count_in q (clause_with ms (c ∷ cs)))) (as_its e)
    go r ih false e = miss r ih e (same_literals c.literals ms) refl

-- removing a clause removes one count of this set on this side, if no set is stored twice
pub count_less : (r q : Bool) (ls ms : List ℕ) (cs : List StoredClause) → AreDistinctSets cs → count_in q (clause_with ms (without_clause r ls cs)) ≡ minus_one_if (same_flag r q && same_literals ls ms) (count_in q (clause_with ms cs))
count_less r q ls ms [] h = go q (same_flag r q && same_literals ls ms)
  where
    go : (q b : Bool) → count_in q None ≡ minus_one_if b (count_in q None)
    go true true = refl
    go true false = refl
    go false true = refl
    go false false = refl
count_less r q ls ms (c ∷ cs) h = go r (count_less r q ls ms cs h.1) (same_literals c.literals ls) refl
  where
    hit : (r q b : Bool) (o : Option StoredClause) → count_in q (cond b (Some (without_count r c)) o) ≡ minus_one_if (same_flag r q && b) (count_in q (cond b (Some c) o))
    hit true true true o = refl
    hit true true false o = refl
    hit true false true o = refl
    hit true false false o = refl
    hit false true true o = refl
    hit false true false o = refl
    hit false false true o = refl
    hit false false false o = refl

    gone_zero : (r q : Bool) → (eqb (without_count r c).irredundant 0 && eqb (without_count r c).redundant 0) ≡ true → 0 ≡ minus_one_if (same_flag r q && true) (count_in q (Some c))
    gone_zero true true g = let z = eqb-true (c.redundant - 1) 0 (and_parts (eqb c.irredundant 0) (eqb (c.redundant - 1) 0) g).1 in sym z
    gone_zero true false g = let z = eqb-true c.irredundant 0 (and_parts (eqb c.irredundant 0) (eqb (c.redundant - 1) 0) g).0 in sym z
    gone_zero false true g = let z = eqb-true c.redundant 0 (and_parts (eqb (c.irredundant - 1) 0) (eqb c.redundant 0) g).1 in sym z
    gone_zero false false g = let z = eqb-true (c.irredundant - 1) 0 (and_parts (eqb (c.irredundant - 1) 0) (eqb c.redundant 0) g).0 in sym z

    none_counts : (q : Bool) → count_in q None ≡ 0
    none_counts true = refl
    none_counts false = refl

    gone : (r b : Bool) → (eqb (without_count r c).irredundant 0 && eqb (without_count r c).redundant 0) ≡ true → same_literals c.literals ms ≡ b → count_in q (clause_with ms cs) ≡ minus_one_if (same_flag r q && b) (count_in q (cond b (Some c) (clause_with ms cs)))
    gone r true g s = ap (count_in q) (subst (λ l. clause_with l cs ≡ None) (same c.literals ms s) h.0) ∙ none_counts q ∙ gone_zero r q g
    gone r false g s = less_none r q false (count_in q (clause_with ms cs)) refl

    taken : (r g : Bool) → (eqb (without_count r c).irredundant 0 && eqb (without_count r c).redundant 0) ≡ g → count_in q (clause_with ms (cond g [] (without_count r c ∷ []) ++ cs)) ≡ minus_one_if (same_flag r q && same_literals c.literals ms) (count_in q (clause_with ms (c ∷ cs)))
    taken r true e = gone r (same_literals c.literals ms) e refl
    taken true false e = hit true q (same_literals c.literals ms) (clause_with ms cs)
    taken false false e = hit false q (same_literals c.literals ms) (clause_with ms cs)

    miss : (r : Bool) → count_in q (clause_with ms (without_clause r ls cs)) ≡ minus_one_if (same_flag r q && same_literals ls ms) (count_in q (clause_with ms cs)) → same_literals c.literals ls ≡ false → (b : Bool) → same_literals c.literals ms ≡ b
        → count_in q (cond b (Some c) (clause_with ms (without_clause r ls cs))) ≡ minus_one_if (same_flag r q && same_literals ls ms) (count_in q (cond b (Some c) (clause_with ms cs)))
    miss r ih e true s = less_none r q (same_literals ls ms) (count_in q (Some c)) (differ c.literals ls ms e s)
    miss r ih e false s = ih

    go : (r : Bool) → count_in q (clause_with ms (without_clause r ls cs)) ≡ minus_one_if (same_flag r q && same_literals ls ms) (count_in q (clause_with ms cs)) → (b : Bool) → same_literals c.literals ls ≡ b
        → count_in q (clause_with ms (cond b (unless_removed (without_count r c) ++ cs) (c ∷ without_clause r ls cs))) ≡ minus_one_if (same_flag r q && same_literals ls ms) (count_in q (clause_with ms (c ∷ cs)))
    go r ih true e =
        taken r (eqb (without_count r c).irredundant 0 && eqb (without_count r c).redundant 0) refl
        ∙ ap (λ l. minus_one_if (same_flag r q && same_literals l ms) (count_in q (clause_with ms (c ∷ cs)))) (same c.literals ls e)
    go r ih false e = miss r ih e (same_literals c.literals ms) refl

-- adding a clause does not change other sets
others_more : (r : Bool) (id : ℕ) (ls ms : List ℕ) (cs : List StoredClause) → same_literals ls ms ≡ false → clause_with ms (with_stored_clause r id ls cs) ≡ clause_with ms cs
others_more true id ls ms [] n = ap (λ b. cond b (Some (new_clause true id ls)) None) n
others_more false id ls ms [] n = ap (λ b. cond b (Some (new_clause false id ls)) None) n
others_more r id ls ms (c ∷ cs) n = go r (others_more r id ls ms cs n) (same_literals c.literals ls) refl
  where
    not_it : same_literals c.literals ls ≡ true → same_literals c.literals ms ≡ false
    not_it e = ap (λ l. same_literals l ms) (same c.literals ls e) ∙ n

    go : (r : Bool) → clause_with ms (with_stored_clause r id ls cs) ≡ clause_with ms cs → (b : Bool) → same_literals c.literals ls ≡ b → clause_with ms (cond b (with_count r c ∷ cs) (c ∷ with_stored_clause r id ls cs)) ≡ clause_with ms (c ∷ cs)
    go true ih true e = ap (λ b. cond b (Some (with_count true c)) (clause_with ms cs)) (not_it e) ∙ sym (ap (λ b. cond b (Some c) (clause_with ms cs)) (not_it e))
    go false ih true e = ap (λ b. cond b (Some (with_count false c)) (clause_with ms cs)) (not_it e) ∙ sym (ap (λ b. cond b (Some c) (clause_with ms cs)) (not_it e))
    go r ih false e = ap (λ o. cond (same_literals c.literals ms) (Some c) o) ih

pub once_more : (r : Bool) (id : ℕ) (ls : List ℕ) (cs : List StoredClause) → AreDistinctSets cs → AreDistinctSets (with_stored_clause r id ls cs)
once_more r id ls [] h = (refl, tt)
once_more r id ls (c ∷ cs) h = go r (once_more r id ls cs h.1) (same_literals c.literals ls) refl
  where
    go : (r : Bool) → AreDistinctSets (with_stored_clause r id ls cs) → (b : Bool) → same_literals c.literals ls ≡ b → AreDistinctSets (cond b (with_count r c ∷ cs) (c ∷ with_stored_clause r id ls cs))
    go true ih true e = (h.0, h.1)
    go false ih true e = (h.0, h.1)
    go r ih false e = (others_more r id ls c.literals cs (differ_back c.literals ls e) ∙ h.0, ih)

pub once_less : (r : Bool) (ls : List ℕ) (cs : List StoredClause) → AreDistinctSets cs → AreDistinctSets (without_clause r ls cs)
once_less r ls [] h = tt
once_less r ls (c ∷ cs) h = go r (once_less r ls cs h.1) (same_literals c.literals ls) refl
  where
    left_over : (r g : Bool) → AreDistinctSets (cond g [] (without_count r c ∷ []) ++ cs)
    left_over r true = h.1
    left_over true false = (h.0, h.1)
    left_over false false = (h.0, h.1)

    go : (r : Bool) → AreDistinctSets (without_clause r ls cs) → (b : Bool) → same_literals c.literals ls ≡ b → AreDistinctSets (cond b (unless_removed (without_count r c) ++ cs) (c ∷ without_clause r ls cs))
    go r ih true e = left_over r (eqb (without_count r c).irredundant 0 && eqb (without_count r c).redundant 0)
    go r ih false e = (others_stay r c.literals ls cs e ∙ h.0, ih)

pub counted_more : (r : Bool) (id : ℕ) (ls : List ℕ) (cs : List StoredClause) → HaveCounts cs → HaveCounts (with_stored_clause r id ls cs)
counted_more true id ls [] h = (omega arith, tt)
counted_more false id ls [] h = (omega arith, tt)
counted_more r id ls (c ∷ cs) h = go r (counted_more r id ls cs h.1) (same_literals c.literals ls)
  where
    go : (r : Bool) → HaveCounts (with_stored_clause r id ls cs) → (b : Bool) → HaveCounts (cond b (with_count r c ∷ cs) (c ∷ with_stored_clause r id ls cs))
    go true ih true = (omega arith, h.1)
    go false ih true = (omega arith, h.1)
    go r ih false = (h.0, ih)

pub counted_less : (r : Bool) (ls : List ℕ) (cs : List StoredClause) → HaveCounts cs → HaveCounts (without_clause r ls cs)
counted_less r ls [] h = tt
counted_less r ls (c ∷ cs) h = go r (counted_less r ls cs h.1) (same_literals c.literals ls)
  where
    positive : (d : StoredClause) (g : Bool) → (eqb d.irredundant 0 && eqb d.redundant 0) ≡ g → HaveCounts (cond g [] (d ∷ []) ++ cs)
    positive d true e = h.1
    positive d false e = (left d (eqb d.irredundant 0) refl (eqb d.redundant 0) refl e, h.1)
      where
        left : (d : StoredClause) (a : Bool) → eqb d.irredundant 0 ≡ a → (b : Bool) → eqb d.redundant 0 ≡ b → (a && b) ≡ false → 0 < d.irredundant + d.redundant
        left d true x true y z = absurd cc
        left d true x false y z = let n = nonzero d.redundant y in omega arith
        left d false x b y z = let n = nonzero d.irredundant x in omega arith

    go : (r : Bool) → HaveCounts (without_clause r ls cs) → (b : Bool) → HaveCounts (cond b (unless_removed (without_count r c) ++ cs) (c ∷ without_clause r ls cs))
    go r ih true = positive (without_count r c) (eqb (without_count r c).irredundant 0 && eqb (without_count r c).redundant 0) refl
    go r ih false = (h.0, ih)

-- if no set is stored twice, every clause is found by its literals
pub found : (cs : List StoredClause) → AreDistinctSets cs → AllByRecursion (λ c. clause_with c.literals cs ≡ Some c) cs
found [] h = tt
found (c ∷ cs) h = (ap (λ b. cond b (Some c) (clause_with c.literals cs)) (same_from c.literals c.literals refl), later cs (found cs h.1))
  where
    pick : (d : StoredClause) (b : Bool) → same_literals c.literals d.literals ≡ b → clause_with d.literals cs ≡ Some d → cond b (Some c) (clause_with d.literals cs) ≡ Some d
    pick d true e k = let none : clause_with d.literals cs ≡ None = subst (λ l. clause_with l cs ≡ None) (same c.literals d.literals e) h.0 in absurd (apart d (sym none ∙ k))
      where
        apart : (d : StoredClause) → None ≡ Some d → ⊥
        apart d e = cc
    pick d false e k = k

    later : (ds : List StoredClause) → AllByRecursion (λ d. clause_with d.literals cs ≡ Some d) ds → AllByRecursion (λ d. clause_with d.literals (c ∷ cs) ≡ Some d) ds
    later [] k = tt
    later (d ∷ ds) k = (pick d (same_literals c.literals d.literals) refl k.0, later ds k.1)
