-- What adding and removing clauses requires of a valuation.
use Rattle.std.proofs.Common.{ℕ, ◌+◌, ◌-◌, ◌≡◌, ◌<◌, Bool, true, false, ◌&&◌, ◌||◌, cond, eqb, ltb, List, [], ◌∷◌, ◌++◌, map, refl, sym, ◌∙◌, ap, subst, arith, ◌⊎◌, inl, inr, Some}
use Rattle.std.proofs.lemmas.Bool.{and_parts, both_ways, true≢false, eqb-true}
use Rattle.std.proofs.lemmas.Bool.Decides.{Decides-eqb}
use Rattle.std.proofs.lemmas.Slice.Eq.{slice_eq-Decides}
use Rattle.std.specs.List.{AllByRecursion}
use Rattle.sat_base.specs.values.Clauses.{Valuation, literal_true, clause_true, AllClausesTrue}
use Rattle.sat_checker.specs.LiteralSets.{same_literals, with_literal, canonical}
use Rattle.sat_checker.specs.Stored.{StoredClause}
use Rattle.sat_checker.specs.Storing.{with_count, with_stored_clause, clause_with, irredundant_count, without_count, unless_removed, without_clause}

abbrev pub Kept : Valuation → List StoredClause → Type 0
Kept a = AllByRecursion (λ c. (c.irredundant ≡ 0) ⊎ (clause_true a c.literals ≡ true))

abbrev pub literals_of : List StoredClause → List (List ℕ)
literals_of = map (λ c. c.literals)

pub same : (xs ys : List ℕ) → same_literals xs ys ≡ true → xs ≡ ys
same xs ys e = (slice_eq-Decides Decides-eqb xs ys (same_literals xs ys) refl).0 e

pub same_from : (xs ys : List ℕ) → xs ≡ ys → same_literals xs ys ≡ true
same_from xs ys e = (slice_eq-Decides Decides-eqb xs ys (same_literals xs ys) refl).1 e

-- a clause with one more literal is true if this literal or the rest is
put_true : (a : Valuation) (l : ℕ) (ls : List ℕ) → clause_true a (with_literal l ls) ≡ literal_true a l || clause_true a ls
put_true a l [] = refl
put_true a l (m ∷ ms) = go (ltb l m) (eqb l m) refl (put_true a l ms)
  where
    twice : (x y : Bool) → x || y ≡ x || (x || y)
    twice true y = refl
    twice false y = refl

    turn : (x y z : Bool) → x || (y || z) ≡ y || (x || z)
    turn true true z = refl
    turn true false z = refl
    turn false y z = refl

    go : (b d : Bool) → eqb l m ≡ d → clause_true a (with_literal l ms) ≡ literal_true a l || clause_true a ms → clause_true a (cond b (l ∷ m ∷ ms) (cond d (m ∷ ms) (m ∷ with_literal l ms))) ≡ literal_true a l || (literal_true a m || clause_true a ms)
    go true d e ih = refl
    go false true e ih = subst (λ x. literal_true a m || clause_true a ms ≡ literal_true a x || (literal_true a m || clause_true a ms)) (sym (eqb-true l m e)) (twice (literal_true a m) (clause_true a ms))
    go false false e ih = ap (λ x. literal_true a m || x) ih ∙ turn (literal_true a m) (literal_true a l) (clause_true a ms)

pub canonical_true : (a : Valuation) (ls : List ℕ) → clause_true a (canonical ls) ≡ clause_true a ls
canonical_true a [] = refl
canonical_true a (l ∷ ls) = put_true a l (canonical ls) ∙ ap (λ x. literal_true a l || x) (canonical_true a ls)

one_more : (n : ℕ) → n + 1 ≡ 0 → ⊥
one_more n e = omega arith

-- after a clause is added, a valuation must satisfy the others, and the added one if it is irredundant
pub more_asks : (a : Valuation) (r : Bool) (id : ℕ) (ls : List ℕ) (cs : List StoredClause) → Kept a (with_stored_clause r id ls cs) → Kept a cs × (r ≡ false → clause_true a ls ≡ true)
more_asks a true id ls [] h = (tt, λ e. absurd (true≢false e))
more_asks a false id ls [] h = (tt, λ e. elim h.0 [ inl z ↦ absurd (one_more 0 z) | inr t ↦ t ])
more_asks a r id ls (c ∷ cs) h = go r (more_asks a r id ls cs) (same_literals c.literals ls) refl h
  where
    go : (r : Bool) → (Kept a (with_stored_clause r id ls cs) → Kept a cs × (r ≡ false → clause_true a ls ≡ true)) → (b : Bool) → same_literals c.literals ls ≡ b → Kept a (cond b (with_count r c ∷ cs) (c ∷ with_stored_clause r id ls cs)) → Kept a (c ∷ cs) × (r ≡ false → clause_true a ls ≡ true)
    go true ih true e k = (k, λ z. absurd (true≢false z))
    go false ih true e k =
        let t : clause_true a c.literals ≡ true = elim k.0 [ inl z ↦ absurd (one_more c.irredundant z) | inr y ↦ y ] in
        ((inr t, k.1), λ _. subst (λ x. clause_true a x ≡ true) (same c.literals ls e) t)
    go r ih false e k = let p = ih k.1 in ((k.0, p.0), p.1)

pub more_kept : (a : Valuation) (r : Bool) (id : ℕ) (ls : List ℕ) (cs : List StoredClause) → Kept a cs → clause_true a ls ≡ true → Kept a (with_stored_clause r id ls cs)
more_kept a true id ls [] h t = (inr t, tt)
more_kept a false id ls [] h t = (inr t, tt)
more_kept a r id ls (c ∷ cs) h t = go r (more_kept a r id ls cs h.1 t) (same_literals c.literals ls) refl
  where
    go : (r : Bool) → Kept a (with_stored_clause r id ls cs) → (b : Bool) → same_literals c.literals ls ≡ b → Kept a (cond b (with_count r c ∷ cs) (c ∷ with_stored_clause r id ls cs))
    go true ih true e = (h.0, h.1)
    go false ih true e = (inr (subst (λ x. clause_true a x ≡ true) (sym (same c.literals ls e)) t), h.1)
    go r ih false e = (h.0, ih)

pub more_true : (a : Valuation) (r : Bool) (id : ℕ) (ls : List ℕ) (cs : List StoredClause) → AllClausesTrue a (literals_of cs) → clause_true a ls ≡ true → AllClausesTrue a (literals_of (with_stored_clause r id ls cs))
more_true a true id ls [] h t = (t, tt)
more_true a false id ls [] h t = (t, tt)
more_true a r id ls (c ∷ cs) h t = go r (more_true a r id ls cs h.1 t) (same_literals c.literals ls)
  where
    go : (r : Bool) → AllClausesTrue a (literals_of (with_stored_clause r id ls cs)) → (b : Bool) → AllClausesTrue a (literals_of (cond b (with_count r c ∷ cs) (c ∷ with_stored_clause r id ls cs)))
    go true ih true = (h.0, h.1)
    go false ih true = (h.0, h.1)
    go r ih false = (h.0, ih)

-- if the clauses are satisfied after a count is removed, they were satisfied before,
-- provided that a removed irredundant clause is true
pub less_asks : (a : Valuation) (r : Bool) (ls : List ℕ) (cs : List StoredClause) → (r ≡ false → clause_true a ls ≡ true) → Kept a (without_clause r ls cs) → Kept a cs
less_asks a r ls [] t h = tt
less_asks a r ls (c ∷ cs) t h = go r t (less_asks a r ls cs t) (same_literals c.literals ls) refl h
  where
    gone_too : (r : Bool) → (r ≡ false → clause_true a ls ≡ true) → same_literals c.literals ls ≡ true → (b : Bool) → (eqb (without_count r c).irredundant 0 && eqb (without_count r c).redundant 0) ≡ b → Kept a (cond b [] (without_count r c ∷ []) ++ cs) → Kept a (c ∷ cs)
    gone_too true t e true n k = (inl (eqb-true c.irredundant 0 (and_parts (eqb c.irredundant 0) (eqb (c.redundant - 1) 0) n).0), k)
    gone_too true t e false n k = k
    gone_too false t e true n k = (inr (subst (λ x. clause_true a x ≡ true) (sym (same c.literals ls e)) (t refl)), k)
    gone_too false t e false n k = (inr (subst (λ x. clause_true a x ≡ true) (sym (same c.literals ls e)) (t refl)), k.1)

    go : (r : Bool) → (r ≡ false → clause_true a ls ≡ true) → (Kept a (without_clause r ls cs) → Kept a cs) → (b : Bool) → same_literals c.literals ls ≡ b → Kept a (cond b (unless_removed (without_count r c) ++ cs) (c ∷ without_clause r ls cs)) → Kept a (c ∷ cs)
    go r t ih true e k = gone_too r t e (eqb (without_count r c).irredundant 0 && eqb (without_count r c).redundant 0) refl k
    go r t ih false e k = (k.0, ih k.1)

pub less_kept : (a : Valuation) (r : Bool) (ls : List ℕ) (cs : List StoredClause) → Kept a cs → Kept a (without_clause r ls cs)
less_kept a r ls [] h = tt
less_kept a r ls (c ∷ cs) h = go r (less_kept a r ls cs h.1) (same_literals c.literals ls)
  where
    left_over : (r : Bool) (b : Bool) → Kept a (cond b [] (without_count r c ∷ []) ++ cs)
    left_over r true = h.1
    left_over true false = (h.0, h.1)
    left_over false false = (elim h.0 [ inl z ↦ inl (let k : c.irredundant ≡ 0 = z in omega arith) | inr t ↦ inr t ], h.1)

    go : (r : Bool) → Kept a (without_clause r ls cs) → (b : Bool) → Kept a (cond b (unless_removed (without_count r c) ++ cs) (c ∷ without_clause r ls cs))
    go r ih true = left_over r (eqb (without_count r c).irredundant 0 && eqb (without_count r c).redundant 0)
    go r ih false = (h.0, ih)

pub less_true : (a : Valuation) (r : Bool) (ls : List ℕ) (cs : List StoredClause) → AllClausesTrue a (literals_of cs) → AllClausesTrue a (literals_of (without_clause r ls cs))
less_true a r ls [] h = tt
less_true a r ls (c ∷ cs) h = go r (less_true a r ls cs h.1) (same_literals c.literals ls)
  where
    left_over : (r : Bool) (b : Bool) → AllClausesTrue a (literals_of (cond b [] (without_count r c ∷ []) ++ cs))
    left_over r true = h.1
    left_over true false = (h.0, h.1)
    left_over false false = (h.0, h.1)

    go : (r : Bool) → AllClausesTrue a (literals_of (without_clause r ls cs)) → (b : Bool) → AllClausesTrue a (literals_of (cond b (unless_removed (without_count r c) ++ cs) (c ∷ without_clause r ls cs)))
    go r ih true = left_over r (eqb (without_count r c).irredundant 0 && eqb (without_count r c).redundant 0)
    go r ih false = (h.0, ih)

-- a clause with an irredundant count is true
pub counted_true : (a : Valuation) (ls : List ℕ) (cs : List StoredClause) → Kept a cs → 0 < irredundant_count (clause_with ls cs) → clause_true a ls ≡ true
counted_true a ls [] h n = absurd (omega arith)
counted_true a ls (c ∷ cs) h n = go (counted_true a ls cs h.1) (same_literals c.literals ls) refl n
  where
    go : (0 < irredundant_count (clause_with ls cs) → clause_true a ls ≡ true) → (b : Bool) → same_literals c.literals ls ≡ b → 0 < irredundant_count (cond b (Some c) (clause_with ls cs)) → clause_true a ls ≡ true
    go ih true e n = elim h.0 [ inl z ↦ (let k : c.irredundant ≡ 0 = z in absurd (omega arith)) | inr t ↦ subst (λ x. clause_true a x ≡ true) (same c.literals ls e) t ]
    go ih false e n = ih n

-- removing a count of one set does not change another set
pub others_stay : (r : Bool) (ls ms : List ℕ) (cs : List StoredClause) → same_literals ls ms ≡ false → clause_with ls (without_clause r ms cs) ≡ clause_with ls cs
others_stay r ls ms [] n = refl
others_stay r ls ms (c ∷ cs) n = go r (others_stay r ls ms cs n) (same_literals c.literals ms) refl
  where
    not_it : same_literals c.literals ms ≡ true → same_literals c.literals ls ≡ false
    not_it e = go (same_literals c.literals ls) refl
      where
        go : (b : Bool) → same_literals c.literals ls ≡ b → b ≡ false
        go true s = absurd (both_ways (same_literals ls ms) n (same_from ls ms (sym (same c.literals ls s) ∙ same c.literals ms e)))
        go false s = refl

    left_over : (r : Bool) (b : Bool) → same_literals c.literals ls ≡ false → clause_with ls (cond b [] (without_count r c ∷ []) ++ cs) ≡ clause_with ls (c ∷ cs)
    left_over r true s = sym (ap (λ b. cond b (Some c) (clause_with ls cs)) s)
    left_over true false s = ap (λ b. cond b (Some (without_count true c)) (clause_with ls cs)) s ∙ sym (ap (λ b. cond b (Some c) (clause_with ls cs)) s)
    left_over false false s = ap (λ b. cond b (Some (without_count false c)) (clause_with ls cs)) s ∙ sym (ap (λ b. cond b (Some c) (clause_with ls cs)) s)

    go : (r : Bool) → clause_with ls (without_clause r ms cs) ≡ clause_with ls cs → (b : Bool) → same_literals c.literals ms ≡ b → clause_with ls (cond b (unless_removed (without_count r c) ++ cs) (c ∷ without_clause r ms cs)) ≡ clause_with ls (c ∷ cs)
    go r ih true e = left_over r (eqb (without_count r c).irredundant 0 && eqb (without_count r c).redundant 0) (not_it e)
    go r ih false e = ap (λ o. cond (same_literals c.literals ls) (Some c) o) ih

-- a clause with an irredundant count still has one after a redundant count is removed
pub irredundant_stay : (ls ms : List ℕ) (cs : List StoredClause) → 0 < irredundant_count (clause_with ls cs) → 0 < irredundant_count (clause_with ls (without_clause true ms cs))
irredundant_stay ls ms [] n = n
irredundant_stay ls ms (c ∷ cs) n = go (irredundant_stay ls ms cs) (same_literals c.literals ms) refl n
  where
    by_mark : (b : Bool) → (eqb c.irredundant 0 && eqb (c.redundant - 1) 0) ≡ b → same_literals c.literals ms ≡ true → (d : Bool) → same_literals c.literals ls ≡ d → 0 < irredundant_count (cond d (Some c) (clause_with ls cs)) → 0 < irredundant_count (clause_with ls (cond b [] (without_count true c ∷ []) ++ cs))
    by_mark true g e true s n = let z : c.irredundant ≡ 0 = eqb-true c.irredundant 0 (and_parts (eqb c.irredundant 0) (eqb (c.redundant - 1) 0) g).0 in absurd (omega arith)
    by_mark true g e false s n = n
    by_mark false g e true s n = subst (λ b. 0 < irredundant_count (cond b (Some (without_count true c)) (clause_with ls cs))) (sym s) n
    by_mark false g e false s n = subst (λ b. 0 < irredundant_count (cond b (Some (without_count true c)) (clause_with ls cs))) (sym s) n

    go : (0 < irredundant_count (clause_with ls cs) → 0 < irredundant_count (clause_with ls (without_clause true ms cs))) → (b : Bool) → same_literals c.literals ms ≡ b → 0 < irredundant_count (clause_with ls (c ∷ cs)) → 0 < irredundant_count (clause_with ls (cond b (unless_removed (without_count true c) ++ cs) (c ∷ without_clause true ms cs)))
    go ih true e n = by_mark (eqb c.irredundant 0 && eqb (c.redundant - 1) 0) refl e (same_literals c.literals ls) refl n
    go ih false e n = pick ih (same_literals c.literals ls) n
      where
        pick : (0 < irredundant_count (clause_with ls cs) → 0 < irredundant_count (clause_with ls (without_clause true ms cs))) → (d : Bool) → 0 < irredundant_count (cond d (Some c) (clause_with ls cs)) → 0 < irredundant_count (cond d (Some c) (clause_with ls (without_clause true ms cs)))
        pick ih true k = k
        pick ih false k = ih k

-- a clause with an irredundant count still has one after any clause is added
pub irredundant_more : (r : Bool) (id : ℕ) (ls ms : List ℕ) (cs : List StoredClause) → 0 < irredundant_count (clause_with ls cs) → 0 < irredundant_count (clause_with ls (with_stored_clause r id ms cs))
irredundant_more r id ls ms [] n = absurd (omega arith)
irredundant_more r id ls ms (c ∷ cs) n = go r (irredundant_more r id ls ms cs) (same_literals c.literals ms) n
  where
    once_more : (r d : Bool) → 0 < irredundant_count (cond d (Some c) (clause_with ls cs)) → 0 < irredundant_count (cond d (Some (with_count r c)) (clause_with ls cs))
    once_more true true k = k
    once_more false true k = omega arith
    once_more r false k = k

    following : (r d : Bool) → (0 < irredundant_count (clause_with ls cs) → 0 < irredundant_count (clause_with ls (with_stored_clause r id ms cs))) → 0 < irredundant_count (cond d (Some c) (clause_with ls cs)) → 0 < irredundant_count (cond d (Some c) (clause_with ls (with_stored_clause r id ms cs)))
    following r true ih k = k
    following r false ih k = ih k

    go : (r : Bool) → (0 < irredundant_count (clause_with ls cs) → 0 < irredundant_count (clause_with ls (with_stored_clause r id ms cs))) → (b : Bool) → 0 < irredundant_count (clause_with ls (c ∷ cs)) → 0 < irredundant_count (clause_with ls (cond b (with_count r c ∷ cs) (c ∷ with_stored_clause r id ms cs)))
    go true ih true k = once_more true (same_literals c.literals ls) k
    go false ih true k = once_more false (same_literals c.literals ls) k
    go r ih false k = following r (same_literals c.literals ls) ih k
