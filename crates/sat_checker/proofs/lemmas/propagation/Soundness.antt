-- If assumed literals are true, clauses that are unit in turn, the last falsified, cannot all be true.
use Rattle.std.proofs.Common.{ℕ, ◌-◌, ◌/◌, ◌%◌, ◌≡◌, Bool, true, false, not, cond, eqb, List, [], ◌∷◌, ◌++◌, map, filter, refl, sym, ◌∙◌, subst, arith, ◌⊎◌, inl, inr}
use Rattle.std.proofs.lemmas.Bool.{cases_Bool, cases_eq, or_parts, or_cases, or_left, or_right, both_ways, eqb-true, true≢false}
use Rattle.std.specs.List.{AllByRecursion, list_any}
use Rattle.sat_base.specs.values.Literals.{negated}
use Rattle.sat_base.specs.values.Clauses.{Valuation, literal_true, clause_true, AllLitsTrue, AllClausesTrue}
use Rattle.sat_checker.specs.LiteralSets.{is_among, is_tautology}
use Rattle.sat_checker.specs.Propagation.{IsFalsified, UnitInTurn, IsSubsequence, clauses_in, PassesCheck, tautology, unit_true, conflict}
use Rattle.sat_checker.specs.Stored.{Stored, unit_literals, long_clauses, clause_hash_by, bucket}
use Rattle.sat_checker.specs.Accepts.{PassesByHashes}
use Rattle.sat_checker.proofs.lemmas.propagation.Greedy.{joined_front, picked_each}

pub negated-negated : (l : ℕ) → negated (negated l) ≡ l
negated-negated l = omega arith

not_not : (b : Bool) → b ≡ not (not b)
not_not true = refl
not_not false = refl

-- a literal's negation has the opposite value
pub negated_value : (a : Valuation) (l : ℕ) → literal_true a (negated l) ≡ not (literal_true a l)
negated_value a l =
    let half : negated l / 2 ≡ l / 2 = omega arith in
    let sign : negated l % 2 ≡ 1 - l % 2 = omega arith in
    rw (half, sign) (elim (cases_eq (l % 2) 0) [ inl e ↦ rw e refl | inr e ↦ let o : l % 2 ≡ 1 = omega arith in rw o (not_not (a (l / 2))) ])

-- a member of a list of true literals is true
pub true_among : (a : Valuation) (ls : List ℕ) (l : ℕ) → AllLitsTrue a ls → is_among ls l ≡ true → literal_true a l ≡ true
true_among a [] l h e = absurd (true≢false (sym e))
true_among a (x ∷ xs) l h e =
    elim (or_cases (eqb x l) (is_among xs l) e) [ inl s ↦ subst (λ y. literal_true a y ≡ true) (eqb-true x l s) h.0 | inr m ↦ true_among a xs l h.1 m ]

-- a literal whose negation is assumed is false
pub false_literal : (a : Valuation) (assumed : List ℕ) (l : ℕ) → AllLitsTrue a assumed → is_among assumed (negated l) ≡ true → literal_true a l ≡ false
false_literal a assumed l h e = flip (literal_true a l) (sym (negated_value a l) ∙ true_among a assumed (negated l) h e)
  where
    flip : (b : Bool) → not b ≡ true → b ≡ false
    flip true n = sym n
    flip false n = refl

falsified : (a : Valuation) (assumed clause : List ℕ) → AllLitsTrue a assumed → IsFalsified assumed clause → clause_true a clause ≡ true → ⊥
falsified a assumed [] h f t = true≢false (sym t)
falsified a assumed (l ∷ ls) h f t =
    elim (or_cases (literal_true a l) (clause_true a ls) t) [ inl s ↦ both_ways (literal_true a l) (false_literal a assumed l h f.0) s | inr m ↦ falsified a assumed ls h f.1 m ]

unit : (a : Valuation) (assumed clause : List ℕ) (o : ℕ) → AllLitsTrue a assumed → AllByRecursion (λ l. (l ≡ o) ⊎ (is_among assumed (negated l) ≡ true)) clause → clause_true a clause ≡ true → literal_true a o ≡ true
unit a assumed [] o h f t = absurd (true≢false (sym t))
unit a assumed (l ∷ ls) o h f t =
    elim (or_cases (literal_true a l) (clause_true a ls) t) [
      | inl s ↦ elim f.0 [ inl e ↦ subst (λ y. literal_true a y ≡ true) e s | inr n ↦ absurd (both_ways (literal_true a l) (false_literal a assumed l h n) s) ]
      | inr m ↦ unit a assumed ls o h f.1 m
    ]

pub conflict_never : (a : Valuation) (assumed : List ℕ) (clauses : List (List ℕ)) → AllLitsTrue a assumed → AllClausesTrue a clauses → UnitInTurn assumed clauses → ⊥
conflict_never a assumed [] h t r = r
conflict_never a assumed (c ∷ []) h t r = falsified a assumed c h r t.0
conflict_never a assumed (c ∷ d ∷ cs) h t r = conflict_never a (r.0 ∷ assumed) (d ∷ cs) (unit a assumed c r.0 h r.1.others t.0, h) t.1 r.2

EachHolds-chosen : (a : Valuation) (xs ys : List (List ℕ)) → IsSubsequence xs ys → AllClausesTrue a ys → AllClausesTrue a xs
EachHolds-chosen a = picked_each (λ c. clause_true a c ≡ true)

EachTrue-both : (a : Valuation) (xs ys : List ℕ) → AllLitsTrue a xs → AllLitsTrue a ys → AllLitsTrue a (xs ++ ys)
EachTrue-both a [] ys p q = q
EachTrue-both a (x ∷ xs) ys p q = (p.0, EachTrue-both a xs ys p.1 q)

pub not_false : (b : Bool) → b ≡ false → not b ≡ true
not_false true e = sym e
not_false false e = refl

-- if a clause is false, the negations of its literals are true
negations_true : (a : Valuation) (clause : List ℕ) → clause_true a clause ≡ false → AllLitsTrue a (map negated clause)
negations_true a [] e = tt
negations_true a (l ∷ ls) e =
    let parts = or_parts (literal_true a l) (clause_true a ls) e in
    (negated_value a l ∙ not_false (literal_true a l) parts.0, negations_true a ls parts.1)

EachHolds-filter : (a : Valuation) (test : List ℕ → Bool) (cs : List (List ℕ)) → AllClausesTrue a cs → AllClausesTrue a (filter test cs)
EachHolds-filter a test [] h = tt
EachHolds-filter a test (c ∷ cs) h = go (EachHolds-filter a test cs h.1) (test c)
  where
    go : AllClausesTrue a (filter test cs) → (b : Bool) → AllClausesTrue a (cond b (c ∷ filter test cs) (filter test cs))
    go ih true = (h.0, ih)
    go ih false = ih

EachHolds-buckets : (a : Valuation) (first rest buckets : List (List (List ℕ))) → AllByRecursion (AllClausesTrue a) buckets → buckets ≡ first ++ rest → AllClausesTrue a (clauses_in first)
EachHolds-buckets a first rest buckets h e = joined_front (λ c. clause_true a c ≡ true) first rest (subst (AllByRecursion (AllClausesTrue a)) e h)

-- a clause with a true literal is true
pub member_true : (a : Valuation) (ls : List ℕ) (l : ℕ) → is_among ls l ≡ true → literal_true a l ≡ true → clause_true a ls ≡ true
member_true a [] l m t = absurd (true≢false (sym m))
member_true a (x ∷ xs) l m t =
    elim (or_cases (eqb x l) (is_among xs l) m) [
      | inl s ↦ or_left (literal_true a x) (clause_true a xs) (subst (λ y. literal_true a y ≡ true) (sym (eqb-true x l s)) t)
      | inr k ↦ or_right (literal_true a x) (clause_true a xs) (member_true a xs l k t)
    ]

pub tautology_true : (a : Valuation) (ls : List ℕ) → is_tautology ls ≡ true → clause_true a ls ≡ true
tautology_true a [] e = absurd (true≢false (sym e))
tautology_true a (l ∷ ls) e =
    elim (cases_Bool (literal_true a l)) [
      | inl t ↦ or_left (literal_true a l) (clause_true a ls) t
      | inr f ↦ or_right (literal_true a l) (clause_true a ls) (elim (or_cases (is_among ls (negated l)) (is_tautology ls) e) [
        | inl m ↦ member_true a ls (negated l) m (negated_value a l ∙ not_false (literal_true a l) f)
        | inr k ↦ tautology_true a ls k
      ])
    ]

pub unit_in_clause : (a : Valuation) (units clause : List ℕ) → AllLitsTrue a units → list_any (is_among units) clause ≡ true → clause_true a clause ≡ true
unit_in_clause a units [] h e = absurd (true≢false (sym e))
unit_in_clause a units (l ∷ ls) h e =
    elim (or_cases (is_among units l) (list_any (is_among units) ls) e) [
      | inl m ↦ or_left (literal_true a l) (clause_true a ls) (true_among a units l h m)
      | inr k ↦ or_right (literal_true a l) (clause_true a ls) (unit_in_clause a units ls h k)
    ]

-- a clause that passes is true if the units and the clauses of the buckets are
pub passed_holds : (units clause : List ℕ) (buckets : List (List (List ℕ))) (a : Valuation) → PassesCheck units clause buckets → AllLitsTrue a units → AllByRecursion (AllClausesTrue a) buckets → clause_true a clause ≡ true
passed_holds units clause buckets a (tautology e) u h = tautology_true a clause e
passed_holds units clause buckets a (unit_true e) u h = unit_in_clause a units clause u e
passed_holds units clause buckets a (conflict k) u h =
    elim (cases_Bool (clause_true a clause)) [
      | inl t ↦ t
      | inr n ↦ absurd (conflict_never a (map negated clause ++ units) k.picked (EachTrue-both a (map negated clause) units (negations_true a clause n) u) (EachHolds-chosen a k.picked (clauses_in k.first) k.chosen (EachHolds-buckets a k.first k.rest buckets h k.split)) k.conflict)
    ]

buckets_hold : (f : Stored) (hashes : List ℕ) (a : Valuation) → AllClausesTrue a (long_clauses f) → AllByRecursion (AllClausesTrue a) (map (bucket f) hashes)
buckets_hold f [] a h = tt
buckets_hold f (k ∷ ks) a h = (EachHolds-filter a (λ c. eqb (clause_hash_by f.solver_names f.width c) k) (long_clauses f) h, buckets_hold f ks a h)

-- a clause that passes is true if the stored units and clauses are
pub derived_hold : (f : Stored) (clause hashes : List ℕ) (a : Valuation) → PassesByHashes f clause hashes → AllLitsTrue a (unit_literals f) → AllClausesTrue a (long_clauses f) → clause_true a clause ≡ true
derived_hold f clause hashes a p u h = passed_holds (unit_literals f) clause (map (bucket f) hashes) a p u (buckets_hold f hashes a h)
