-- The tests that a model must pass.
use Rattle.std.proofs.Common.{ℕ, zero, suc, ◌+◌, ◌<◌, ◌≡◌, ◌≢◌, Bool, true, false, not, ◌||◌, ◌&&◌, eqb, List, [], ◌∷◌, length, drop, get_or, map, refl, sym, ◌∙◌, ap, subst, arith, ◌⊎◌, inl, inr, ◌↔◌}
use Rattle.std.proofs.lemmas.Bool.{and_parts, or_cases, or_left, or_right, both_ways, eqb-true, eq-eqb, ne_eqb, true≢false}
use Rattle.std.proofs.lemmas.List.{drop_more, get_or_read}
use Rattle.std.specs.List.{AllByRecursion, list_any}
use Rattle.sat_base.specs.values.Literals.{negated, variable}
use Rattle.sat_checker.specs.LiteralSets.{is_among, mentions}
use Rattle.sat_checker.specs.Stored.{Stored, StoredClause, StoredUnit}
use Rattle.sat_checker.specs.Accepts.{VariablesDistinct, FitsModel}
use Rattle.sat_checker.specs.inner.ModelTests.{are_all_true}

same_variable : (x l : ℕ) → x ≡ negated l → variable x ≡ variable l
same_variable x l e = omega arith

-- a list mentions a variable if it has one of its literals
pub var_among : (ls : List ℕ) (l : ℕ) → (is_among ls l ≡ true) ⊎ (is_among ls (negated l) ≡ true) → mentions ls (variable l) ≡ true
var_among [] l (inl h) = absurd (true≢false (sym h))
var_among [] l (inr h) = absurd (true≢false (sym h))
var_among (x ∷ xs) l h = go h (var_among xs l)
  where
    here : variable x ≡ variable l → mentions (x ∷ xs) (variable l) ≡ true
    here e = or_left (eqb (variable x) (variable l)) (mentions xs (variable l)) (eq-eqb _ _ e)

    later : mentions xs (variable l) ≡ true → mentions (x ∷ xs) (variable l) ≡ true
    later e = or_right (eqb (variable x) (variable l)) (mentions xs (variable l)) e

    go : (is_among (x ∷ xs) l ≡ true) ⊎ (is_among (x ∷ xs) (negated l) ≡ true) → ((is_among xs l ≡ true) ⊎ (is_among xs (negated l) ≡ true) → mentions xs (variable l) ≡ true) → mentions (x ∷ xs) (variable l) ≡ true
    go (inl k) ih = elim (or_cases (eqb x l) (is_among xs l) k) [ inl e ↦ here (ap variable (eqb-true x l e)) | inr a ↦ later (ih (inl a)) ]
    go (inr k) ih = elim (or_cases (eqb x (negated l)) (is_among xs (negated l)) k) [
      | inl e ↦ here (let s : x ≡ negated l = eqb-true x (negated l) e in same_variable x l s)
      | inr a ↦ later (ih (inr a))
    ]

two_literals : (x l : ℕ) → variable x ≡ variable l → (x ≢ l) → x ≡ negated l
two_literals x l e n = omega arith

pub var_not_among : (ls : List ℕ) (l : ℕ) → is_among ls l ≡ false → is_among ls (negated l) ≡ false → mentions ls (variable l) ≡ false
var_not_among [] l a b = refl
var_not_among (x ∷ xs) l a b = go (eqb x l) refl (eqb x (negated l)) refl (var_not_among xs l)
  where
    go : (p : Bool) → eqb x l ≡ p → (q : Bool) → eqb x (negated l) ≡ q → (is_among xs l ≡ false → is_among xs (negated l) ≡ false → mentions xs (variable l) ≡ false) → mentions (x ∷ xs) (variable l) ≡ false
    go true e q f ih = absurd (both_ways (is_among (x ∷ xs) l) a (or_left (eqb x l) (is_among xs l) e))
    go false e true f ih = absurd (both_ways (is_among (x ∷ xs) (negated l)) b (or_left (eqb x (negated l)) (is_among xs (negated l)) f))
    go false e false f ih =
        let other : eqb (variable x) (variable l) ≡ false = ne_eqb (variable x) (variable l) (λ s. apart s) in
        ap (λ t. t || mentions xs (variable l)) other ∙ ih (ap (λ t. t || is_among xs l) (sym e) ∙ a) (ap (λ t. t || is_among xs (negated l)) (sym f) ∙ b)
      where
        apart : variable x ≡ variable l → ⊥
        apart s = both_ways (eqb x (negated l)) f (eq-eqb x (negated l) (two_literals x l s (λ same. both_ways (eqb x l) e (eq-eqb x l same))))

apart_drop : (ls : List ℕ) (i : ℕ) → VariablesDistinct ls → VariablesDistinct (drop i ls)
apart_drop [] zero h = tt
apart_drop [] (suc i) h = tt
apart_drop (l ∷ ls) zero h = h
apart_drop (l ∷ ls) (suc i) h = apart_drop ls i h.1

-- one more literal, from the last to the first
module _ (ls : List ℕ) (i : ℕ) (inside : i < length ls) where
  pub apart_more : is_among (drop (i + 1) ls) (get_or ls i 0) ≡ false → is_among (drop (i + 1) ls) (negated (get_or ls i 0)) ≡ false → VariablesDistinct (drop (i + 1) ls) → VariablesDistinct (drop i ls)
  apart_more a b h = rw (drop_more ls i 0 inside) ((var_not_among (drop (i + 1) ls) (get_or ls i 0) a b, h))

  pub drop_back : drop i ls ≡ get_or ls i 0 ∷ drop (i + 1) ls
  drop_back = drop_more ls i 0 inside

  clash : (is_among (drop (i + 1) ls) (get_or ls i 0) ≡ true) ⊎ (is_among (drop (i + 1) ls) (negated (get_or ls i 0)) ≡ true) → VariablesDistinct ls → ⊥
  clash t h =
      let k : VariablesDistinct (get_or ls i 0 ∷ drop (i + 1) ls) = subst VariablesDistinct (drop_more ls i 0 inside) (apart_drop ls i h) in
      both_ways (mentions (drop (i + 1) ls) (variable (get_or ls i 0))) k.0 (var_among (drop (i + 1) ls) (get_or ls i 0) t)

pub ruleset setting_apart = (apart_more, drop_back)

-- if the literal at `i`, or its negation, is among the later literals, a variable occurs twice
pub reached_same : (ls assigned : List ℕ) (i p l : ℕ) → i + 1 ≡ p → i < length ls → l ≡ get_or ls i l → assigned ≡ drop p ls → true ≡ is_among assigned l → VariablesDistinct ls → ⊥
reached_same ls assigned i p l e inside read set t =
    clash ls i inside (inl (ap (is_among (drop (i + 1) ls)) (sym (get_or_read ls i l inside read 0)) ∙ ap (λ n. is_among (drop n ls) l) e ∙ ap (λ xs. is_among xs l) (sym set) ∙ sym t))

pub reached_negated : (ls assigned : List ℕ) (i p l m : ℕ) → i + 1 ≡ p → i < length ls → l ≡ get_or ls i l → assigned ≡ drop p ls → m ≡ negated l → true ≡ is_among assigned m → VariablesDistinct ls → ⊥
reached_negated ls assigned i p l m e inside read set n t =
    clash ls i inside (inr (ap (λ x. is_among (drop (i + 1) ls) (negated x)) (sym (get_or_read ls i l inside read 0)) ∙ ap (is_among (drop (i + 1) ls)) (sym n) ∙ ap (λ k. is_among (drop k ls) m) e ∙ ap (λ xs. is_among xs m) (sym set) ∙ sym t))

-- whether the list contains the negation of a unit
abbrev pub is_contradicted : List ℕ → List StoredUnit → Bool
is_contradicted ls us = list_any (λ u. is_among ls (negated u.literal)) us

not_contradicted : (ls : List ℕ) (us : List StoredUnit) → is_contradicted ls us ≡ false → AllByRecursion (λ u. is_among ls (negated u) ≡ false) (map (λ u. u.literal) us)
not_contradicted ls [] h = tt
not_contradicted ls (u ∷ us) h = go (is_among ls (negated u.literal)) refl h (not_contradicted ls us)
  where
    go : (b : Bool) → is_among ls (negated u.literal) ≡ b → (b || is_contradicted ls us) ≡ false → (is_contradicted ls us ≡ false → AllByRecursion (λ v. is_among ls (negated v) ≡ false) (map (λ u. u.literal) us)) → AllByRecursion (λ v. is_among ls (negated v) ≡ false) (map (λ u. u.literal) (u ∷ us))
    go true e k ih = absurd (true≢false k)
    go false e k ih = (e, ih k)

uncontradicted : (ls : List ℕ) (us : List StoredUnit) → AllByRecursion (λ u. is_among ls (negated u) ≡ false) (map (λ u. u.literal) us) → is_contradicted ls us ≡ false
uncontradicted ls [] h = refl
uncontradicted ls (u ∷ us) h = ap (λ b. b || is_contradicted ls us) h.0 ∙ uncontradicted ls us h.1

all_true : (ls : List ℕ) (cs : List StoredClause) → are_all_true ls cs ≡ true → AllByRecursion (λ c. (c.irredundant ≡ 0) ⊎ (list_any (is_among ls) c.literals ≡ true)) cs
all_true ls [] h = tt
all_true ls (c ∷ cs) h = go (eqb c.irredundant 0) refl (list_any (is_among ls) c.literals) refl h (all_true ls cs)
  where
    go : (p : Bool) → eqb c.irredundant 0 ≡ p → (q : Bool) → list_any (is_among ls) c.literals ≡ q → ((p || q) && are_all_true ls cs) ≡ true → (are_all_true ls cs ≡ true → AllByRecursion (λ d. (d.irredundant ≡ 0) ⊎ (list_any (is_among ls) d.literals ≡ true)) cs)
        → AllByRecursion (λ d. (d.irredundant ≡ 0) ⊎ (list_any (is_among ls) d.literals ≡ true)) (c ∷ cs)
    go true e q f k ih = (inl (eqb-true c.irredundant 0 e), ih k)
    go false e true f k ih = (inr f, ih k)
    go false e false f k ih = absurd (true≢false (sym k))

true_each : (ls : List ℕ) (cs : List StoredClause) → AllByRecursion (λ c. (c.irredundant ≡ 0) ⊎ (list_any (is_among ls) c.literals ≡ true)) cs → are_all_true ls cs ≡ true
true_each ls [] h = refl
true_each ls (c ∷ cs) h = ap (λ b. b && are_all_true ls cs) (first h.0) ∙ true_each ls cs h.1
  where
    first : (c.irredundant ≡ 0) ⊎ (list_any (is_among ls) c.literals ≡ true) → (eqb c.irredundant 0 || list_any (is_among ls) c.literals) ≡ true
    first (inl e) = ap (λ b. b || list_any (is_among ls) c.literals) (eq-eqb c.irredundant 0 e)
    first (inr t) = or_right (eqb c.irredundant 0) (list_any (is_among ls) c.literals) t

pub fits_model : (f : Stored) (ls : List ℕ) → f.unsat ≡ false → VariablesDistinct ls → is_contradicted ls f.units ≡ false → are_all_true ls f.clauses ≡ true → FitsModel f ls
fits_model f ls u a n t = record { consistent = u; apart = a; units = not_contradicted ls f.units n; clauses = all_true ls f.clauses t }

pub fits_tests : (f : Stored) (ls : List ℕ) → FitsModel f ls → (is_contradicted ls f.units ≡ false) × (are_all_true ls f.clauses ≡ true)
fits_tests f ls h = (uncontradicted ls f.units h.units, true_each ls f.clauses h.clauses)

pub reached_fits : (b : Bool) (f : Stored) (ls : List ℕ) → f.unsat ≡ false → VariablesDistinct ls → b ≡ (not (is_contradicted ls f.units) && are_all_true ls f.clauses) → (b ≡ true) ↔ FitsModel f ls
reached_fits b f ls u a e = (to, back)
  where
    to : b ≡ true → FitsModel f ls
    to t = let p = and_parts (not (is_contradicted ls f.units)) (are_all_true ls f.clauses) (sym e ∙ t) in fits_model f ls u a (not_true (is_contradicted ls f.units) p.0) p.1
      where
        not_true : (x : Bool) → not x ≡ true → x ≡ false
        not_true true n = absurd (true≢false (sym n))
        not_true false n = refl

    back : FitsModel f ls → b ≡ true
    back h = let p = fits_tests f ls h in e ∙ ap (λ x. not x && are_all_true ls f.clauses) p.0 ∙ p.1
