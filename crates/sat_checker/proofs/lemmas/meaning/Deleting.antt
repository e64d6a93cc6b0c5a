-- How deleting a variable changes the valuations.
use Rattle.std.proofs.Common.{ℕ, ◌/◌, ◌%◌, ◌≡◌, Bool, true, false, not, ◌||◌, cond, eqb, List, [], ◌∷◌, map, filter, refl, sym, ◌∙◌, ap, subst, ◌⊎◌, inl, inr}
use Rattle.std.proofs.lemmas.Bool.{cases_Bool, or_parts, eqb-true}
use Rattle.std.specs.List.{list_any}
use Rattle.sat_base.specs.values.Literals.{variable}
use Rattle.sat_base.specs.values.Clauses.{Valuation, literal_true, clause_true, flipped, AllLitsTrue, AllClausesTrue}
use Rattle.sat_checker.specs.LiteralSets.{mentions}
use Rattle.sat_checker.specs.Stored.{StoredClause, StoredUnit}
use Rattle.sat_checker.specs.Accepts.{VariablesDistinct}
use Rattle.sat_checker.proofs.lemmas.meaning.Clauses.{Kept, literals_of}

-- flipping a variable does not change literals of other variables
pub other_value : (a : Valuation) (v l : ℕ) → eqb (l / 2) v ≡ false → literal_true (flipped v a) l ≡ literal_true a l
other_value a v l e = rw e refl

-- flipping a variable changes its literals
flipped_value : (a : Valuation) (v l : ℕ) → eqb (l / 2) v ≡ true → literal_true (flipped v a) l ≡ not (literal_true a l)
flipped_value a v l e = rw e (go (eqb (l % 2) 0))
  where
    go : (b : Bool) → cond b (not (a (l / 2))) (not (not (a (l / 2)))) ≡ not (cond b (a (l / 2)) (not (a (l / 2))))
    go true = refl
    go false = refl

pub other_clause : (a : Valuation) (v : ℕ) (c : List ℕ) → mentions c v ≡ false → clause_true (flipped v a) c ≡ clause_true a c
other_clause a v [] e = refl
other_clause a v (l ∷ ls) e =
    let parts = or_parts (eqb (l / 2) v) (mentions ls v) e in
    ap (λ b. b || clause_true (flipped v a) ls) (other_value a v l parts.0) ∙ ap (λ b. literal_true a l || b) (other_clause a v ls parts.1)

-- the valuations agree on clauses without the variable
abbrev SameWithout : ℕ → Valuation → Valuation → Type 0
SameWithout v a b = (c : List ℕ) → mentions c v ≡ false → clause_true b c ≡ clause_true a c

pub to_flipped : (a : Valuation) (v : ℕ) → SameWithout v a (flipped v a)
to_flipped a v c e = other_clause a v c e

pub from_flipped : (a : Valuation) (v : ℕ) → SameWithout v (flipped v a) a
from_flipped a v c e = sym (other_clause a v c e)

abbrev pub IsUnused : ℕ → List StoredClause → Type 0
IsUnused v cs = list_any (λ c. mentions c.literals v) cs ≡ false

pub kept_by_flip : (a b : Valuation) (v : ℕ) (cs : List StoredClause) → SameWithout v a b → IsUnused v cs → Kept a cs → Kept b cs
kept_by_flip a b v [] same e h = tt
kept_by_flip a b v (c ∷ cs) same e h =
    let parts = or_parts (mentions c.literals v) (list_any (λ d. mentions d.literals v) cs) e in
    (elim h.0 [ inl z ↦ inl z | inr t ↦ inr (same c.literals parts.0 ∙ t) ], kept_by_flip a b v cs same parts.1 h.1)

pub true_by_flip : (a b : Valuation) (v : ℕ) (cs : List StoredClause) → SameWithout v a b → IsUnused v cs → AllClausesTrue a (literals_of cs) → AllClausesTrue b (literals_of cs)
true_by_flip a b v [] same e h = tt
true_by_flip a b v (c ∷ cs) same e h =
    let parts = or_parts (mentions c.literals v) (list_any (λ d. mentions d.literals v) cs) e in
    (same c.literals parts.0 ∙ h.0, true_by_flip a b v cs same parts.1 h.1)

-- the units of other variables
abbrev pub left : ℕ → List ℕ → List ℕ
left v = filter (λ l. not (eqb (variable l) v))

pub units_of_left : (v : ℕ) (us : List StoredUnit) → map (λ u. u.literal) (filter (λ u. not (eqb (variable u.literal) v)) us) ≡ left v (map (λ u. u.literal) us)
units_of_left v [] = refl
units_of_left v (u ∷ us) = go (not (eqb (variable u.literal) v)) (units_of_left v us)
  where
    go : (b : Bool) → map (λ w. w.literal) (filter (λ w. not (eqb (variable w.literal) v)) us) ≡ left v (map (λ w. w.literal) us)
        → map (λ w. w.literal) (cond b (u ∷ filter (λ w. not (eqb (variable w.literal) v)) us) (filter (λ w. not (eqb (variable w.literal) v)) us)) ≡ cond b (u.literal ∷ left v (map (λ w. w.literal) us)) (left v (map (λ w. w.literal) us))
    go true ih = ap (λ ls. u.literal ∷ ls) ih
    go false ih = ih

pub units_left : (a : Valuation) (v : ℕ) (us : List ℕ) → AllLitsTrue a us → AllLitsTrue a (left v us)
units_left a v [] h = tt
units_left a v (u ∷ us) h = go (units_left a v us h.1) (not (eqb (variable u) v))
  where
    go : AllLitsTrue a (left v us) → (b : Bool) → AllLitsTrue a (cond b (u ∷ left v us) (left v us))
    go ih true = (h.0, ih)
    go ih false = ih

pub units_left_flipped : (a : Valuation) (v : ℕ) (us : List ℕ) → AllLitsTrue (flipped v a) us → AllLitsTrue a (left v us)
units_left_flipped a v [] h = tt
units_left_flipped a v (u ∷ us) h = go (units_left_flipped a v us h.1) (eqb (variable u) v) refl
  where
    go : AllLitsTrue a (left v us) → (b : Bool) → eqb (variable u) v ≡ b → AllLitsTrue a (cond (not b) (u ∷ left v us) (left v us))
    go ih true e = ih
    go ih false e = (sym (other_value a v u e) ∙ h.0, ih)

-- if no unit has the variable, the units are true under both valuations
none_of : (a : Valuation) (v : ℕ) (us : List ℕ) → mentions us v ≡ false → AllLitsTrue a (left v us) → AllLitsTrue a us × AllLitsTrue (flipped v a) us
none_of a v [] n h = (tt, tt)
none_of a v (u ∷ us) n h =
    let parts = or_parts (eqb (variable u) v) (mentions us v) n in
    let k : AllLitsTrue a (u ∷ left v us) = subst (λ b. AllLitsTrue a (cond (not b) (u ∷ left v us) (left v us))) parts.0 h in
    let rest = none_of a v us parts.1 k.1 in
    ((k.0, rest.0), (other_value a v u parts.0 ∙ k.0, rest.1))

pub units_either : (a : Valuation) (v : ℕ) (us : List ℕ) → VariablesDistinct us → AllLitsTrue a (left v us) → AllLitsTrue a us ⊎ AllLitsTrue (flipped v a) us
units_either a v [] p h = inl tt
units_either a v (u ∷ us) p h = go (units_either a v us p.1) (eqb (variable u) v) refl h
  where
    go : (AllLitsTrue a (left v us) → AllLitsTrue a us ⊎ AllLitsTrue (flipped v a) us) → (b : Bool) → eqb (variable u) v ≡ b → AllLitsTrue a (cond (not b) (u ∷ left v us) (left v us)) → AllLitsTrue a (u ∷ us) ⊎ AllLitsTrue (flipped v a) (u ∷ us)
    go ih true e k =
        let others = none_of a v us (subst (λ x. mentions us x ≡ false) (eqb-true (variable u) v e) p.0) k in
        elim (cases_Bool (literal_true a u)) [ inl t ↦ inl (t, others.0) | inr f ↦ inr (flipped_value a v u e ∙ ap not f, others.1) ]
    go ih false e k = elim (ih k.1) [ inl x ↦ inl (k.0, x) | inr y ↦ inr (other_value a v u e ∙ k.0, y) ]

-- the remaining units still have different variables
few : (v w : ℕ) (us : List ℕ) → mentions us w ≡ false → mentions (left v us) w ≡ false
few v w [] h = h
few v w (u ∷ us) h =
    let parts = or_parts (eqb (variable u) w) (mentions us w) h in
    go (few v w us parts.1) parts.0 (not (eqb (variable u) v))
  where
    go : mentions (left v us) w ≡ false → eqb (variable u) w ≡ false → (b : Bool) → mentions (cond b (u ∷ left v us) (left v us)) w ≡ false
    go ih e true = rw e ih
    go ih e false = ih

pub apart_left : (v : ℕ) (us : List ℕ) → VariablesDistinct us → VariablesDistinct (left v us)
apart_left v [] p = tt
apart_left v (u ∷ us) p = go (apart_left v us p.1) (not (eqb (variable u) v))
  where
    go : VariablesDistinct (left v us) → (b : Bool) → VariablesDistinct (cond b (u ∷ left v us) (left v us))
    go ih true = (few v (variable u) us p.0, ih)
    go ih false = ih
