-- What remains when a variable is deleted.
use Rattle.std.proofs.Common.{ℕ, ◌+◌, ◌*◌, ◌/◌, ◌≡◌, Bool, true, false, not, ◌&&◌, ◌||◌, cond, eqb, List, [], ◌∷◌, map, filter, reverse, Option, None, Some, is_some, refl, sym, ◌∙◌, ap, subst, arith}
use Rattle.std.specs.Bool.{MatchBool}
use Rattle.std.specs.List.{list_any}
use Rattle.std.proofs.lemmas.Bool.{true≢false, eq-eqb, eqb-true, eqb-false, ne_eqb, or_parts}
use Rattle.sat_base.specs.values.Literals.{variable}
use Rattle.sat_checker.specs.LiteralSets.{is_among, mentions, canonical}
use Rattle.sat_checker.specs.Stored.{Stored, StoredUnit, Variable}
use Rattle.sat_checker.specs.Storing.{unit_id}
use Rattle.sat_checker.specs.Accepts.{CanBeDeleted}
use Rattle.sat_checker.specs.inner.LitNumbers.{number_at, AreTrailPlaces}
use Rattle.sat_checker.specs.inner.Marks.{NoRepeats}
use Rattle.sat_checker.specs.inner.StateView.{RepresentsStored}
use Rattle.sat_checker.specs.inner.UnitView.{UnitsInvariant}
use Rattle.sat_checker.specs.inner.VariablesView.{variable_of_data, variable_at}
use Rattle.sat_checker.specs.declared.units.lit_numbers.LitNumbers.{LitNumbers}
use Rattle.sat_checker.specs.declared.units.lit_numbers.LitPlaces.{LitPlaces}
use Rattle.sat_checker.specs.declared.state.CheckerState.{CheckerState}
use Rattle.sat_checker.specs.declared.variables.VarData.{VarData}
use Rattle.sat_checker.proofs.lemmas.sets.Subsets.{any_true, some_of}
use Rattle.sat_checker.proofs.lemmas.sets.Canonical.{canonical_among}

abbrev is_other : ℕ → ℕ → Bool
is_other v l = not (eqb (variable l) v)

among_filter : (t : ℕ → Bool) (xs : List ℕ) (l : ℕ) → is_among (filter t xs) l ≡ (t l && is_among xs l)
among_filter t [] l = none (t l)
  where
    none : (b : Bool) → false ≡ (b && false)
    none true = refl
    none false = refl
among_filter t (x ∷ xs) l = go (t x) refl (eqb x l) refl (among_filter t xs l)
  where
    go : (b : Bool) → t x ≡ b → (d : Bool) → eqb x l ≡ d → is_among (filter t xs) l ≡ (t l && is_among xs l) → is_among (cond b (x ∷ filter t xs) (filter t xs)) l ≡ (t l && (d || is_among xs l))
    go true e true f ih = ap (λ c. c || is_among (filter t xs) l) f ∙ sym (ap (λ c. c && true) (ap t (sym (eqb-true x l f)) ∙ e))
    go true e false f ih = ap (λ c. c || is_among (filter t xs) l) f ∙ ih
    go false e true f ih = let s : t l ≡ false = ap t (sym (eqb-true x l f)) ∙ e in ih ∙ ap (λ c. c && is_among xs l) s ∙ sym (ap (λ c. c && true) s)
    go false e false f ih = ih

once_filter : (t : ℕ → Bool) (xs : List ℕ) → NoRepeats xs → NoRepeats (filter t xs)
once_filter t [] h = tt
once_filter t (x ∷ xs) h = go (t x) (once_filter t xs h.1)
  where
    go : (b : Bool) → NoRepeats (filter t xs) → NoRepeats (cond b (x ∷ filter t xs) (filter t xs))
    go true ih = (among_filter t xs x ∙ ap (λ c. t x && c) h.0 ∙ none (t x), ih)
      where
        none : (b : Bool) → (b && false) ≡ false
        none true = refl
        none false = refl
    go false ih = ih

-- a literal that is neither literal of a variable has another variable
not_it : (v l : ℕ) → (l ≡ 2 * v + 1 → ⊥) → (l ≡ 2 * v + 0 → ⊥) → eqb (variable l) v ≡ false
not_it v l a b = ne_eqb (variable l) v (λ s. either a b s)
  where
    either : (l ≡ 2 * v + 1 → ⊥) → (l ≡ 2 * v + 0 → ⊥) → l / 2 ≡ v → ⊥
    either a b s = omega arith

-- the units whose literals pass the test
module _ (t : ℕ → Bool) where
  literals_left : (us : List StoredUnit) → filter t (map (λ u. u.literal) us) ≡ map (λ u. u.literal) (filter (λ u. t u.literal) us)
  literals_left [] = refl
  literals_left (u ∷ us) = go (t u.literal) (literals_left us)
    where
      go : (b : Bool) → filter t (map (λ w. w.literal) us) ≡ map (λ w. w.literal) (filter (λ w. t w.literal) us)
          → cond b (u.literal ∷ filter t (map (λ w. w.literal) us)) (filter t (map (λ w. w.literal) us)) ≡ map (λ w. w.literal) (cond b (u ∷ filter (λ w. t w.literal) us) (filter (λ w. t w.literal) us))
      go true ih = ap (λ ls. u.literal ∷ ls) ih
      go false ih = ih

  ids_left : (l : ℕ) (us : List StoredUnit) → unit_id l (filter (λ u. t u.literal) us) ≡ cond (t l) (unit_id l us) None
  ids_left l [] = none (t l)
    where
      none : (b : Bool) → ◌≡◌ {A = Option ℕ} None (cond b None None)
      none true = refl
      none false = refl
  ids_left l (u ∷ us) = go (t u.literal) refl (eqb u.literal l) refl (ids_left l us)
    where
      rest : List StoredUnit
      rest = filter (λ w. t w.literal) us

      go : (b : Bool) → t u.literal ≡ b → (d : Bool) → eqb u.literal l ≡ d → unit_id l rest ≡ cond (t l) (unit_id l us) None → unit_id l (cond b (u ∷ rest) rest) ≡ cond (t l) (cond d (Some u.id) (unit_id l us)) None
      go true e true f ih = ap (λ d. cond d (Some u.id) (unit_id l rest)) f ∙ sym (ap (λ b. cond b (Some u.id) None) (ap t (sym (eqb-true u.literal l f)) ∙ e))
      go true e false f ih = ap (λ d. cond d (Some u.id) (unit_id l rest)) f ∙ ih
      go false e true f ih = let s : t l ≡ false = ap t (sym (eqb-true u.literal l f)) ∙ e in ih ∙ ap (λ b. cond b (unit_id l us) None) s ∙ sym (ap (λ b. cond b (Some u.id) None) s)
      go false e false f ih = ih

-- the unit of a literal is removed
pub unit_taken : (l : ℕ) (us : List StoredUnit) (ids new : LitNumbers) (places moved : LitPlaces) (assigned rest : List ℕ) → UnitsInvariant us ids places assigned → ((k : ℕ) → is_among rest k ≡ cond (eqb k l) false (is_among assigned k))
    → ((k : ℕ) → number_at new k ≡ cond (eqb k l) None (number_at ids k)) → AreTrailPlaces moved (reverse rest) → UnitsInvariant (filter (λ u. not (eqb u.literal l)) us) new moved rest
unit_taken l us ids new places moved assigned rest u among numbers placed = record {
  assumed = λ k.
      among k ∙ ap (cond (eqb k l) false) (u.assumed k) ∙ both (eqb k l) (is_among literals k)
      ∙ sym (among_filter other literals k) ∙ ap (λ ls. is_among ls k) (literals_left other us);
  once = subst NoRepeats (literals_left other us) (once_filter other literals u.once);
  numbered = λ k. numbers k ∙ ap (cond (eqb k l) None) (u.numbered k) ∙ turned (eqb k l) (unit_id k us) ∙ sym (ids_left other k us);
  placed = placed;
}
  where
    other : ℕ → Bool
    other k = not (eqb k l)

    literals : List ℕ
    literals = map (λ u. u.literal) us

    both : (b d : Bool) → cond b false d ≡ (not b && d)
    both true d = refl
    both false d = refl

    turned : (b : Bool) (o : Option ℕ) → cond b None o ≡ cond (not b) o None
    turned true o = refl
    turned false o = refl

-- a literal has another variable exactly if it is neither literal of the variable
neither : (v l : ℕ) → (not (eqb l (2 * v + 0)) && not (eqb l (2 * v + 1))) ≡ is_other v l
neither v l = go (eqb l (2 * v + 0)) refl (eqb l (2 * v + 1)) refl
  where
    same : variable l ≡ v → false ≡ is_other v l
    same e = sym (ap not (eq-eqb (variable l) v e))

    go : (b : Bool) → eqb l (2 * v + 0) ≡ b → (d : Bool) → eqb l (2 * v + 1) ≡ d → (not b && not d) ≡ is_other v l
    go true e d f = same (let h = eqb-true l (2 * v + 0) e in omega (arith, h))
    go false e true f = same (let h = eqb-true l (2 * v + 1) f in omega (arith, h))
    go false e false f = sym (ap not (not_it v l (eqb-false l (2 * v + 1) f) (eqb-false l (2 * v + 0) e)))

filter_twice : (p q : StoredUnit → Bool) (us : List StoredUnit) → filter q (filter p us) ≡ filter (λ u. p u && q u) us
filter_twice p q [] = refl
filter_twice p q (u ∷ us) = go (p u) (filter_twice p q us)
  where
    go : (b : Bool) → filter q (filter p us) ≡ filter (λ w. p w && q w) us → filter q (cond b (u ∷ filter p us) (filter p us)) ≡ cond (b && q u) (u ∷ filter (λ w. p w && q w) us) (filter (λ w. p w && q w) us)
    go true ih = ap (λ ws. cond (q u) (u ∷ ws) ws) ih
    go false ih = ih

filter_as : (p q : StoredUnit → Bool) (us : List StoredUnit) → ((u : StoredUnit) → p u ≡ q u) → filter p us ≡ filter q us
filter_as p q [] h = refl
filter_as p q (u ∷ us) h = ap (λ b. cond b (u ∷ filter p us) (filter p us)) (h u) ∙ ap (λ ws. cond (q u) (u ∷ ws) ws) (filter_as p q us h)

-- removing the units of both literals of a variable
pub both_taken : (v p q : ℕ) (us : List StoredUnit) → p ≡ 2 * v + 0 → q ≡ 2 * v + 1 → filter (λ u. not (eqb u.literal q)) (filter (λ u. not (eqb u.literal p)) us) ≡ filter (λ u. is_other v u.literal) us
both_taken v p q us pe qe =
    filter_twice (λ u. not (eqb u.literal p)) (λ u. not (eqb u.literal q)) us
    ∙ filter_as _ _ us (λ u. ap (λ x. not (eqb u.literal x) && not (eqb u.literal q)) pe ∙ ap (λ x. not (eqb u.literal (2 * v + 0)) && not (eqb u.literal x)) qe ∙ neither v u.literal)

-- nothing is removed if the literal is not a unit
pub none_taken : (l : ℕ) (us : List StoredUnit) → is_among (map (λ u. u.literal) us) l ≡ false → us ≡ filter (λ u. not (eqb u.literal l)) us
none_taken l [] h = refl
none_taken l (u ∷ us) h =
    let apart = or_parts (eqb u.literal l) (is_among (map (λ w. w.literal) us) l) h in
    ap (λ ws. u ∷ ws) (none_taken l us apart.1) ∙ sym (ap (λ b. cond (not b) (u ∷ filter (λ w. not (eqb w.literal l)) us) (filter (λ w. not (eqb w.literal l)) us)) apart.0)

-- flags that imply each other are equal; a canonical form mentions the same variables
implies_same : (a b : Bool) → (a ≡ true → b ≡ true) → (b ≡ true → a ≡ true) → a ≡ b
implies_same true true f g = refl
implies_same false false f g = refl
implies_same true false f g = absurd (true≢false (sym (f refl)))
implies_same false true f g = absurd (true≢false (sym (g refl)))

pub mentions_set : (ls : List ℕ) (v : ℕ) → mentions (canonical ls) v ≡ mentions ls v
mentions_set ls v = implies_same (mentions (canonical ls) v) (mentions ls v)
    (λ h. let s = some_of (λ l. eqb (variable l) v) (canonical ls) h in any_true (λ l. eqb (variable l) v) ls s.literal (sym (canonical_among ls s.literal) ∙ s.within) s.passes)
    (λ h. let s = some_of (λ l. eqb (variable l) v) ls h in any_true (λ l. eqb (variable l) v) (canonical ls) s.literal (canonical_among ls s.literal ∙ s.within) s.passes)

-- when a variable may be deleted
module _ (state : CheckerState) (f : Stored) (k : RepresentsStored state f) (v : ℕ) where
  pub assumed_same : mentions state.assumed v ≡ mentions f.assumed v
  assumed_same = ap (λ xs. mentions xs v) k.assumed ∙ mentions_set f.assumed v

  pub may_go : (d : VarData) (b : Bool) → variable_of_data d ≡ variable_at state.variables v → d.known ≡ true → is_some d.name ≡ false → mentions f.assumed v ≡ false → b ≡ list_any (λ c. mentions c.literals v) f.clauses → MatchBool (not b) (CanBeDeleted f v) (CanBeDeleted f v → ⊥)
  may_go d true e n s a u = λ h. true≢false (u ∙ h.unused)
  may_go d false e n s a u = let same = e ∙ k.variables.each v in record {
    known = sym (ap (λ (x : Variable). x.known) same) ∙ n;
    nameless = sym (ap (λ (x : Variable). x.name) same) ∙ none d.name s;
    unused = sym u;
    not_assumed = a;
  }
    where
      none : (o : Option ℕ) → is_some o ≡ false → o ≡ None
      none None h = refl
      none (Some x) h = absurd (true≢false h)
