-- Ids, and the last irredundant clause, as clauses and units are added and removed.
use Rattle.std.proofs.Common.{ℕ, ◌+◌, ◌<◌, ◌≤◌, ◌≡◌, Bool, true, false, not, ◌&&◌, ◌||◌, cond, eqb, List, [], ◌∷◌, ◌++◌, map, filter, Option, Some, None, refl, sym, ◌∙◌, ap, subst, arith}
use Rattle.std.proofs.lemmas.Bool.{eq-eqb, ne_eqb, eqb-true, eqb-false, true≢false}
use Rattle.std.proofs.lemmas.List.{map-append}
use Rattle.std.specs.Bool.{MatchBool}
use Rattle.std.specs.List.{AllByRecursion}
use Rattle.std.specs.Option.{option_eq}
use Rattle.sat_checker.specs.LiteralSets.{is_subset_of}
use Rattle.sat_checker.specs.Stored.{Stored, StoredUnit, NoneYet}
use Rattle.sat_checker.specs.Storing.{unit_id, unit_with_id, clause_with_id, last_literals}
use Rattle.sat_checker.specs.Accepts.{IsStrictSubset}
use Rattle.sat_checker.specs.inner.Marks.{IsIncreasing}
use Rattle.sat_checker.specs.inner.SlotView.{Slot, slot_ids, live_clauses}
use Rattle.sat_checker.specs.inner.StoreView.{AppendsNewId, AreIdsInOrder, PreservesIdOrder}
use Rattle.sat_checker.specs.inner.FormulaView.{StoredStatus, IsIdOfUnit, LastUnitHasId, AreNumbered, RepresentsFormula, last_in}
use Rattle.sat_checker.specs.declared.state.status.LastClause.{LastClause}
use Rattle.sat_checker.specs.declared.state.status.LastClause.TheVariants as code
use Rattle.sat_checker.specs.declared.formula.Formula.{Formula}
use Rattle.sat_checker.proofs.lemmas.meaning.Orderly.{below_more, below_push, increasing_push}

abbrev unit_ids : List StoredUnit → List ℕ
unit_ids = map (λ u. u.id)

-- nothing is stored yet
pub numbered_none : (is : List ℕ) (last : LastClause) → is ≡ [] → last_in last ≡ NoneYet → AreNumbered is [] last 0
numbered_none is last e n = subst (λ js. AreNumbered js [] last 0) (sym e) (record { of_clauses = record { increasing = tt; below = tt }; of_units = record { increasing = tt; below = tt }; put = none last n })
  where
    none : (last : LastClause) → last_in last ≡ NoneYet → LastUnitHasId last [] 0
    none code.NoneYet n = tt
    none (code.Empty id) n = tt
    none (code.Single id l) n = absurd cc
    none (code.Long id) n = tt

-- ids stay in order when the next id increases
ids_more : (is : List ℕ) (n m : ℕ) → n ≤ m → AreIdsInOrder is n → AreIdsInOrder is m
ids_more is n m l h = record { increasing = h.increasing; below = below_more n m (λ i k. omega (arith, l, k)) is h.below }

ids_push : (is : List ℕ) (n : ℕ) → AreIdsInOrder is n → AreIdsInOrder (is ++ n ∷ []) (n + 1)
ids_push is n h = record { increasing = increasing_push is n h.increasing h.below; below = below_push is n h.below }

put_more : (last : LastClause) (us : List StoredUnit) (n m : ℕ) → n ≤ m → LastUnitHasId last us n → LastUnitHasId last us m
put_more (code.Single id k) us n m l h = (let b : id < n = h.0 in omega (arith, l, b), h.1)
put_more e us n m l h = tt

pub numbered_more : (is : List ℕ) (us : List StoredUnit) (last : LastClause) (n m : ℕ) → n ≤ m → AreNumbered is us last n → AreNumbered is us last m
numbered_more is us last n m l h = record { of_clauses = ids_more is n m l h.of_clauses; of_units = ids_more (unit_ids us) n m l h.of_units; put = put_more last us n m l h.put }

-- a clause gets the next id
numbered_clause : (is : List ℕ) (us : List StoredUnit) (last : LastClause) (n : ℕ) → AreNumbered is us last n → AreNumbered (is ++ n ∷ []) us last (n + 1)
numbered_clause is us last n h = record {
  of_clauses = ids_push is n h.of_clauses;
  of_units = ids_more (unit_ids us) n (n + 1) (omega arith) h.of_units;
  put = put_more last us n (n + 1) (omega arith) h.put;
}

pub numbered_placed : (old new : List Slot) (us : List StoredUnit) (last : LastClause) (n : ℕ) (is_new there : Bool) → AppendsNewId old new n is_new → is_new ≡ not there → AreNumbered (slot_ids old) us last n → AreNumbered (slot_ids new) us last (cond there n (n + 1))
numbered_placed old new us last n is_new there k e h = go there (k ∙ ap (λ b. cond b (slot_ids old ++ n ∷ []) (slot_ids old)) e)
  where
    go : (there : Bool) → slot_ids new ≡ cond (not there) (slot_ids old ++ n ∷ []) (slot_ids old) → AreNumbered (slot_ids new) us last (cond there n (n + 1))
    go true i = subst (λ is. AreNumbered is us last n) (sym i) h
    go false i = subst (λ is. AreNumbered is us last (n + 1)) (sym i) (numbered_clause (slot_ids old) us last n h)

-- clauses are removed
pub numbered_kept : (old new : List Slot) (us : List StoredUnit) (last : LastClause) (n : ℕ) → PreservesIdOrder old new → AreNumbered (slot_ids old) us last n → AreNumbered (slot_ids new) us last n
numbered_kept old new us last n k h = record { of_clauses = k n h.of_clauses; of_units = h.of_units; put = h.put }

-- a unit gets the next id
abbrev unit_of : ℕ → ℕ → StoredUnit
unit_of id l = record { id = id; literal = l }

put_unit : (last : LastClause) (us : List StoredUnit) (n l : ℕ) → LastUnitHasId last us n → LastUnitHasId last (us ++ unit_of n l ∷ []) (n + 1)
put_unit (code.Single id k) us n l h = (omega (arith, below), following us h.1)
  where
    below : id < n
    below = h.0

    following : (vs : List StoredUnit) → AllByRecursion (IsIdOfUnit id k) vs → AllByRecursion (IsIdOfUnit id k) (vs ++ unit_of n l ∷ [])
    following [] a = (((λ e. absurd (omega (arith, e, below))), (λ e. omega (arith, below))), tt)
    following (v ∷ vs) a = (a.0, following vs a.1)
put_unit x us n l h = tt

pub numbered_unit : (is : List ℕ) (us : List StoredUnit) (last : LastClause) (n l : ℕ) → AreNumbered is us last n → AreNumbered is (us ++ (record { id = n; literal = l }) ∷ []) last (n + 1)
numbered_unit is us last n l h = record {
  of_clauses = ids_more is n (n + 1) (omega arith) h.of_clauses;
  of_units = subst (λ js. AreIdsInOrder js (n + 1)) (sym (map-append (λ (u : StoredUnit). u.id) us (unit_of n l ∷ []))) (ids_push (unit_ids us) n h.of_units);
  put = put_unit last us n l h.put;
}

-- units are removed
module _ (test : StoredUnit → Bool) where
  each_left : (P : StoredUnit → Type 0) (us : List StoredUnit) → AllByRecursion P us → AllByRecursion P (filter test us)
  each_left P [] h = tt
  each_left P (u ∷ us) h = go (test u) (each_left P us h.1)
    where
      go : (b : Bool) → AllByRecursion P (filter test us) → AllByRecursion P (cond b (u ∷ filter test us) (filter test us))
      go true ih = (h.0, ih)
      go false ih = ih

  id_left : (P : ℕ → Type 0) (us : List StoredUnit) → AllByRecursion P (unit_ids us) → AllByRecursion P (unit_ids (filter test us))
  id_left P [] h = tt
  id_left P (u ∷ us) h = go (test u) (id_left P us h.1)
    where
      go : (b : Bool) → AllByRecursion P (unit_ids (filter test us)) → AllByRecursion P (unit_ids (cond b (u ∷ filter test us) (filter test us)))
      go true ih = (h.0, ih)
      go false ih = ih

  order_left : (us : List StoredUnit) → IsIncreasing (unit_ids us) → IsIncreasing (unit_ids (filter test us))
  order_left [] h = tt
  order_left (u ∷ us) h = go (test u) (order_left us h.1)
    where
      go : (b : Bool) → IsIncreasing (unit_ids (filter test us)) → IsIncreasing (unit_ids (cond b (u ∷ filter test us) (filter test us)))
      go true ih = (id_left (λ m. u.id < m) us h.0, ih)
      go false ih = ih

  put_left : (last : LastClause) (us : List StoredUnit) (n : ℕ) → LastUnitHasId last us n → LastUnitHasId last (filter test us) n
  put_left (code.Single id l) us n h = (h.0, each_left (IsIdOfUnit id l) us h.1)
  put_left e us n h = tt

  pub numbered_left : (is : List ℕ) (us : List StoredUnit) (last : LastClause) (n : ℕ) → AreNumbered is us last n → AreNumbered is (filter test us) last n
  numbered_left is us last n h = record {
    of_clauses = h.of_clauses;
    of_units = record { increasing = order_left us h.of_units.increasing; below = id_left (λ i. i < n) us h.of_units.below };
    put = put_left last us n h.put;
  }

-- a unit becomes the last irredundant clause
unit_has : (P : ℕ → Type 0) (l id : ℕ) (us : List StoredUnit) → AllByRecursion P (unit_ids us) → unit_id l us ≡ Some id → P id
unit_has P l id [] h e = absurd cc
unit_has P l id (u ∷ us) h e = go (eqb u.literal l) (unit_has P l id us h.1) e
  where
    go : (b : Bool) → (unit_id l us ≡ Some id → P id) → cond b (Some u.id) (unit_id l us) ≡ Some id → P id
    go true ih e = let k : u.id ≡ id = cc in subst P k h.0
    go false ih e = ih e

later_units : (id l : ℕ) (us : List StoredUnit) → AllByRecursion (λ m. id < m) (unit_ids us) → AllByRecursion (IsIdOfUnit id l) us
later_units id l [] h = tt
later_units id l (u ∷ us) h = (((λ e. absurd (let k : id < u.id = h.0 in omega (arith, e, k))), (λ e. let k : id < u.id = h.0 in omega (arith, k))), later_units id l us h.1)

is_unit_of : (l id : ℕ) (us : List StoredUnit) → IsIncreasing (unit_ids us) → unit_id l us ≡ Some id → AllByRecursion (IsIdOfUnit id l) us
is_unit_of l id [] h e = tt
is_unit_of l id (u ∷ us) h e = go (eqb u.literal l) refl (is_unit_of l id us h.1) e
  where
    go : (b : Bool) → eqb u.literal l ≡ b → (unit_id l us ≡ Some id → AllByRecursion (IsIdOfUnit id l) us) → cond b (Some u.id) (unit_id l us) ≡ Some id → AllByRecursion (IsIdOfUnit id l) (u ∷ us)
    go true s ih e =
        let k : u.id ≡ id = cc in
        (((λ q. eqb-true u.literal l s), (λ q. omega (arith, k))), later_units id l us (subst (λ x. AllByRecursion (λ m. x < m) (unit_ids us)) k h.0))
    go false s ih e =
        let k : u.id < id = unit_has (λ m. u.id < m) l id us h.0 e in
        (((λ q. absurd (omega (arith, k, q))), (λ q. absurd (eqb-false u.literal l s q))), ih e)

pub unit_noted : (is : List ℕ) (us : List StoredUnit) (last : LastClause) (n l id : ℕ) → unit_id l us ≡ Some id → AreNumbered is us last n → AreNumbered is us (code.Single id l) n
unit_noted is us last n l id e h = record {
  of_clauses = h.of_clauses;
  of_units = h.of_units;
  put = (unit_has (λ i. i < n) l id us h.of_units.below e, is_unit_of l id us h.of_units.increasing e);
}

-- the unit with this id
unit_there : (id l : ℕ) (us : List StoredUnit) → AllByRecursion (IsIdOfUnit id l) us → unit_id l us ≡ Some id → unit_with_id id us ≡ Some (l ∷ [])
unit_there id l [] h e = absurd cc
unit_there id l (u ∷ us) h e = go (eqb u.literal l) refl (unit_there id l us h.1) e
  where
    go : (b : Bool) → eqb u.literal l ≡ b → (unit_id l us ≡ Some id → unit_with_id id us ≡ Some (l ∷ [])) → cond b (Some u.id) (unit_id l us) ≡ Some id → cond (eqb u.id id) (Some (u.literal ∷ [])) (unit_with_id id us) ≡ Some (l ∷ [])
    go true s ih e = let k : u.id ≡ id = cc in ap (λ b. cond b (Some (u.literal ∷ [])) (unit_with_id id us)) (eq-eqb u.id id k) ∙ ap (λ x. Some (x ∷ [])) (eqb-true u.literal l s)
    go false s ih e = ap (λ b. cond b (Some (u.literal ∷ [])) (unit_with_id id us)) (ne_eqb u.id id (λ q. eqb-false u.literal l s (h.0.0 q))) ∙ ih e

unit_past : (b id : ℕ) (us : List StoredUnit) → id ≤ b → AllByRecursion (λ m. b < m) (unit_ids us) → unit_with_id id us ≡ None
unit_past b id [] l h = refl
unit_past b id (u ∷ us) l h = ap (λ d. cond d (Some (u.literal ∷ [])) (unit_with_id id us)) (ne_eqb u.id id (λ q. let k : b < u.id = h.0 in omega (arith, k, l, q))) ∙ unit_past b id us l h.1

unit_gone : (id l : ℕ) (us : List StoredUnit) → IsIncreasing (unit_ids us) → AllByRecursion (IsIdOfUnit id l) us → (unit_id l us ≡ Some id → ⊥) → unit_with_id id us ≡ None
unit_gone id l [] i h n = refl
unit_gone id l (u ∷ us) i h n = go (eqb u.literal l) refl (unit_gone id l us i.1 h.1) n
  where
    go : (b : Bool) → eqb u.literal l ≡ b → ((unit_id l us ≡ Some id → ⊥) → unit_with_id id us ≡ None) → (cond b (Some u.id) (unit_id l us) ≡ Some id → ⊥) → cond (eqb u.id id) (Some (u.literal ∷ [])) (unit_with_id id us) ≡ None
    go true s ih n = ap (λ b. cond b (Some (u.literal ∷ [])) (unit_with_id id us)) (ne_eqb u.id id (λ q. n (ap Some q))) ∙ unit_past u.id id us (h.0.1 (eqb-true u.literal l s)) i.0
    go false s ih n = ap (λ b. cond b (Some (u.literal ∷ [])) (unit_with_id id us)) (ne_eqb u.id id (λ q. eqb-false u.literal l s (h.0.0 q))) ∙ ih n

pub id_reached : (o : Option ℕ) (id : ℕ) → false ≡ not (option_eq eqb o (Some id)) → o ≡ Some id
id_reached None id e = absurd (true≢false (sym e))
id_reached (Some x) id e = go (eqb x id) refl e
  where
    go : (b : Bool) → eqb x id ≡ b → false ≡ not b → Some x ≡ Some id
    go true h e = ap Some (eqb-true x id h)
    go false h e = absurd (true≢false (sym e))

pub id_missed : (o : Option ℕ) (id : ℕ) → true ≡ not (option_eq eqb o (Some id)) → o ≡ Some id → ⊥
id_missed None id e q = absurd cc
id_missed (Some x) id e q = let k : x ≡ id = cc in true≢false (e ∙ ap not (eq-eqb x id k))

-- the last irredundant clause is the one that was recorded, unless it was removed
module _ (F : Formula) (f : Stored) (k : RepresentsFormula F f) where
  last_is : (last : LastClause) → F.status.last ≡ last → last_literals f.last f ≡ last_literals (last_in last) f
  last_is last e = ap (λ (s : StoredStatus). last_literals s.last f) (sym k.status) ∙ ap (λ x. last_literals (last_in x) f) e

  put_is : (last : LastClause) → F.status.last ≡ last → LastUnitHasId last f.units f.next_id
  put_is last e = subst (λ x. LastUnitHasId x f.units f.next_id) e k.numbered.put

  pub single_is : (id l : ℕ) → F.status.last ≡ code.Single id l → unit_id l F.units.units ≡ Some id → last_literals f.last f ≡ Some (l ∷ [])
  single_is id l e u = last_is (code.Single id l) e ∙ unit_there id l f.units (put_is (code.Single id l) e).1 (ap (unit_id l) (sym k.units) ∙ u)

  pub single_none : (id l : ℕ) → F.status.last ≡ code.Single id l → (unit_id l F.units.units ≡ Some id → ⊥) → last_literals f.last f ≡ None
  single_none id l e n = last_is (code.Single id l) e ∙ unit_gone id l f.units k.numbered.of_units.increasing (put_is (code.Single id l) e).1 (λ u. n (ap (unit_id l) k.units ∙ u))

  pub long_is : (id : ℕ) → F.status.last ≡ code.Long id → last_literals f.last f ≡ clause_with_id id (live_clauses F.store.clauses)
  long_is id e = last_is (code.Long id) e ∙ ap (clause_with_id id) (sym k.clauses.clauses)

pub strict_same : (b : Bool) (x y : Option (List ℕ)) (ls : List ℕ) → x ≡ y → MatchBool b (IsStrictSubset y ls) (IsStrictSubset y ls → ⊥) → MatchBool b (IsStrictSubset x ls) (IsStrictSubset x ls → ⊥)
strict_same b x y ls e m = subst (λ z. MatchBool b (IsStrictSubset z ls) (IsStrictSubset z ls → ⊥)) (sym e) m

pub strict_part : (b : Bool) (xs ls : List ℕ) → b ≡ (is_subset_of xs ls && (not true || not (is_subset_of ls xs))) → MatchBool b (IsStrictSubset (Some xs) ls) (IsStrictSubset (Some xs) ls → ⊥)
strict_part b xs ls e = go b (is_subset_of xs ls) refl (is_subset_of ls xs) refl e
  where
    go : (b p : Bool) → is_subset_of xs ls ≡ p → (q : Bool) → is_subset_of ls xs ≡ q → b ≡ (p && (not true || not q)) → MatchBool b (IsStrictSubset (Some xs) ls) (IsStrictSubset (Some xs) ls → ⊥)
    go true true s false t e = (s, t)
    go true true s true t e = absurd (true≢false e)
    go true false s q t e = absurd (true≢false e)
    go false true s true t e = λ h. true≢false (sym t ∙ h.1)
    go false true s false t e = absurd (true≢false (sym e))
    go false false s q t e = λ h. true≢false (sym h.0 ∙ s)
