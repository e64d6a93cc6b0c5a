-- What the formula represents after clauses are stored.
use Rattle.std.proofs.Common.{ℕ, ◌+◌, ◌≤◌, get_or, ◌^◌, ◌≡◌, Bool, true, false, not, cond, eqb, List, [], ◌∷◌, ◌++◌, length, map, Option, None, Some, is_some, refl, sym, ◌∙◌, ap, subst, arith, Result, Ok, Err, inl, inr, max}
use Rattle.std.proofs.lemmas.Bool.{true≢false, eq-eqb, eqb-true, eqb-false}
use Rattle.std.specs.Prelude.{MatchResult}
use Rattle.sat_base.specs.values.Literals.{negated}
use Rattle.sat_checker.specs.LiteralSets.{is_among, same_literals, is_tautology, canonical}
use Rattle.sat_checker.specs.Counters.{CountExhausted, CountersExhausted}
use Rattle.sat_checker.specs.Stored.{Stored, StoredClause, StoredUnit, LastIrredundant, UnitClause, LongClause, is_unit}
use Rattle.sat_checker.specs.Storing.{with_count, new_clause, with_stored_clause, clause_with, irredundant_count, redundant_count, unit_id, last_unit_or, last_long_or, with_unit, with_contradiction, with_new_unit, with_sorted_set, with_canonical, with_stored, with_input}
use Rattle.sat_checker.specs.inner.AssumedRoom.{HasClauseRoom, RoomIsKept, with_room}
use Rattle.sat_checker.specs.inner.SlotView.{slot_ids}
use Rattle.sat_checker.specs.inner.StoreView.{RepresentsClauses, StoreEffect, AppendsNewId, store_count_in, id_in}
use Rattle.sat_checker.specs.inner.UnitView.{UnitsAndRoom}
use Rattle.sat_checker.specs.inner.FormulaView.{StoredStatus, status_of, status_in_code, AreNumbered, RepresentsFormula, ChangeResult}
use Rattle.sat_checker.specs.declared.store.Placed.{Placed}
use Rattle.sat_checker.specs.declared.store.Store.{Store}
use Rattle.sat_checker.specs.declared.store.StoreError.{StoreError}
use Rattle.sat_checker.specs.declared.store.StoreError.TheVariants.{OutOfMemory, CounterEnd}
use Rattle.sat_checker.specs.declared.state.status.LastClause.TheVariants as code
use Rattle.sat_checker.specs.declared.state.status.Status.{Status}
use Rattle.sat_checker.specs.declared.formula.Formula.{Formula}
use Rattle.sat_checker.proofs.lemmas.sets.Rooms.{room_stays}
use Rattle.sat_checker.proofs.lemmas.state.Rooms.{stored_stays, stored_with}
use Rattle.sat_checker.proofs.lemmas.formula.Numbering.{numbered_more, numbered_placed, numbered_unit, unit_noted}

-- a unit is found under its id
unit_there : (l id : ℕ) (us : List StoredUnit) (otherwise : LastIrredundant) → unit_id l us ≡ Some id → last_unit_or l us otherwise ≡ UnitClause id
unit_there l id [] otherwise e = cc
unit_there l id (u ∷ us) otherwise e = go (eqb u.literal l) (unit_there l id us otherwise) e
  where
    go : (b : Bool) → (unit_id l us ≡ Some id → last_unit_or l us otherwise ≡ UnitClause id) → cond b (Some u.id) (unit_id l us) ≡ Some id → cond b (UnitClause u.id) (last_unit_or l us otherwise) ≡ UnitClause id
    go true ih e = cc
    go false ih e = ih e

unit_none : (l : ℕ) (us : List StoredUnit) (otherwise : LastIrredundant) → unit_id l us ≡ None → last_unit_or l us otherwise ≡ otherwise
unit_none l [] otherwise e = refl
unit_none l (u ∷ us) otherwise e = go (eqb u.literal l) (unit_none l us otherwise) e
  where
    go : (b : Bool) → (unit_id l us ≡ None → last_unit_or l us otherwise ≡ otherwise) → cond b (Some u.id) (unit_id l us) ≡ None → cond b (UnitClause u.id) (last_unit_or l us otherwise) ≡ otherwise
    go true ih e = absurd cc
    go false ih e = ih e

last_same : (l : ℕ) (f : Stored) → (with_unit l f).last ≡ f.last
last_same l f = go (is_unit f l) (is_unit f (negated l))
  where
    go : (b d : Bool) → (cond b f (cond d (with_contradiction l f) (with_new_unit l f))).last ≡ f.last
    go true d = refl
    go false true = refl
    go false false = refl

pub single_noted : (F : Formula) (r : Bool) (l id : ℕ) (f : Stored) → r ≡ false → RepresentsFormula F (with_unit l f) → unit_id l F.units.units ≡ Some id
    → RepresentsFormula (record F { status = record F.status { last = code.Single id l } }) (with_canonical r (l ∷ []) f)
single_noted F true l id f e k u = absurd (true≢false e)
single_noted F false l id f e k u = record {
  clauses = k.clauses;
  units = k.units;
  status =
      ap (λ (s : StoredStatus). record s { last = UnitClause id }) k.status
      ∙ ap (λ o. record (status_of (with_unit l f)) { last = o }) (sym (unit_there l id (with_unit l f).units f.last (ap (unit_id l) (sym k.units) ∙ u)));
  numbered = unit_noted (slot_ids F.store.clauses) (with_unit l f).units F.status.last (with_unit l f).next_id l id (ap (unit_id l) (sym k.units) ∙ u) k.numbered;
  room = k.room;
  marks = k.marks;
}

pub single_passed : (F : Formula) (r : Bool) (l : ℕ) (f : Stored) → r ≡ false → RepresentsFormula F (with_unit l f) → unit_id l F.units.units ≡ None → RepresentsFormula F (with_canonical r (l ∷ []) f)
single_passed F true l f e k u = absurd (true≢false e)
single_passed F false l f e k u = record {
  clauses = k.clauses;
  units = k.units;
  status =
      k.status
      ∙ ap (λ o. record (status_of (with_unit l f)) { last = o }) (last_same l f ∙ sym (unit_none l (with_unit l f).units f.last (ap (unit_id l) (sym k.units) ∙ u)));
  numbered = k.numbered;
  room = k.room;
  marks = k.marks;
}

-- where a clause is after it is stored
itself : (ls : List ℕ) → same_literals ls ls ≡ true
itself [] = refl
itself (x ∷ xs) = let e : eqb x x ≡ true = eq-eqb x x refl in rw e (itself xs)

long_there : (r : Bool) (n : ℕ) (ls : List ℕ) (cs : List StoredClause) (otherwise : LastIrredundant) → last_long_or (clause_with ls (with_stored_clause r n ls cs)) otherwise ≡ LongClause (id_in (clause_with ls cs) n)
long_there true n ls [] otherwise = ap (λ b. last_long_or (cond b (Some (new_clause true n ls)) None) otherwise) (itself ls)
long_there false n ls [] otherwise = ap (λ b. last_long_or (cond b (Some (new_clause false n ls)) None) otherwise) (itself ls)
long_there r n ls (c ∷ cs) otherwise = go r (same_literals c.literals ls) refl (long_there r n ls cs otherwise)
  where
    go : (r : Bool) (b : Bool) → same_literals c.literals ls ≡ b → last_long_or (clause_with ls (with_stored_clause r n ls cs)) otherwise ≡ LongClause (id_in (clause_with ls cs) n)
        → last_long_or (clause_with ls (cond b (with_count r c ∷ cs) (c ∷ with_stored_clause r n ls cs))) otherwise ≡ LongClause (id_in (cond b (Some c) (clause_with ls cs)) n)
    go true true e ih = ap (λ b. last_long_or (cond b (Some (with_count true c)) (clause_with ls cs)) otherwise) e
    go false true e ih = ap (λ b. last_long_or (cond b (Some (with_count false c)) (clause_with ls cs)) otherwise) e
    go r false e ih = ap (λ b. last_long_or (cond b (Some c) (clause_with ls (with_stored_clause r n ls cs))) otherwise) e ∙ ih

-- storing a clause adds one count
count_more : (r : Bool) (n : ℕ) (ls : List ℕ) (cs : List StoredClause) → store_count_in r (clause_with ls (with_stored_clause r n ls cs)) ≡ store_count_in r (clause_with ls cs) + 1
count_more true n ls [] = ap (λ b. redundant_count (cond b (Some (new_clause true n ls)) None)) (itself ls)
count_more false n ls [] = ap (λ b. irredundant_count (cond b (Some (new_clause false n ls)) None)) (itself ls)
count_more r n ls (c ∷ cs) = go r (same_literals c.literals ls) refl (count_more r n ls cs)
  where
    go : (r : Bool) (b : Bool) → same_literals c.literals ls ≡ b → store_count_in r (clause_with ls (with_stored_clause r n ls cs)) ≡ store_count_in r (clause_with ls cs) + 1
        → store_count_in r (clause_with ls (cond b (with_count r c ∷ cs) (c ∷ with_stored_clause r n ls cs))) ≡ store_count_in r (cond b (Some c) (clause_with ls cs)) + 1
    go true true e ih = ap (λ b. redundant_count (cond b (Some (with_count true c)) (clause_with ls cs))) e
    go false true e ih = ap (λ b. irredundant_count (cond b (Some (with_count false c)) (clause_with ls cs))) e
    go r false e ih = ap (λ b. store_count_in r (cond b (Some c) (clause_with ls (with_stored_clause r n ls cs)))) e ∙ ih

counts_spent : (f : Stored) (r : Bool) (ls : List ℕ) → 2 ^ 64 ≤ store_count_in r (clause_with ls f.clauses) → CountExhausted f
counts_spent f true ls h = record { literals = ls; past = inr h }
counts_spent f false ls h = record { literals = ls; past = inl h }

abbrev noted : Bool → Placed → Status → Status
noted r p s = cond r s (record s { last = code.Long p.id })

next_of : (F : Formula) (f : Stored) → RepresentsFormula F f → F.status.next_id ≡ f.next_id
next_of F f k = ap (λ (s : StoredStatus). s.next_id) k.status

-- storing a new unit
pub unit_stored : (F : Formula) (f : Stored) (l id : ℕ) (units : UnitsAndRoom) (status : Status) → RepresentsFormula F f → is_among (map (λ u. u.literal) F.units.units) l ≡ false → is_among (map (λ u. u.literal) F.units.units) (negated l) ≡ false → units ≡ record { units = F.units.units ++ (record { id = id; literal = l }) ∷ []; room = with_room l F.units.room }
    → (id ≡ F.status.next_id) × (status ≡ record F.status { next_id = F.status.next_id + 1 }) → RepresentsFormula (record F { units = units; status = status }) (with_unit l f)
unit_stored F f l id units status k a b u s =
    let e : with_unit l f ≡ with_new_unit l f =
    ap (λ us. cond (is_among (map (λ (w : StoredUnit). w.literal) us) l) f (cond (is_unit f (negated l)) (with_contradiction l f) (with_new_unit l f))) (sym k.units) ∙ ap (λ b. cond b f (cond (is_unit f (negated l)) (with_contradiction l f) (with_new_unit l f))) a
    ∙ ap (λ us. cond (is_among (map (λ (w : StoredUnit). w.literal) us) (negated l)) (with_contradiction l f) (with_new_unit l f)) (sym k.units) ∙ ap (λ b. cond b (with_contradiction l f) (with_new_unit l f)) b in
    subst (RepresentsFormula (record F { units = units; status = status })) (sym e) (record {
      clauses = k.clauses;
      units = ap (λ (w : UnitsAndRoom). w.units) u ∙ ap (λ us. us ++ (record { id = id; literal = l }) ∷ []) k.units ∙ ap (λ n. f.units ++ (record { id = n; literal = l }) ∷ []) (s.0 ∙ next_of F f k);
      status = ap status_in_code s.1 ∙ ap (λ (t : StoredStatus). record t { next_id = t.next_id + 1 }) k.status;
      numbered = subst (λ x. AreNumbered (slot_ids F.store.clauses) (with_new_unit l f).units x (f.next_id + 1)) (sym (ap (λ (t : Status). t.last) s.1)) (numbered_unit (slot_ids F.store.clauses) f.units F.status.last f.next_id l k.numbered);
      room = stored_stays F.units.room units.room f.clauses (subst (RoomIsKept F.units.room) (sym (ap (λ (w : UnitsAndRoom). w.room) u)) (room_stays l F.units.room)) k.room;
      marks = k.marks;
    })

next_swap : (b is_new : Bool) (n : ℕ) → is_new ≡ not b → cond is_new (n + 1) n ≡ cond b n (n + 1)
next_swap true true n e = absurd (true≢false e)
next_swap true false n e = refl
next_swap false true n e = refl
next_swap false false n e = absurd (true≢false (sym e))

-- storing a clause of two or more literals
module _ (F : Formula) (store : Store) (f : Stored) (x y : ℕ) (ls : List ℕ) (p : Placed) (k : RepresentsFormula F f) where
  abbrev all : List ℕ
  all = x ∷ y ∷ ls

  abbrev there : Option StoredClause
  there = clause_with all f.clauses

  kept_so : (r : Bool) → RepresentsClauses store (record f { clauses = with_stored_clause r F.status.next_id all f.clauses }) → RepresentsClauses store (record f { clauses = with_stored_clause r f.next_id all f.clauses })
  kept_so r h = subst (λ n. RepresentsClauses store (record f { clauses = with_stored_clause r n all f.clauses })) (next_of F f k) h

  numbered_so : AppendsNewId F.store.clauses store.clauses F.status.next_id p.is_new → p.is_new ≡ not (is_some there) → AreNumbered (slot_ids store.clauses) f.units F.status.last (cond (is_some there) f.next_id (f.next_id + 1))
  numbered_so h e =
      numbered_placed F.store.clauses store.clauses f.units F.status.last f.next_id p.is_new (is_some there) (subst (λ n. AppendsNewId F.store.clauses store.clauses n p.is_new) (next_of F f k) h) e k.numbered

  long_done : (r : Bool) (status : Status) → HasClauseRoom F.units.room all × HasClauseRoom F.marks.room all → StoreEffect store f F.status.next_id r all p.id p.is_new → AppendsNewId F.store.clauses store.clauses F.status.next_id p.is_new
      → status ≡ record (noted r p F.status) { next_id = cond p.is_new ((noted r p F.status).next_id + 1) (noted r p F.status).next_id }
      → RepresentsFormula (record F { store = store; status = status }) (with_canonical r all f)
  long_done true status roomy s h e = record {
    clauses = kept_so true s.stored;
    units = k.units;
    status =
        ap status_in_code e ∙ ap (λ (t : StoredStatus). record t { next_id = cond p.is_new (t.next_id + 1) t.next_id }) k.status
        ∙ ap (λ n. record (status_of f) { next_id = n }) (next_swap (is_some there) p.is_new f.next_id s.new_is);
    numbered = subst (λ l. AreNumbered (slot_ids store.clauses) f.units l (cond (is_some there) f.next_id (f.next_id + 1))) (sym (ap (λ (t : Status). t.last) e)) (numbered_so h s.new_is);
    room = stored_with F.units.room true f.next_id all f.clauses roomy.0 k.room;
    marks = stored_with F.marks.room true f.next_id all f.clauses roomy.1 k.marks;
  }
  long_done false status roomy s h e = record {
    clauses = kept_so false s.stored;
    units = k.units;
    status =
        ap status_in_code e ∙ ap (λ (t : StoredStatus). record t { last = LongClause p.id; next_id = cond p.is_new (t.next_id + 1) t.next_id }) k.status
        ∙ ap (λ n. record (status_of f) { last = LongClause p.id; next_id = n }) (next_swap (is_some there) p.is_new f.next_id s.new_is)
        ∙ ap (λ l. record (status_of f) { last = l; next_id = cond (is_some there) f.next_id (f.next_id + 1) }) (
        ap LongClause (s.id_is ∙ ap (id_in there) (next_of F f k)) ∙ sym (long_there false f.next_id all f.clauses f.last)
        );
    numbered =
        subst (λ l. AreNumbered (slot_ids store.clauses) f.units l (cond (is_some there) f.next_id (f.next_id + 1))) (sym (ap (λ (t : Status). t.last) e))
        (let n = numbered_so h s.new_is in record { of_clauses = n.of_clauses; of_units = n.of_units; put = tt });
    room = stored_with F.units.room false f.next_id all f.clauses roomy.0 k.room;
    marks = stored_with F.marks.room false f.next_id all f.clauses roomy.1 k.marks;
  }

  next_noted : (r : Bool) → (noted r p F.status).next_id ≡ f.next_id
  next_noted true = next_of F f k
  next_noted false = next_of F f k

  long_spent : (r : Bool) → p.is_new ≡ not (is_some there) → p.is_new ≡ true → 2 ^ 64 ≤ (noted r p F.status).next_id + 1 → CountersExhausted (with_canonical r all f)
  long_spent true n t h = inl (let a = next_noted true in let b = next_swap (is_some there) p.is_new f.next_id n in let d : cond p.is_new (f.next_id + 1) f.next_id ≡ f.next_id + 1 = ap (λ c. cond c (f.next_id + 1) f.next_id) t in omega (arith, a, b, d, h))
  long_spent false n t h = inl (let a = next_noted false in let b = next_swap (is_some there) p.is_new f.next_id n in let d : cond p.is_new (f.next_id + 1) f.next_id ≡ f.next_id + 1 = ap (λ c. cond c (f.next_id + 1) f.next_id) t in omega (arith, a, b, d, h))

  count_spent : (r : Bool) → 2 ^ 64 ≤ store_count_in r there + 1 → CountersExhausted (with_canonical r all f)
  count_spent true h = inr (counts_spent (with_canonical true all f) true all (let e = count_more true f.next_id all f.clauses in omega (arith, e, h)))
  count_spent false h = inr (counts_spent (with_canonical false all f) false all (let e = count_more false f.next_id all f.clauses in omega (arith, e, h)))

-- the result of assigning the next id, if one is needed
abbrev pub Takes : {T : Type 0} → Result T StoreError → Status → Bool → Status → Type 0
Takes result old needed new =
    MatchResult result (λ x. new ≡ record old { next_id = cond needed (old.next_id + 1) old.next_id }) (λ e. (e ≡ CounterEnd) × (needed ≡ true) × (2 ^ 64 ≤ old.next_id + 1))

pub long_stored : {T : Type 0} (result : Result T StoreError) (F : Formula) (store : Store) (was status : Status) (f : Stored) (r : Bool) (ls : List ℕ) (p : Placed) → 2 ≤ length ls → RepresentsFormula F f → HasClauseRoom F.units.room ls × HasClauseRoom F.marks.room ls → StoreEffect store f F.status.next_id r ls p.id p.is_new → AppendsNewId F.store.clauses store.clauses F.status.next_id p.is_new
    → was ≡ noted r p F.status → Takes result was p.is_new status → ChangeResult result (RepresentsFormula (record F { store = store; status = status }) (with_canonical r ls f)) (with_canonical r ls f)
long_stored result F store was status f r [] p l k q s h w m = absurd (omega arith)
long_stored result F store was status f r (x ∷ []) p l k q s h w m = absurd (omega arith)
long_stored {T = T} result F store was status f r (x ∷ y ∷ ls) p l k q s h w m = go result (subst (λ t. Takes result t p.is_new status) w m)
  where
    go : (result : Result T StoreError) → Takes result (noted r p F.status) p.is_new status → ChangeResult result (RepresentsFormula (record F { store = store; status = status }) (with_canonical r (x ∷ y ∷ ls) f)) (with_canonical r (x ∷ y ∷ ls) f)
    go (Ok v) m = long_done F store f x y ls p k r status q s h m
    go (Err e) m =
        subst (λ d. ChangeResult {T = T} (Err d) (RepresentsFormula (record F { store = store; status = status }) (with_canonical r (x ∷ y ∷ ls) f)) (with_canonical r (x ∷ y ∷ ls) f)) (sym m.0) (long_spent F store f x y ls p k r s.new_is m.1 m.2)

long_fails : (e : StoreError) (T K : Type 0) (F : Formula) (f : Stored) (r : Bool) (ls : List ℕ) → 2 ≤ length ls → RepresentsFormula F f
    → (e ≡ CounterEnd → 2 ^ 64 ≤ store_count_in r (clause_with ls f.clauses) + 1) → ChangeResult {T = T} (Err e) K (with_canonical r ls f)
long_fails e T K F f r [] l k h = absurd (omega arith)
long_fails e T K F f r (x ∷ []) l k h = absurd (omega arith)
long_fails OutOfMemory T K F f r (x ∷ y ∷ ls) l k h = tt
long_fails CounterEnd T K F f r (x ∷ y ∷ ls) l k h = count_spent F F.store f x y ls (record { id = 0; is_new = true; irredundant = 0 }) k r (h refl)

pub long_refused : {T : Type 0} (result : Result T StoreError) (d e : StoreError) → result ≡ Err d → d ≡ e → (K : Type 0) (F : Formula) (f : Stored) (r : Bool) (ls : List ℕ) → 2 ≤ length ls → RepresentsFormula F f
    → (e ≡ CounterEnd → 2 ^ 64 ≤ store_count_in r (clause_with ls f.clauses) + 1) → ChangeResult result K (with_canonical r ls f)
long_refused {T = T} result d e i s K F f r ls l k h = subst (λ x. ChangeResult x K (with_canonical r ls f)) (sym (i ∙ ap Err s)) (long_fails e T K F f r ls l k h)

-- the next id does not decrease
next_unit : (l : ℕ) (f : Stored) → f.next_id ≤ (with_unit l f).next_id
next_unit l f = go (is_unit f l) (is_unit f (negated l))
  where
    go : (b d : Bool) → f.next_id ≤ (cond b f (cond d (with_contradiction l f) (with_new_unit l f))).next_id
    go true d = omega arith
    go false true = omega arith
    go false false = omega arith

next_set : (r : Bool) (ls : List ℕ) (f : Stored) → f.next_id ≤ (with_sorted_set r ls f).next_id
next_set r [] f = omega arith
next_set r (l ∷ []) f = next_unit l f
next_set r (l ∷ m ∷ ls) f = go (is_some (clause_with (l ∷ m ∷ ls) f.clauses))
  where
    go : (b : Bool) → f.next_id ≤ cond b f.next_id (f.next_id + 1)
    go true = omega arith
    go false = omega arith

next_canonical : (r : Bool) (ls : List ℕ) (f : Stored) → f.next_id ≤ (with_canonical r ls f).next_id
next_canonical true ls f = next_set true ls f
next_canonical false ls f = next_set false ls f

next_stored : (r : Bool) (c : List ℕ) (f : Stored) → f.next_id ≤ (with_stored r c f).next_id
next_stored r c f = go (is_tautology c)
  where
    go : (b : Bool) → f.next_id ≤ (cond b f (with_canonical r (canonical c) f)).next_id
    go true = omega arith
    go false = next_canonical r (canonical c) f

-- an input clause always gets an id
next_input : (n m : ℕ) (b : Bool) → n ≤ m → b ≡ eqb m n → cond b (m + 1) m ≡ max m (n + 1)
next_input n m true l e = let h : m ≡ n = eqb-true m n (sym e) in omega arith
next_input n m false l e = let h : (m ≡ n → ⊥) = eqb-false m n (sym e) in omega arith

pub input_stored : {T : Type 0} (result : Result T StoreError) (F G : Formula) (status : Status) (f : Stored) (c : List ℕ) (b : Bool) → RepresentsFormula F f → RepresentsFormula G (with_stored false c f) → b ≡ eqb G.status.next_id F.status.next_id
    → Takes result G.status b status → ChangeResult result (RepresentsFormula (record G { status = status }) (with_input c f)) (with_input c f)
input_stored {T = T} result F G status f c b k g e m = go result m
  where
    same : cond b ((with_stored false c f).next_id + 1) (with_stored false c f).next_id ≡ max (with_stored false c f).next_id (f.next_id + 1)
    same = next_input f.next_id (with_stored false c f).next_id b (next_stored false c f) (e ∙ ap (λ n. eqb n F.status.next_id) (next_of G (with_stored false c f) g) ∙ ap (eqb (with_stored false c f).next_id) (next_of F f k))

    go : (result : Result T StoreError) → Takes result G.status b status → ChangeResult result (RepresentsFormula (record G { status = status }) (with_input c f)) (with_input c f)
    go (Ok v) m = record {
      clauses = g.clauses;
      units = g.units;
      status = ap status_in_code m ∙ ap (λ (t : StoredStatus). record t { next_id = cond b (t.next_id + 1) t.next_id }) g.status ∙ ap (λ n. record (status_of (with_stored false c f)) { next_id = n }) same;
      numbered =
          subst (λ l. AreNumbered (slot_ids G.store.clauses) (with_stored false c f).units l (with_input c f).next_id) (sym (ap (λ (t : Status). t.last) m))
          (numbered_more (slot_ids G.store.clauses) (with_stored false c f).units G.status.last (with_stored false c f).next_id (with_input c f).next_id (omega arith) g.numbered);
      room = g.room;
      marks = g.marks;
    }
    go (Err e) m =
        subst (λ d. ChangeResult {T = T} (Err d) (RepresentsFormula (record G { status = status }) (with_input c f)) (with_input c f)) (sym m.0)
        (inl (let a = next_of G (with_stored false c f) g in let t = ap (λ x. cond x ((with_stored false c f).next_id + 1) (with_stored false c f).next_id) m.1 in omega (arith, a, t, same, m.2)))

-- cases by the number of literals
pub is_none : (ls : List ℕ) (b : Bool) → eqb (length ls) 0 ≡ b → b ≡ true → ls ≡ []
is_none [] b e t = refl
is_none (l ∷ ls) b e t = let k : length (l ∷ ls) ≡ 0 = eqb-true (length (l ∷ ls)) 0 (e ∙ t) in absurd (omega arith)

pub is_single : (ls : List ℕ) (x : ℕ) → length ls ≡ 1 → x ≡ get_or ls 0 x → x ∷ [] ≡ ls
is_single [] x e is = absurd (omega arith)
is_single (l ∷ []) x e is = ap (λ y. y ∷ []) is
is_single (l ∷ m ∷ ls) x e is = absurd (omega arith)

pub is_long : (ls : List ℕ) (b : Bool) → eqb (length ls) 0 ≡ b → b ≡ false → (length ls ≡ 1 → ⊥) → 2 ≤ length ls
is_long [] b e f n = absurd cc
is_long (l ∷ []) b e f n = absurd (n refl)
is_long (l ∷ m ∷ ls) b e f n = omega arith

pub none_more : (looks n : ℕ) → looks ≤ looks + n
none_more looks n = omega arith

-- a tautology is not stored, any other clause is stored by its sorted literals
pub stored_signs : (r : Bool) (c : List ℕ) (f : Stored) → is_tautology c ≡ true → with_stored r c f ≡ f
stored_signs r c f e = rw e refl

pub stored_apart : (r : Bool) (c : List ℕ) (f : Stored) → is_tautology c ≡ false → with_stored r c f ≡ with_canonical r (canonical c) f
stored_apart r c f e = rw e refl
