-- The clauses that are present, as clauses are added and removed and variables become new.
use Rattle.std.proofs.Common.{ℕ, zero, suc, ◌+◌, ◌*◌, ◌<◌, ◌≤◌, ◌^◌, ◌≡◌, ◌≢◌, Bool, true, false, cond, eqb, nat_lt, List, [], ◌∷◌, length, get_or, Option, None, Some, refl, sym, ◌∙◌, ap, subst, arith, MatchBool}
use Rattle.std.proofs.lemmas.Bool.{eqb-true, lt-ltb, le-ltb}
use Rattle.sat_base.specs.declared.table.Table.{Table}
use Rattle.sat_base.specs.values.Literals.{variable}
use Rattle.sat_base.specs.values.Tables.{value_at}
use Rattle.sat_checker.specs.LiteralSets.{mentions}
use Rattle.sat_checker.specs.SortedSets.{IsIncreasing}
use Rattle.sat_hints.specs.Hints.{is_long, unless_unit_of_variable}
use Rattle.sat_hints.specs.inner.Clauses.{clause_in, present_clause_at, count_in_long, occurrences_of, IdsBelow, PresentInvariant, AddsPresentClause, RemovesPresentClause}
use Rattle.sat_hints.specs.inner.UsesView.{count_if_counting, uses_at}
use Rattle.sat_hints.specs.inner.ActiveClauses.{is_stale, unless_stale, active_clause, UnitBoundsWithin, ActiveClausesInvariant, FindsActiveClause, AddsActiveClause, RemovesActiveClause, IsUsed, MakesVariableNew}
use Rattle.sat_hints.specs.declared.present.Present.{Present}
use Rattle.sat_hints.specs.declared.active_clauses.ActiveClauses.{ActiveClauses}
use Rattle.sat_hints.specs.declared.uses.Uses.{Uses}
use Rattle.sat_hints.proofs.lemmas.Counting.{times_one, times-few, times-there, times-some, counted_long, counted_mentions, mentions_counted}
use Rattle.sat_hints.proofs.lemmas.Listed.{stands_at, listed-at}

-- STALE UNITS
-- a clause that was just added is not stale
fresh_unit : (unit_bounds : Table ℕ) (id : ℕ) (c : List ℕ) → ((v : ℕ) → value_at 0 unit_bounds v ≤ id) → is_stale unit_bounds id c ≡ false
fresh_unit unit_bounds id [] h = refl
fresh_unit unit_bounds id (l ∷ []) h = le-ltb id (value_at 0 unit_bounds (variable l)) (h (variable l))
fresh_unit unit_bounds id (l ∷ m ∷ ls) h = refl

long_not_stale : (unit_bounds : Table ℕ) (id : ℕ) (c : List ℕ) → is_long c ≡ true → is_stale unit_bounds id c ≡ false
long_not_stale unit_bounds id [] e = refl
long_not_stale unit_bounds id (l ∷ []) e = absurd cc
long_not_stale unit_bounds id (l ∷ m ∷ ls) e = refl

-- a clause that is present is stored
pub was_stored : (unit_bounds : Table ℕ) (id : ℕ) (o : Option (List ℕ)) (c : List ℕ) → unless_stale unit_bounds id o ≡ Some c → o ≡ Some c
was_stored unit_bounds id None c e = absurd cc
was_stored unit_bounds id (Some d) c e = go (is_stale unit_bounds id d) e
  where
    go : (b : Bool) → cond b None (Some d) ≡ Some c → Some d ≡ Some c
    go true f = absurd cc
    go false f = f

-- ADDED CLAUSES
if_more : (b : Bool) (m n k : ℕ) → m ≡ n + k → count_if_counting b n + count_if_counting b k ≡ count_if_counting b m
if_more true m n k e = sym e
if_more false m n k e = refl

-- a stored clause is present, with its literals counted
pub gains : (old new : ActiveClauses) (id : ℕ) (clause : List ℕ) → ActiveClausesInvariant old → UnitBoundsWithin old id → AddsPresentClause old.present new.present id clause → new.unit_bounds ≡ old.unit_bounds → new.uses.counting ≡ old.uses.counting
    → ((l : ℕ) → uses_at new.uses l ≡ uses_at old.uses l + count_if_counting old.uses.counting (count_in_long l clause)) → AddsActiveClause old new id clause
gains old new id clause s w a e c u = record {
  active = record {
    store = a.store;
    counted = λ l.
        u l ∙ ap (λ n. n + count_if_counting old.uses.counting (count_in_long l clause)) (s.counted l) ∙ if_more old.uses.counting (occurrences_of new.present l) (occurrences_of old.present l) (count_in_long l clause) (a.times l)
        ∙ ap (λ b. count_if_counting b (occurrences_of new.present l)) (sym c);
  };
  below = a.below;
  unit_bounds = e;
  clauses = λ j. ap (λ x. unless_stale x j (clause_in new.present j)) e ∙ ap (unless_stale old.unit_bounds j) (a.clauses j) ∙ one j (eqb j id) refl;
}
  where
    one : (j : ℕ) (b : Bool) → eqb j id ≡ b → unless_stale old.unit_bounds j (cond b (Some clause) (clause_in old.present j)) ≡ cond b (Some clause) (active_clause old j)
    one j true t = let same : j ≡ id = eqb-true j id t in ap (λ x. cond x None (Some clause)) (subst (λ i. is_stale old.unit_bounds i clause ≡ false) (sym same) (fresh_unit old.unit_bounds id clause w))
    one j false t = refl

-- a literal is counted at most once in every stored clause
if_few : (b : Bool) (n : ℕ) → count_if_counting b n ≤ n
if_few true n = omega arith
if_few false n = omega arith

-- no count exceeds the number of clauses
pub few_uses : (old new : Present) (u : Uses) (id : ℕ) (clause : List ℕ) → PresentInvariant old → ((l : ℕ) → uses_at u l ≡ count_if_counting u.counting (occurrences_of old l)) → IsIncreasing clause → AddsPresentClause old new id clause → (l : ℕ) → uses_at u l + count_in_long l clause ≤ length new.ids.items
few_uses old new u id clause s c i a l =
    let x : uses_at u l ≡ count_if_counting u.counting (occurrences_of old l) = c l in
    let y : count_if_counting u.counting (occurrences_of old l) ≤ occurrences_of old l = if_few u.counting (occurrences_of old l) in
    let z : occurrences_of old l ≤ length old.clauses = times-few l old.clauses old.removed.items s.sets in
    let w : count_in_long l clause ≤ 1 = times_one l clause i in
    let v : length new.ids.items ≡ length old.ids.items + 1 = a.longer in
    let t : length old.clauses ≡ length old.ids.items = s.clauses in
    omega (arith, x, y, z, w, v, t)

-- REMOVED CLAUSES
if_less : (b : Bool) (m n k : ℕ) → m + k ≡ n → count_if_counting b m + count_if_counting b k ≡ count_if_counting b n
if_less true m n k e = e
if_less false m n k e = refl

module _ (old : ActiveClauses) (id place : ℕ) (s : ActiveClausesInvariant old) (f : FindsActiveClause old id place) where
  -- the clause at this index was not removed
  not_gone : (c : List ℕ) → clause_in old.present id ≡ Some c → (get_or old.present.removed.items place false ≡ false) × (present_clause_at old.present place ≡ c)
  not_gone c e =
      let k : place < length old.present.ids.items = subst (λ n. place < n) s.store.clauses f.within in
      let at : clause_in old.present id ≡ cond (get_or old.present.removed.items place false) None (Some (present_clause_at old.present place))
      = subst (λ i. clause_in old.present i ≡ cond (get_or old.present.removed.items place false) None (Some (present_clause_at old.present place))) f.named (listed-at place old.present.ids.items old.present.clauses old.present.removed.items s.store.clauses s.store.removed s.store.rises k) in
      go (get_or old.present.removed.items place false) refl (sym at ∙ e)
    where
      go : (b : Bool) → get_or old.present.removed.items place false ≡ b → cond b None (Some (present_clause_at old.present place)) ≡ Some c → (b ≡ false) × (present_clause_at old.present place ≡ c)
      go true n g = absurd cc
      go false n g = (refl, (let x : present_clause_at old.present place ≡ c = cc in x))

  if_below : (b : Bool) (n m u : ℕ) → n ≤ m → u ≡ count_if_counting b m → count_if_counting b n ≤ u
  if_below true n m u h e = omega (arith, h, e)
  if_below false n m u h e = omega arith

  pub were_counted : (clause : List ℕ) → clause ≡ present_clause_at old.present place → (l : ℕ) → count_if_counting old.uses.counting (count_in_long l clause) ≤ uses_at old.uses l
  were_counted clause e l =
      let g = (not_gone (present_clause_at old.present place) f.stored).0 in
      let k : count_in_long l (present_clause_at old.present place) ≤ occurrences_of old.present l = times-there l old.present.clauses old.present.removed.items place (s.store.removed ∙ sym s.store.clauses) f.within g in
      if_below old.uses.counting (count_in_long l clause) (occurrences_of old.present l) (uses_at old.uses l) (subst (λ c. count_in_long l c ≤ occurrences_of old.present l) (sym e) k) (s.counted l)

  -- a removed clause is not present, and its literals are not counted
  pub drops : (new : ActiveClauses) (clause : List ℕ) → clause ≡ present_clause_at old.present place → RemovesPresentClause old.present new.present (get_or old.present.ids.items place 0) → new.unit_bounds ≡ old.unit_bounds → new.uses.counting ≡ old.uses.counting
      → ((l : ℕ) → uses_at new.uses l + count_if_counting old.uses.counting (count_in_long l clause) ≡ uses_at old.uses l) → RemovesActiveClause old new id
  drops new clause e lost w c u =
      let l = subst (RemovesPresentClause old.present new.present) f.named lost in
      record {
        active = record { store = l.store; counted = λ m. counts l m };
        below = l.below;
        unit_bounds = w;
        clauses = λ j. ap (λ x. unless_stale x j (clause_in new.present j)) w ∙ ap (unless_stale old.unit_bounds j) (l.clauses j) ∙ one j (eqb j id);
      }
    where
      one : (j : ℕ) (b : Bool) → unless_stale old.unit_bounds j (cond b None (clause_in old.present j)) ≡ cond b None (active_clause old j)
      one j true = refl
      one j false = refl

      counts : RemovesPresentClause old.present new.present id → (m : ℕ) → uses_at new.uses m ≡ count_if_counting new.uses.counting (occurrences_of new.present m)
      counts l m =
          let x : occurrences_of new.present m + count_in_long m clause ≡ occurrences_of old.present m = l.times clause (f.stored ∙ ap Some (sym e)) m in
          let y : count_if_counting old.uses.counting (occurrences_of new.present m) + count_if_counting old.uses.counting (count_in_long m clause) ≡ count_if_counting old.uses.counting (occurrences_of old.present m) = if_less old.uses.counting (occurrences_of new.present m) (occurrences_of old.present m) (count_in_long m clause) x in
          let z : uses_at old.uses m ≡ count_if_counting old.uses.counting (occurrences_of old.present m) = s.counted m in
          let t : uses_at new.uses m + count_if_counting old.uses.counting (count_in_long m clause) ≡ uses_at old.uses m = u m in
          let r : uses_at new.uses m ≡ count_if_counting old.uses.counting (occurrences_of new.present m) = omega (arith, y, z, t) in
          r ∙ ap (λ b. count_if_counting b (occurrences_of new.present m)) (sym c)

pub found_some : (s : ActiveClauses) (id place : ℕ) → FindsActiveClause s id place → active_clause s id ≢ None
found_some s id place f e = let x : ◌≡◌ {A = Option (List ℕ)} (Some (present_clause_at s.present place)) None = sym f.clause ∙ e in cc

-- VARIABLES IN USE
module _ (s : ActiveClauses) (v : ℕ) (st : PresentInvariant s.present) where
  abbrev both : ℕ
  both = occurrences_of s.present (2 * v) + occurrences_of s.present (2 * v + 1)

  used_at : (l : ℕ) → ((c : List ℕ) → is_long c ≡ true → 0 < count_in_long l c → mentions c v ≡ true) → 0 < occurrences_of s.present l → IsUsed s v
  used_at l within h =
      let t = times-some l s.present.clauses s.present.removed.items h in
      let c = get_or s.present.clauses t.place [] in
      let long = counted_long v l c t.holds in
      let k : t.place < length s.present.ids.items = subst (λ n. t.place < n) st.clauses t.within in
      let at : clause_in s.present (get_or s.present.ids.items t.place 0) ≡ Some c
      = listed-at t.place s.present.ids.items s.present.clauses s.present.removed.items st.clauses st.removed st.rises k ∙ ap (λ b. cond b None (Some c)) t.there in
      record {
        id = get_or s.present.ids.items t.place 0;
        clause = c;
        present = ap (unless_stale s.unit_bounds (get_or s.present.ids.items t.place 0)) at ∙ ap (λ b. cond b None (Some c)) (long_not_stale s.unit_bounds (get_or s.present.ids.items t.place 0) c long);
        long = long;
        within = within c long t.holds;
      }

  used_some : 0 < both → IsUsed s v
  used_some h = go (occurrences_of s.present (2 * v)) refl
    where
      go : (n : ℕ) → occurrences_of s.present (2 * v) ≡ n → IsUsed s v
      go zero e = used_at (2 * v + 1) (λ c long k. counted_mentions v c long (omega (arith, k))) (omega (arith, h, e))
      go (suc n) e = used_at (2 * v) (λ c long k. counted_mentions v c long (omega (arith, k))) (omega (arith, e))

  used_none : both ≡ 0 → IsUsed s v → ⊥
  used_none h u =
      let e : clause_in s.present u.id ≡ Some u.clause = was_stored s.unit_bounds u.id (clause_in s.present u.id) u.clause u.present in
      let t = stands_at u.id u.clause s.present.ids.items s.present.clauses s.present.removed.items e in
      let g : length s.present.removed.items ≡ length s.present.clauses = st.removed ∙ sym st.clauses in
      let a : count_in_long (2 * v) (get_or s.present.clauses t.place []) ≤ occurrences_of s.present (2 * v) = times-there (2 * v) s.present.clauses s.present.removed.items t.place g t.within t.there in
      let b : count_in_long (2 * v + 1) (get_or s.present.clauses t.place []) ≤ occurrences_of s.present (2 * v + 1) = times-there (2 * v + 1) s.present.clauses s.present.removed.items t.place g t.within t.there in
      let c = ap (count_in_long (2 * v)) t.clause in
      let d = ap (count_in_long (2 * v + 1)) t.clause in
      let n : 0 < count_in_long (2 * v) u.clause + count_in_long (2 * v + 1) u.clause = mentions_counted v u.clause u.long u.within in
      omega (arith, h, a, b, c, d, n)

  -- a variable is used exactly if one of its literals is counted
  pub used_is : (r : Bool) → MatchBool r (0 < both) (both ≡ 0) → MatchBool r (IsUsed s v) (IsUsed s v → ⊥)
  used_is true h = used_some h
  used_is false h = used_none h

-- A NEW VARIABLE
-- an id with a clause is in the list, so it is below the bound of all ids
below_bound : (p : Present) (bound : ℕ) → PresentInvariant p → IdsBelow p.ids.items bound → (id : ℕ) (c : List ℕ) → clause_in p id ≡ Some c → id < bound
below_bound p bound s h id c e =
    let t = stands_at id c p.ids.items p.clauses p.removed.items e in
    subst (λ i. i < bound) t.named (h t.place (subst (λ n. t.place < n) s.clauses t.within))

module _ (old new : ActiveClauses) (v bound : ℕ) (s : ActiveClausesInvariant old) (above : IdsBelow old.present.ids.items bound) (w : UnitBoundsWithin old bound)
    (p : new.present ≡ old.present) (counting : new.uses.counting ≡ true) (u : (l : ℕ) → uses_at new.uses l ≡ occurrences_of old.present l) (at : (x : ℕ) → value_at 0 new.unit_bounds x ≡ cond (eqb x v) bound (value_at 0 old.unit_bounds x)) where
  unit_gone : (l : ℕ) (b : Bool) → eqb (variable l) v ≡ true → unless_unit_of_variable v (cond b None (Some (l ∷ []))) ≡ None
  unit_gone l true e = refl
  unit_gone l false e = ap (λ t. cond t None (Some (l ∷ []))) e

  unit_kept : (l : ℕ) (b : Bool) → eqb (variable l) v ≡ false → unless_unit_of_variable v (cond b None (Some (l ∷ []))) ≡ cond b None (Some (l ∷ []))
  unit_kept l true e = refl
  unit_kept l false e = ap (λ t. cond t None (Some (l ∷ []))) e

  one_unit : (j l : ℕ) (b : Bool) → j < bound → eqb (variable l) v ≡ b → unless_stale new.unit_bounds j (Some (l ∷ [])) ≡ unless_unit_of_variable v (unless_stale old.unit_bounds j (Some (l ∷ [])))
  one_unit j l true h e =
      let a : value_at 0 new.unit_bounds (variable l) ≡ bound = at (variable l) ∙ ap (λ b. cond b bound (value_at 0 old.unit_bounds (variable l))) e in
      ap (λ b. cond b None (Some (l ∷ []))) (ap (nat_lt j) a ∙ lt-ltb j bound h) ∙ sym (unit_gone l (nat_lt j (value_at 0 old.unit_bounds (variable l))) e)
  one_unit j l false h e =
      let a : value_at 0 new.unit_bounds (variable l) ≡ value_at 0 old.unit_bounds (variable l) = at (variable l) ∙ ap (λ b. cond b bound (value_at 0 old.unit_bounds (variable l))) e in
      ap (λ n. cond (nat_lt j n) None (Some (l ∷ []))) a ∙ sym (unit_kept l (nat_lt j (value_at 0 old.unit_bounds (variable l))) e)

  one_clause : (j : ℕ) (o : Option (List ℕ)) → ((c : List ℕ) → o ≡ Some c → j < bound) → unless_stale new.unit_bounds j o ≡ unless_unit_of_variable v (unless_stale old.unit_bounds j o)
  one_clause j (Some (l ∷ [])) h = one_unit j l (eqb (variable l) v) (h (l ∷ []) refl) refl
  one_clause j e h = refl

  within : (x : ℕ) (b : Bool) → eqb x v ≡ b → value_at 0 new.unit_bounds x ≤ bound
  within x true e = let a = at x ∙ ap (λ b. cond b bound (value_at 0 old.unit_bounds x)) e in omega (arith, a)
  within x false e = let a = at x ∙ ap (λ b. cond b bound (value_at 0 old.unit_bounds x)) e in let k = w x in omega (arith, a, k)

  -- a variable becomes new if its bound is raised above all ids
  pub forgets : MakesVariableNew old new v bound
  forgets = record {
    active = record {
      store = subst PresentInvariant (sym p) s.store;
      counted = λ l. u l ∙ ap (λ x. occurrences_of x l) (sym p) ∙ ap (λ b. count_if_counting b (occurrences_of new.present l)) (sym counting);
    };
    present = p;
    unit_bounds = λ x. within x (eqb x v) refl;
    clauses = λ j. ap (λ x. unless_stale new.unit_bounds j (clause_in x j)) p ∙ one_clause j (clause_in old.present j) (λ c e. below_bound old.present bound s.store above j c e);
  }
