-- Units that are checked one by one, without allocating for the earlier ones.
use Rattle.std.proofs.Common.{ℕ, zero, suc, ◌+◌, ◌-◌, ◌*◌, ◌<◌, ◌≤◌, ◌≡◌, ◌↔◌, Bool, true, false, not, ◌&&◌, ◌||◌, cond, eqb, List, [], ◌∷◌, ◌++◌, length, take, drop, get_or, map, refl, sym, ◌∙◌, ap, subst, arith, Result, Ok, Err, IfOk}
use Rattle.std.proofs.lemmas.Bool.{eqb-true, ne_eqb, both_ways}
use Rattle.std.proofs.lemmas.List.{drop_more, take_more, map-append}
use Rattle.std.specs.List.{AllByRecursion}
use Rattle.std.specs.Result.{OnErr}
use Rattle.sat_base.specs.values.Literals.{negated}
use Rattle.sat_checker.specs.LiteralSets.{is_among}
use Rattle.sat_checker.specs.Propagation.{PassesCheck, tautology, unit_true, conflict}
use Rattle.sat_checker.specs.Stored.{Stored, StoredUnit, is_unit, unit_literals, bucket}
use Rattle.sat_checker.specs.Storing.{with_unit, with_contradiction, with_new_unit}
use Rattle.sat_checker.specs.Accepts.{PassesByHashes, UnitsPassInTurn}
use Rattle.sat_checker.specs.inner.InTurn.{with_assumed, is_first_of_variable, AssumesUnits, OtherUnitsPassInTurn}
use Rattle.sat_checker.specs.inner.WalkResults.{AssumesMore}
use Rattle.sat_checker.specs.inner.AssumedRoom.{LiteralsAndRoom, AgreeWithinRoom, HasClausesRoom, HasStoredRoom}
use Rattle.sat_checker.specs.inner.SlotView.{bucket_of, live_clauses}
use Rattle.sat_checker.specs.inner.StoreView.{RepresentsClauses}
use Rattle.sat_checker.specs.inner.UnitView.{UnitsAndRoom}
use Rattle.sat_checker.specs.inner.FormulaView.{HasCheckData}
use Rattle.sat_checker.specs.declared.store.Store.{Store}
use Rattle.sat_checker.specs.declared.formula.Formula.{Formula}
use Rattle.sat_checker.proofs.lemmas.propagation.InRoom.{rule_same}
use Rattle.sat_checker.proofs.lemmas.propagation.Soundness.{negated-negated}
use Rattle.sat_checker.proofs.lemmas.propagation.Walking.{Extends-more}
use Rattle.sat_checker.proofs.lemmas.sets.Order.{among-append}
use Rattle.sat_checker.proofs.lemmas.store.Buckets.{buckets_roomy}
use Rattle.sat_checker.proofs.lemmas.store.Keeping.{bucket_same}

abbrev pub firsts : List (ℕ × ℕ) → List ℕ
firsts us = map (λ u. u.0) us

-- `is_first_of_variable` of the remaining units, given the first of them
pub first_next : (us : List (ℕ × ℕ)) (i : ℕ) (u : ℕ × ℕ) (l : ℕ) → i < length us → u ≡ get_or us i u
    → is_first_of_variable (firsts (drop i us)) l ≡ cond (eqb u.0 l) true (cond (eqb u.0 (negated l)) false (is_first_of_variable (firsts (drop (i + 1) us)) l))
first_next us i u l inside is = ap (λ vs. is_first_of_variable (firsts vs) l) (drop_more us i u inside ∙ ap (λ x. x ∷ drop (i + 1) us) (sym is))

-- `is_first_of_variable` after one more literal is appended
first_more : (ms : List ℕ) (x l : ℕ) → is_first_of_variable (ms ++ x ∷ []) l ≡ cond (is_first_of_variable ms l) true (cond (is_first_of_variable ms (negated l)) false (eqb x l))
first_more [] x l = go (eqb x l) (eqb x (negated l)) refl refl
  where
    go : (b d : Bool) → eqb x l ≡ b → eqb x (negated l) ≡ d → cond b true (cond d false false) ≡ b
    go true d e k = refl
    go false true e k = refl
    go false false e k = refl
first_more (m ∷ ms) x l = go (eqb m l) (eqb m (negated l)) refl (ap (eqb m) (negated-negated l)) (first_more ms x l)
  where
    go : (b d : Bool) → eqb m l ≡ b → eqb m (negated (negated l)) ≡ eqb m l → is_first_of_variable (ms ++ x ∷ []) l ≡ cond (is_first_of_variable ms l) true (cond (is_first_of_variable ms (negated l)) false (eqb x l))
        → cond b true (cond d false (is_first_of_variable (ms ++ x ∷ []) l))
        ≡ cond (cond b true (cond d false (is_first_of_variable ms l))) true (cond (cond d true (cond (eqb m (negated (negated l))) false (is_first_of_variable ms (negated l)))) false (eqb x l))
    go true d e k ih = refl
    go false true e k ih = refl
    go false false e k ih = ih ∙ ap (λ c. cond (is_first_of_variable ms l) true (cond (cond c false (is_first_of_variable ms (negated l))) false (eqb x l))) (sym (k ∙ e))

-- whether a literal is a unit after `x` is added
unit_with : (x l : ℕ) (f : Stored) → is_unit (with_unit x f) l ≡ cond (is_unit f x) (is_unit f l) (cond (is_unit f (negated x)) (is_unit f l) (is_unit f l || eqb x l))
unit_with x l f = go (is_unit f x) (is_unit f (negated x))
  where
    or_false : (b : Bool) → (b || false) ≡ b
    or_false true = refl
    or_false false = refl

    go : (b d : Bool) → is_unit (cond b f (cond d (with_contradiction x f) (with_new_unit x f))) l ≡ cond b (is_unit f l) (cond d (is_unit f l) (is_unit f l || eqb x l))
    go true d = refl
    go false true = refl
    go false false =
        ap (λ ls. is_among ls l) (map-append (λ (u : StoredUnit). u.literal) f.units ((record { id = f.next_id; literal = x }) ∷ []))
        ∙ among-append (unit_literals f) (x ∷ []) l ∙ ap (λ b. is_unit f l || b) (or_false (eqb x l))

-- one more unit is assumed, if there is room for it
module _ (t : LiteralsAndRoom) (before : List ℕ) (f : Stored) (x : ℕ) (s : AssumesUnits t before f) (paired : (l : ℕ) → is_among t.room l ≡ is_among t.room (negated l)) where
  same_room : (l : ℕ) → is_among t.room l ≡ true → is_among (with_assumed x t) l ≡ is_unit (with_unit x f) l
  same_room l r = go (is_among t.room x) refl ∙ sym (unit_with x l f)
    where
      among : (b : Bool) → is_among (cond b (x ∷ t.literals) t.literals) l ≡ cond b (eqb x l || is_among t.literals l) (is_among t.literals l)
      among true = refl
      among false = refl

      comes : (a n c e : Bool) → cond (not a && not n) (e || c) c ≡ cond a c (cond n c (c || e))
      comes true n c e = refl
      comes false true c e = refl
      comes false false true true = refl
      comes false false true false = refl
      comes false false false true = refl
      comes false false false false = refl

      stays : (a n c : Bool) → c ≡ cond a c (cond n c (c || false))
      stays true n c = refl
      stays false true c = refl
      stays false false true = refl
      stays false false false = refl

      other : is_among t.room x ≡ false → eqb x l ≡ false
      other n = ne_eqb x l (λ e. both_ways (is_among t.room x) n (ap (is_among t.room) e ∙ r))

      go : (b : Bool) → is_among t.room x ≡ b → is_among (with_assumed x t) l ≡ cond (is_unit f x) (is_unit f l) (cond (is_unit f (negated x)) (is_unit f l) (is_unit f l || eqb x l))
      go true e =
          ap (λ b. is_among (cond (b && not (is_among t.literals x) && not (is_among t.literals (negated x))) (x ∷ t.literals) t.literals) l) e
          ∙ ap (λ b. is_among (cond (not b && not (is_among t.literals (negated x))) (x ∷ t.literals) t.literals) l) (s.agrees x e)
          ∙ ap (λ b. is_among (cond (not (is_unit f x) && not b) (x ∷ t.literals) t.literals) l) (s.agrees (negated x) (sym (paired x) ∙ e))
          ∙ among (not (is_unit f x) && not (is_unit f (negated x)))
          ∙ ap (λ c. cond (not (is_unit f x) && not (is_unit f (negated x))) (eqb x l || c) c) (s.agrees l r)
          ∙ comes (is_unit f x) (is_unit f (negated x)) (is_unit f l) (eqb x l)
      go false e =
          ap (λ b. is_among (cond (b && not (is_among t.literals x) && not (is_among t.literals (negated x))) (x ∷ t.literals) t.literals) l) e
          ∙ s.agrees l r
          ∙ stays (is_unit f x) (is_unit f (negated x)) (is_unit f l)
          ∙ ap (λ b. cond (is_unit f x) (is_unit f l) (cond (is_unit f (negated x)) (is_unit f l) (is_unit f l || b))) (sym (other e))

  same_others : (l : ℕ) → is_among t.room l ≡ false → is_unit (with_unit x f) l ≡ is_first_of_variable (before ++ x ∷ []) l
  same_others l n =
      unit_with x l f ∙ go (eqb x l) refl
      ∙ ap (λ b. cond b true (cond (is_unit f (negated l)) false (eqb x l))) (s.others l n)
      ∙ ap (λ b. cond (is_first_of_variable before l) true (cond b false (eqb x l))) (s.others (negated l) (sym (paired l) ∙ n))
      ∙ sym (first_more before x l)
    where
      itself : (a m : Bool) → cond a a (cond m a (a || true)) ≡ cond a true (cond m false true)
      itself true m = refl
      itself false true = refl
      itself false false = refl

      another : (a n c m : Bool) → cond a c (cond n c (c || false)) ≡ cond c true (cond m false false)
      another true n true m = refl
      another true n false true = refl
      another true n false false = refl
      another false true true m = refl
      another false true false true = refl
      another false true false false = refl
      another false false true m = refl
      another false false false true = refl
      another false false false false = refl

      go : (e : Bool) → eqb x l ≡ e → cond (is_unit f x) (is_unit f l) (cond (is_unit f (negated x)) (is_unit f l) (is_unit f l || e)) ≡ cond (is_unit f l) true (cond (is_unit f (negated l)) false e)
      go true k =
          let is : x ≡ l = eqb-true x l k in
          ap (λ y. cond (is_unit f y) (is_unit f l) (cond (is_unit f (negated y)) (is_unit f l) (is_unit f l || true))) is ∙ itself (is_unit f l) (is_unit f (negated l))
      go false k = another (is_unit f x) (is_unit f (negated x)) (is_unit f l) (is_unit f (negated l))

  pub assumes_more : AssumesUnits (record t { literals = with_assumed x t }) (before ++ x ∷ []) (with_unit x f)
  assumes_more = record { agrees = same_room; others = same_others }

-- assuming one more unit preserves `AssumesMore`
pub assumed_more : (old mid new : LiteralsAndRoom) (x : ℕ) → AssumesMore old mid → new ≡ record mid { literals = with_assumed x mid } → AssumesMore old new
assumed_more old mid new x h e = subst (AssumesMore old) (sym e) (go (is_among mid.room x && not (is_among mid.literals x) && not (is_among mid.literals (negated x))))
  where
    go : (b : Bool) → AssumesMore old (record mid { literals = cond b (x ∷ mid.literals) mid.literals })
    go true = Extends-more old mid (record mid { literals = x ∷ mid.literals }) x h refl (λ l k. k)
    go false = h

-- A unit passes under literals that agree with the units on the literals that have room, and on itself.
pub agreeing : (room us vs : List ℕ) (l : ℕ) (bs : List (List (List ℕ))) → AllByRecursion (HasClausesRoom room) bs → AgreeWithinRoom room us vs → is_among us l ≡ is_among vs l → PassesCheck us (l ∷ []) bs → PassesCheck vs (l ∷ []) bs
agreeing room us vs l bs roomy same itself (tautology t) = tautology t
agreeing room us vs l bs roomy same itself (unit_true t) = unit_true (ap (λ b. b || false) (sym itself) ∙ t)
agreeing room us vs l bs roomy same itself (conflict k) = conflict (rule_same room (negated l ∷ us) (negated l ∷ vs) bs (λ m r. ap (λ b. eqb (negated l) m || b) (same m r)) roomy k)

-- the check of a unit is exact, unless it was already added without room
module _ (store : Store) (t : LiteralsAndRoom) (before : List ℕ) (l h : ℕ) (e : (not (is_among t.room l) && is_first_of_variable before l) ≡ false) where
  itself : (f : Stored) → AssumesUnits t before f → ((m : ℕ) → is_among t.literals m ≡ true → is_among t.room m ≡ true) → is_among t.literals l ≡ is_unit f l
  itself f s stand = go (is_among t.room l) refl e
    where
      none : (b : Bool) → is_among t.literals l ≡ b → is_among t.room l ≡ false → b ≡ false
      none false k n = refl
      none true k n = absurd (both_ways (is_among t.room l) n (stand l k))

      go : (b : Bool) → is_among t.room l ≡ b → (not b && is_first_of_variable before l) ≡ false → is_among t.literals l ≡ is_unit f l
      go true k i = s.agrees l k
      go false k i = none (is_among t.literals l) refl k ∙ sym i ∙ sym (s.others l k)

  pub unit_exact : {E : Type 0} (r : Result Bool E) → ((m : ℕ) → is_among t.literals m ≡ true → is_among t.room m ≡ true)
      → IfOk r (λ yes'. HasStoredRoom t.room (live_clauses store.clauses) → (yes' ≡ true) ↔ PassesCheck t.literals (l ∷ []) (map (bucket_of store.clauses) (h ∷ [])))
      → IfOk r (λ yes'. (f : Stored) → RepresentsClauses store f → HasStoredRoom t.room f.clauses → AssumesUnits t before f → (yes' ≡ true) ↔ PassesByHashes f (l ∷ []) (h ∷ []))
  unit_exact (Err x) stand k = tt
  unit_exact (Ok b) stand k = λ f c r s.
      let stored = subst (HasStoredRoom t.room) (sym c.clauses) r in
      let exact = k stored in
      let roomy = buckets_roomy t.room (h ∷ []) store.clauses stored in
      let same : map (bucket_of store.clauses) (h ∷ []) ≡ map (bucket f) (h ∷ []) = ap (λ x. x ∷ []) (bucket_same store f c h) in
      let is = itself f s stand in (
        (λ y. subst (PassesCheck (unit_literals f) (l ∷ [])) same (agreeing t.room t.literals (unit_literals f) l (map (bucket_of store.clauses) (h ∷ [])) roomy s.agrees is (exact.0 y))),
        (λ p. exact.1 (agreeing t.room (unit_literals f) t.literals l (map (bucket_of store.clauses) (h ∷ [])) roomy (λ m n. sym (s.agrees m n)) (sym is) (subst (PassesCheck (unit_literals f) (l ∷ [])) (sym same) p))),
      )

-- the clauses after a unit is added
kept_with : (store : Store) (x : ℕ) (f : Stored) → RepresentsClauses store f → RepresentsClauses store (with_unit x f)
kept_with store x f k = go (is_unit f x) (is_unit f (negated x))
  where
    go : (b d : Bool) → RepresentsClauses store (cond b f (cond d (with_contradiction x f) (with_new_unit x f)))
    go true d = k
    go false true = record { clauses = k.clauses; hashed = k.hashed; names = k.names; width = k.width }
    go false false = record { clauses = k.clauses; hashed = k.hashed; names = k.names; width = k.width }

roomy_with : (room : List ℕ) (x : ℕ) (f : Stored) → HasStoredRoom room f.clauses → HasStoredRoom room (with_unit x f).clauses
roomy_with room x f h = go (is_unit f x) (is_unit f (negated x))
  where
    go : (b d : Bool) → HasStoredRoom room (cond b f (cond d (with_contradiction x f) (with_new_unit x f))).clauses
    go true d = h
    go false true = h
    go false false = h

-- The units before index `i` were added, the unit at `i` passed, and the later units remain.
pub record Passing (store : Store) (room : List ℕ) (f : Stored) (all : List (ℕ × ℕ)) (i : ℕ) (trail : LiteralsAndRoom) : Type 0 where
  pub now : Stored
  pub kept : RepresentsClauses store now
  pub roomy : HasStoredRoom room now.clauses
  pub assumes : AssumesUnits trail (firsts (take i all)) now
  pub on : OtherUnitsPassInTurn now (drop i all) → OtherUnitsPassInTurn f all
  pub back : OtherUnitsPassInTurn f all → OtherUnitsPassInTurn now (drop i all)

-- no unit was added yet
pub passing_none : (store : Store) (trail : LiteralsAndRoom) (f : Stored) (all : List (ℕ × ℕ)) → ((l : ℕ) → is_among trail.literals l ≡ true → is_among trail.room l ≡ true) → RepresentsClauses store f → ((l : ℕ) → is_among trail.literals l ≡ is_unit f l)
    → HasStoredRoom trail.room f.clauses → Passing store trail.room f all 0 trail
passing_none store trail f all stand k is h = record {
  now = f;
  kept = k;
  roomy = h;
  assumes = record { agrees = λ l r. is l; others = λ l n. sym (is l) ∙ none l n (is_among trail.literals l) refl };
  on = λ p. p;
  back = λ p. p;
}
  where
    none : (l : ℕ) → is_among trail.room l ≡ false → (b : Bool) → is_among trail.literals l ≡ b → b ≡ false
    none l n false e = refl
    none l n true e = absurd (both_ways (is_among trail.room l) n (stand l e))

-- the unit at `i` is added, and the next one is checked
module _ (store : Store) (room : List ℕ) (f : Stored) (all : List (ℕ × ℕ)) (i place : ℕ) (trail : LiteralsAndRoom) (u v : ℕ × ℕ) (some : i + 1 ≡ place) (inside : place < length all) (is : u ≡ get_or all i u) (next : v ≡ get_or all place v)
    (p : Passing store room f all i trail) where
  abbrev pub following : Stored
  following = with_unit u.0 p.now

  first_split : drop i all ≡ u ∷ drop place all
  first_split = drop_more all i u (omega arith) ∙ ap (λ x. x ∷ drop (i + 1) all) (sym is) ∙ ap (λ j. u ∷ drop j all) some

  next_split : drop place all ≡ v ∷ drop (place + 1) all
  next_split = drop_more all place v inside ∙ ap (λ x. x ∷ drop (place + 1) all) (sym next)

  extended : firsts (take place all) ≡ firsts (take i all) ++ u.0 ∷ []
  extended = ap (λ j. firsts (take j all)) (sym some) ∙ ap firsts (take_more all i u (omega arith) ∙ ap (λ x. take i all ++ x ∷ []) (sym is)) ∙ map-append (λ (w : ℕ × ℕ). w.0) (take i all) (u ∷ [])

  -- the next unit is checked under the literals that are then assumed
  module _ (new : LiteralsAndRoom) (same : trail.room ≡ room) (paired : (l : ℕ) → is_among room l ≡ is_among room (negated l)) (e : new ≡ record trail { literals = with_assumed u.0 trail }) where
    after_assumes : AssumesUnits new (firsts (take place all)) following
    after_assumes =
        subst (λ t. AssumesUnits t (firsts (take place all)) following) (sym e) (subst (λ ls. AssumesUnits (record trail { literals = with_assumed u.0 trail }) ls following) (sym extended)
        (assumes_more trail (firsts (take i all)) p.now u.0 p.assumes (subst (λ r. (l : ℕ) → is_among r l ≡ is_among r (negated l)) (sym same) paired)))

    pub after_judged : (before : List (ℕ × ℕ)) → before ≡ take place all → (b : Bool) → ((g : Stored) → RepresentsClauses store g → HasStoredRoom new.room g.clauses → AssumesUnits new (firsts before) g → (b ≡ true) ↔ PassesByHashes g (v.0 ∷ []) (v.1 ∷ []))
        → (b ≡ true) ↔ PassesByHashes following (v.0 ∷ []) (v.1 ∷ [])
    after_judged before front b exact =
        exact following (kept_with store u.0 p.now p.kept) (subst (λ r. HasStoredRoom r following.clauses) (sym (ap (λ (t : LiteralsAndRoom). t.room) e ∙ same)) (roomy_with room u.0 p.now p.roomy))
        (subst (λ us. AssumesUnits new (firsts us) following) (sym front) after_assumes)

    pub after_passing : (j : ℕ) → j ≡ place → (more : LiteralsAndRoom) → more ≡ new → PassesByHashes following (v.0 ∷ []) (v.1 ∷ []) → Passing store room f all j more
    after_passing j k more m q = subst (λ n. Passing store room f all n more) (sym k) (record {
      now = following;
      kept = kept_with store u.0 p.now p.kept;
      roomy = roomy_with room u.0 p.now p.roomy;
      assumes = subst (λ t. AssumesUnits t (firsts (take place all)) following) (sym m) after_assumes;
      on = λ r. p.on (subst (OtherUnitsPassInTurn p.now) (sym first_split) (subst (UnitsPassInTurn following) (sym next_split) (q, subst (OtherUnitsPassInTurn following) next_split r)));
      back = λ r. subst (OtherUnitsPassInTurn following) (sym next_split) (subst (UnitsPassInTurn following) next_split (subst (OtherUnitsPassInTurn p.now) first_split (p.back r))).1;
    })

  pub following_refused : (PassesByHashes following (v.0 ∷ []) (v.1 ∷ []) → ⊥) → OtherUnitsPassInTurn f all → ⊥
  following_refused n r = n (subst (UnitsPassInTurn following) next_split (subst (OtherUnitsPassInTurn p.now) first_split (p.back r))).0

-- no unit remains
pub passing_all : (store : Store) (room : List ℕ) (f : Stored) (all : List (ℕ × ℕ)) (i : ℕ) (trail : LiteralsAndRoom) → length all ≤ i + 1 → Passing store room f all i trail → OtherUnitsPassInTurn f all
passing_all store room f all i trail l p = p.on (rest p.now all i l)
  where
    rest : (g : Stored) (us : List (ℕ × ℕ)) (j : ℕ) → length us ≤ j + 1 → OtherUnitsPassInTurn g (drop j us)
    rest g [] zero l = tt
    rest g [] (suc j) l = tt
    rest g (u ∷ []) zero l = tt
    rest g (u ∷ v ∷ us) zero l = absurd (omega arith)
    rest g (u ∷ us) (suc j) l = rest g us j (omega arith)

-- the looks for the units so far
pub looks_then : (old looks new p n : ℕ) → 1 ≤ p → looks ≤ old + (p - 1) * n → new ≤ looks + n → new ≤ old + (p + 1 - 1) * n
looks_then old looks new p n l h k = let e : (p + 1 - 1) * n ≡ (p - 1) * n + n = ap (λ q. q * n) (let d : p + 1 - 1 ≡ suc (p - 1) = omega arith in d) ∙ (let g : suc (p - 1) * n ≡ (p - 1) * n + n = grind arith in g) in omega arith

pub looks_end : (old looks p m n : ℕ) → p - 1 ≤ m - 1 → looks ≤ old + (p - 1) * n → looks ≤ old + (m - 1) * n
looks_end old looks p m n l h = let e : (p - 1) * n ≤ (m - 1) * n = grind arith in omega arith

-- the result for units with these literals, whatever their ids
pub passed_units : {E : Type 0} (r : Result Bool E) (store : Store) (value : UnitsAndRoom) (trail : LiteralsAndRoom) (units : List (ℕ × ℕ)) → ((l : ℕ) → is_among trail.literals l ≡ is_among (map (λ u. u.literal) value.units) l) → trail.room ≡ value.room
    → IfOk r (λ b. (f : Stored) → RepresentsClauses store f → ((l : ℕ) → is_among trail.literals l ≡ is_unit f l) → HasStoredRoom trail.room f.clauses → (b ≡ true) ↔ OtherUnitsPassInTurn f units)
    → IfOk r (λ b. (f : Stored) → RepresentsClauses store f → map (λ u. u.literal) value.units ≡ unit_literals f → HasStoredRoom value.room f.clauses → (b ≡ true) ↔ OtherUnitsPassInTurn f units)
passed_units (Ok b) store value trail units same room h = λ f k u r. h f k (λ l. same l ∙ ap (λ ls. is_among ls l) u) (subst (λ x. HasStoredRoom x f.clauses) (sym room) r)
passed_units (Err e) store value trail units same room h = tt

pub short_units : {E : Type 0} (r : Result Bool E) (store : Store) (old new : List ℕ) → old ≡ new → OnErr r ((f : Stored) → RepresentsClauses store f → HasStoredRoom old f.clauses → ⊥) → OnErr r ((f : Stored) → RepresentsClauses store f → HasStoredRoom new f.clauses → ⊥)
short_units r store old new e h = subst (λ x. OnErr r ((f : Stored) → RepresentsClauses store f → HasStoredRoom x f.clauses → ⊥)) e h

-- the result for every state for which `HasCheckData` holds
pub passed_as : {E : Type 0} (r : Result Bool E) (F : Formula) (units : List (ℕ × ℕ))
    → IfOk r (λ b. (f : Stored) → RepresentsClauses F.store f → map (λ u. u.literal) F.units.units ≡ unit_literals f → HasStoredRoom F.units.room f.clauses → (b ≡ true) ↔ OtherUnitsPassInTurn f units)
    → IfOk r (λ b. (f : Stored) → HasCheckData F f → (b ≡ true) ↔ OtherUnitsPassInTurn f units)
passed_as (Ok b) F units h = λ f a. h f a.clauses a.units a.room
passed_as (Err e) F units h = tt
