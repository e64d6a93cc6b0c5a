-- What the checker stores, and what is present after the lines that it announced.
use Rattle.std.proofs.Common.{ℕ, ◌+◌, ◌<◌, ◌≤◌, ◌≡◌, ◌⊎◌, inl, inr, Bool, true, false, ◌||◌, cond, eqb, is_some, List, [], ◌∷◌, ◌++◌, map, Option, None, Some, refl, sym, ◌∙◌, ap, subst, arith}
use Rattle.std.proofs.lemmas.Bool.{eqb-true, eq-eqb, ne_eqb, true≢false}
use Rattle.std.specs.List.{AllByRecursion}
use Rattle.sat_base.specs.values.Literals.{negated}
use Rattle.sat_checker.specs.LiteralSets.{is_among, canonical, same_literals}
use Rattle.sat_checker.specs.Stored.{StoredClause, StoredUnit, Stored, is_unit}
use Rattle.sat_checker.specs.Storing.{with_count, with_stored_clause, clause_with, unit_id, first_conflict, with_contradiction, with_new_unit, with_long_clause, with_sorted_set, new_clause}
use Rattle.sat_checker.specs.announcements.Announcements.{Announcement, id_of, id_of_set, Notice, notices_of}
use Rattle.sat_checker.specs.announcements.Promises.{IsOneOf}
use Rattle.sat_checker.proofs.lemmas.propagation.Soundness.{negated-negated}
use Rattle.sat_hints.specs.Lines.{Line, Input, Derived, Removed, Core, Fresh}
use Rattle.sat_hints.specs.Hints.{clause_under, least_id, is_long, FollowsLines, IsHintDerivation}
use Rattle.sat_hints.specs.Conversion.{announced_line, with_line, announced_lines}
use Rattle.sat_hints.proofs.lemmas.Sound.{still}

-- LINES OF ANNOUNCEMENTS
-- after earlier lines
abbrev pub lines_by : List Announcement → List Line → List Line
lines_by [] earlier = earlier
lines_by (a ∷ more) earlier = lines_by more (with_line (announced_line a) earlier)

-- the lines of notices are those of their announcements
pub reported_lines : (f : Stored) (xs : List Announcement) (earlier : List Line) → announced_lines (notices_of f xs) earlier ≡ lines_by xs earlier
reported_lines f [] earlier = refl
reported_lines f (a ∷ xs) earlier = reported_lines f xs (with_line (announced_line a) earlier)

pub lines-append : (xs ys : List Notice) (earlier : List Line) → announced_lines (xs ++ ys) earlier ≡ announced_lines ys (announced_lines xs earlier)
lines-append [] ys earlier = refl
lines-append (x ∷ xs) ys earlier = lines-append xs ys (with_line (announced_line x.announcement) earlier)

pub by-append : (xs ys : List Announcement) (earlier : List Line) → lines_by (xs ++ ys) earlier ≡ lines_by ys (lines_by xs earlier)
by-append [] ys earlier = refl
by-append (x ∷ xs) ys earlier = by-append xs ys (with_line (announced_line x) earlier)

-- LISTS
pub each_more : {A : Type 0} (P Q : A → Type 0) → ((x : A) → P x → Q x) → (xs : List A) → AllByRecursion P xs → AllByRecursion Q xs
each_more P Q w [] h = tt
each_more P Q w (x ∷ xs) h = (w x h.0, each_more P Q w xs h.1)

-- what holds for each holds for one of them
pub one_each : {A : Type 0} (P : A → Type 0) (x : A) (xs : List A) → AllByRecursion P xs → IsOneOf x xs → P x
one_each P x [] h k = absurd k
one_each P x (y ∷ ys) h k = elim k [ inl e ↦ subst P (sym e) h.0 | inr m ↦ one_each P x ys h.1 m ]

pub each_push : {A : Type 0} (P : A → Type 0) (xs : List A) (x : A) → AllByRecursion P xs → P x → AllByRecursion P (xs ++ x ∷ [])
each_push P [] x h k = (k, tt)
each_push P (y ∷ ys) x h k = (h.0, each_push P ys x h.1 k)

-- WHAT IS PRESENT
abbrev pub IsUnder : List Line → ℕ → List ℕ → Type 0
IsUnder lines id c = clause_under id lines ≡ Some c

-- a clause of these literals is stored under the id
pub record HasAccepted (id : ℕ) (c : List ℕ) (cs : List StoredClause) : Type 0 where
  pub clause : StoredClause
  pub stored : IsOneOf clause cs
  pub id_is : clause.id ≡ id
  pub literals_are : clause.literals ≡ c

-- `Mirrors f lines` holds if the lines are a derivation, and what is stored is present. A clause of two or more
-- literals is present only if it is stored.
pub record Mirrors (f : Stored) (lines : List Line) : Type 0 where
  pub derivation : IsHintDerivation lines
  pub clauses : AllByRecursion (λ c. IsUnder lines c.id c.literals) f.clauses
  pub units : AllByRecursion (λ u. IsUnder lines u.id (u.literal ∷ [])) f.units
  pub long : (id : ℕ) (c : List ℕ) → IsUnder lines id c → is_long c ≡ true → HasAccepted id c f.clauses
  pub least : least_id lines ≤ f.next_id
  pub conflict : (ids : ℕ × ℕ) → f.conflict ≡ Some ids → (l : ℕ) × IsUnder lines ids.0 (l ∷ []) × IsUnder lines ids.1 (negated l ∷ [])

-- other fields do not matter
pub aside : (f g : Stored) (lines : List Line) → g.clauses ≡ f.clauses → g.units ≡ f.units → g.conflict ≡ f.conflict → f.next_id ≤ g.next_id → Mirrors f lines → Mirrors g lines
aside f g lines c u k n m = record {
  derivation = m.derivation;
  clauses = subst (AllByRecursion (λ c. IsUnder lines c.id c.literals)) (sym c) m.clauses;
  units = subst (AllByRecursion (λ u. IsUnder lines u.id (u.literal ∷ []))) (sym u) m.units;
  long = λ id d e l. subst (HasAccepted id d) (sym c) (m.long id d e l);
  least = (let l = m.least in omega (arith, l, n));
  conflict = λ ids e. m.conflict ids (sym k ∙ e);
}

-- every id that is present is below the least next id
pub under_below : (lines : List Line) → IsHintDerivation lines → (id : ℕ) (c : List ℕ) → IsUnder lines id c → id < least_id lines
under_below [] d id c e = absurd cc
under_below (Input i ls ∷ lines) d id c e = go (eqb id i) refl (under_below lines d.0 id c) e
  where
    go : (b : Bool) → eqb id i ≡ b → (clause_under id lines ≡ Some c → id < least_id lines) → cond b (Some (canonical ls)) (clause_under id lines) ≡ Some c → id < i + 1
    go true s ih e = let k = eqb-true id i s in omega (arith, k)
    go false s ih e = let k = ih e in let o = d.1.in_order in omega (arith, k, o)
under_below (Derived i ls ids ∷ lines) d id c e = go (eqb id i) refl (under_below lines d.0 id c) e
  where
    go : (b : Bool) → eqb id i ≡ b → (clause_under id lines ≡ Some c → id < least_id lines) → cond b (Some (canonical ls)) (clause_under id lines) ≡ Some c → id < i + 1
    go true s ih e = let k = eqb-true id i s in omega (arith, k)
    go false s ih e = let k = ih e in let o = d.1.in_order in omega (arith, k, o)
under_below (Removed i ∷ lines) d id c e = go (eqb id i) (under_below lines d.0 id c) e
  where
    go : (b : Bool) → (clause_under id lines ≡ Some c → id < least_id lines) → cond b None (clause_under id lines) ≡ Some c → id < least_id lines
    go true ih e = absurd cc
    go false ih e = ih e
under_below (Core ls ids ∷ lines) d id c e = under_below lines d.0 id c e
under_below (Fresh v ∷ lines) d id c e = under_below lines d.0 id c (still v (clause_under id lines) c e).0

-- A NEW CLAUSE
pub record NewLine (line : Line) (n : ℕ) (set : List ℕ) (lines : List Line) : Type 0 where
  pub follows : FollowsLines lines line
  pub before : least_id lines ≤ n
  pub under : (id : ℕ) → clause_under id (line ∷ lines) ≡ cond (eqb id n) (Some set) (clause_under id lines)
  pub least : least_id (line ∷ lines) ≡ n + 1

pub new_input : (n : ℕ) (set : List ℕ) (lines : List Line) → canonical set ≡ set → least_id lines ≤ n → NewLine (Input n set) n set lines
new_input n set lines c l = record {
  follows = record { in_order = l; clauses = []; present = refl; conflict = tt; unused = λ u. u };
  before = l;
  under = λ id. ap (λ x. cond (eqb id n) (Some x) (clause_under id lines)) c;
  least = refl;
}

-- a literal that is not stored as a unit is in no stored unit
unit_absent : (l : ℕ) (us : List StoredUnit) → unit_id l us ≡ None → is_among (map (λ u. u.literal) us) l ≡ false
unit_absent l [] e = refl
unit_absent l (u ∷ us) e = go (unit_absent l us) (eqb u.literal l) e
  where
    go : (unit_id l us ≡ None → is_among (map (λ w. w.literal) us) l ≡ false) → (b : Bool) → cond b (Some u.id) (unit_id l us) ≡ None → (b || is_among (map (λ w. w.literal) us) l) ≡ false
    go ih true k = absurd cc
    go ih false k = ih k

unit_there : (l id : ℕ) (us : List StoredUnit) → unit_id l us ≡ Some id → is_among (map (λ u. u.literal) us) l ≡ true
unit_there l id [] e = absurd cc
unit_there l id (u ∷ us) e = go (unit_there l id us) (eqb u.literal l) e
  where
    go : (unit_id l us ≡ Some id → is_among (map (λ w. w.literal) us) l ≡ true) → (b : Bool) → cond b (Some u.id) (unit_id l us) ≡ Some id → (b || is_among (map (λ w. w.literal) us) l) ≡ true
    go ih true k = refl
    go ih false k = ih k

-- the unit under an id
unit_under : (lines : List Line) (l id : ℕ) (us : List StoredUnit) → unit_id l us ≡ Some id → AllByRecursion (λ u. IsUnder lines u.id (u.literal ∷ [])) us → IsUnder lines id (l ∷ [])
unit_under lines l id [] e h = absurd cc
unit_under lines l id (u ∷ us) e h = go (λ k. unit_under lines l id us k h.1) (eqb u.literal l) refl e
  where
    go : (unit_id l us ≡ Some id → IsUnder lines id (l ∷ [])) → (b : Bool) → eqb u.literal l ≡ b → cond b (Some u.id) (unit_id l us) ≡ Some id → IsUnder lines id (l ∷ [])
    go ih true s k =
        let i : u.id ≡ id = cc in
        subst (λ x. IsUnder lines x (l ∷ [])) i (subst (λ x. IsUnder lines u.id (x ∷ [])) (eqb-true u.literal l s) h.0)
    go ih false s k = ih k

clause_absent : (x : Option StoredClause) → id_of x ≡ None → x ≡ None
clause_absent None e = refl
clause_absent (Some c) e = absurd cc

-- a clause of two or more literals is added at the end, or gets one more count
stands_more : (r : Bool) (n : ℕ) (ls : List ℕ) (id : ℕ) (d : List ℕ) (cs : List StoredClause) → (s : StoredClause) → IsOneOf s cs → s.id ≡ id → s.literals ≡ d → HasAccepted id d (with_stored_clause r n ls cs)
stands_more r n ls id d [] s h i e = absurd h
stands_more r n ls id d (c ∷ cs) s h i e = elim h [
  | inl k ↦ here (same_literals c.literals ls) r k
  | inr k ↦ later (stands_more r n ls id d cs s k i e) (same_literals c.literals ls) k
]
  where
    here : (b r : Bool) → s ≡ c → HasAccepted id d (cond b (with_count r c ∷ cs) (c ∷ with_stored_clause r n ls cs))
    here true true k = record { clause = with_count true c; stored = inl refl; id_is = ap (λ x. x.id) (sym k) ∙ i; literals_are = ap (λ x. x.literals) (sym k) ∙ e }
    here true false k = record { clause = with_count false c; stored = inl refl; id_is = ap (λ x. x.id) (sym k) ∙ i; literals_are = ap (λ x. x.literals) (sym k) ∙ e }
    here false true k = record { clause = c; stored = inl refl; id_is = ap (λ x. x.id) (sym k) ∙ i; literals_are = ap (λ x. x.literals) (sym k) ∙ e }
    here false false k = record { clause = c; stored = inl refl; id_is = ap (λ x. x.id) (sym k) ∙ i; literals_are = ap (λ x. x.literals) (sym k) ∙ e }

    later : HasAccepted id d (with_stored_clause r n ls cs) → (b : Bool) → IsOneOf s cs → HasAccepted id d (cond b (with_count r c ∷ cs) (c ∷ with_stored_clause r n ls cs))
    later ih true k = record { clause = s; stored = inr k; id_is = i; literals_are = e }
    later ih false k = record { clause = ih.clause; stored = inr ih.stored; id_is = ih.id_is; literals_are = ih.literals_are }

stands_new : (r : Bool) (n : ℕ) (ls : List ℕ) (cs : List StoredClause) → clause_with ls cs ≡ None → HasAccepted n ls (with_stored_clause r n ls cs)
stands_new true n ls [] e = record { clause = new_clause true n ls; stored = inl refl; id_is = refl; literals_are = refl }
stands_new false n ls [] e = record { clause = new_clause false n ls; stored = inl refl; id_is = refl; literals_are = refl }
stands_new r n ls (c ∷ cs) e = go (stands_new r n ls cs) (same_literals c.literals ls) e
  where
    go : (clause_with ls cs ≡ None → HasAccepted n ls (with_stored_clause r n ls cs)) → (b : Bool) → cond b (Some c) (clause_with ls cs) ≡ None → HasAccepted n ls (cond b (with_count r c ∷ cs) (c ∷ with_stored_clause r n ls cs))
    go ih true k = absurd cc
    go ih false k = let s = ih k in record { clause = s.clause; stored = inr s.stored; id_is = s.id_is; literals_are = s.literals_are }

module _ (lines : List Line) where
  abbrev AreUnder : List StoredClause → Type 0
  AreUnder = AllByRecursion (λ c. IsUnder lines c.id c.literals)

  counted_under : (r : Bool) (c : StoredClause) → IsUnder lines c.id c.literals → IsUnder lines (with_count r c).id (with_count r c).literals
  counted_under true c h = h
  counted_under false c h = h

  -- one more clause, which is under its id if it is new
  under_with : (r : Bool) (n : ℕ) (ls : List ℕ) (cs : List StoredClause) → (clause_with ls cs ≡ None → IsUnder lines n ls) → AreUnder cs → AreUnder (with_stored_clause r n ls cs)
  under_with true n ls [] new h = (new refl, tt)
  under_with false n ls [] new h = (new refl, tt)
  under_with r n ls (c ∷ cs) new h = go (λ k. under_with r n ls cs k h.1) (same_literals c.literals ls) new
    where
      go : ((clause_with ls cs ≡ None → IsUnder lines n ls) → AreUnder (with_stored_clause r n ls cs)) → (b : Bool) → (cond b (Some c) (clause_with ls cs) ≡ None → IsUnder lines n ls) → AreUnder (cond b (with_count r c ∷ cs) (c ∷ with_stored_clause r n ls cs))
      go ih true k = (counted_under r c h.0, h.1)
      go ih false k = (h.0, ih k)

-- storing a clause again does not change what is present
long_same : (r : Bool) (ls : List ℕ) (f : Stored) (lines : List Line) (id : ℕ) → id_of (clause_with ls f.clauses) ≡ Some id → Mirrors f lines → Mirrors (with_long_clause r ls f) lines
long_same r ls f lines id e m = record {
  derivation = m.derivation;
  clauses = under_with lines r f.next_id ls f.clauses (λ n. absurd (let k : ◌≡◌ {A = Option ℕ} None (Some id) = ap id_of (sym n) ∙ e in cc)) m.clauses;
  units = m.units;
  long = λ i c u l. let s = m.long i c u l in stands_more r f.next_id ls i c f.clauses s.clause s.stored s.id_is s.literals_are;
  least = let k = m.least in go (is_some (clause_with ls f.clauses)) k;
  conflict = m.conflict;
}
  where
    go : (b : Bool) → least_id lines ≤ f.next_id → least_id lines ≤ cond b f.next_id (f.next_id + 1)
    go true k = k
    go false k = omega (arith, k)

-- lines and store still agree after a clause that is stored already
pub set_same : (r : Bool) (ls : List ℕ) (f : Stored) (lines : List Line) (id : ℕ) → id_of_set ls f ≡ Some id → Mirrors f lines → Mirrors (with_sorted_set r ls f) lines
set_same r [] f lines id e m = absurd cc
set_same r (l ∷ []) f lines id e m = subst (λ b. Mirrors (cond b f (cond (is_unit f (negated l)) (with_contradiction l f) (with_new_unit l f))) lines) (sym (unit_there l id f.units e)) m
set_same r (l ∷ k ∷ ls) f lines id e m = long_same r (l ∷ k ∷ ls) f lines id e m

-- a new clause has its own line
module _ (line : Line) (set : List ℕ) (f : Stored) (lines : List Line) (new : NewLine line f.next_id set lines) (m : Mirrors f lines) where
  kept : (id : ℕ) (c : List ℕ) → IsUnder lines id c → IsUnder (line ∷ lines) id c
  kept id c e =
      let k = under_below lines m.derivation id c e in
      let b = new.before in
      new.under id ∙ ap (λ t. cond t (Some set) (clause_under id lines)) (ne_eqb id f.next_id (λ s. omega (arith, k, b, s))) ∙ e

  here : IsUnder (line ∷ lines) f.next_id set
  here = new.under f.next_id ∙ ap (λ t. cond t (Some set) (clause_under f.next_id lines)) (eq-eqb f.next_id f.next_id refl)

  split : (id : ℕ) (c : List ℕ) → IsUnder (line ∷ lines) id c → ((id ≡ f.next_id) × (set ≡ c)) ⊎ IsUnder lines id c
  split id c e = go (eqb id f.next_id) refl (sym (new.under id) ∙ e)
    where
      go : (b : Bool) → eqb id f.next_id ≡ b → cond b (Some set) (clause_under id lines) ≡ Some c → ((id ≡ f.next_id) × (set ≡ c)) ⊎ IsUnder lines id c
      go true s k = inl (eqb-true id f.next_id s, (let x : set ≡ c = cc in x))
      go false s k = inr k

  clauses_kept : AllByRecursion (λ c. IsUnder (line ∷ lines) c.id c.literals) f.clauses
  clauses_kept = each_more (λ (c : StoredClause). IsUnder lines c.id c.literals) (λ (c : StoredClause). IsUnder (line ∷ lines) c.id c.literals) (λ c. kept c.id c.literals) f.clauses m.clauses

  units_kept : AllByRecursion (λ u. IsUnder (line ∷ lines) u.id (u.literal ∷ [])) f.units
  units_kept = each_more (λ (u : StoredUnit). IsUnder lines u.id (u.literal ∷ [])) (λ (u : StoredUnit). IsUnder (line ∷ lines) u.id (u.literal ∷ [])) (λ u. kept u.id (u.literal ∷ [])) f.units m.units

  conflict_kept : (ids : ℕ × ℕ) → f.conflict ≡ Some ids → (l : ℕ) × IsUnder (line ∷ lines) ids.0 (l ∷ []) × IsUnder (line ∷ lines) ids.1 (negated l ∷ [])
  conflict_kept ids e = let k = m.conflict ids e in (k.0, kept ids.0 (k.0 ∷ []) k.1, kept ids.1 (negated k.0 ∷ []) k.2)

  long_kept : is_long set ≡ false → (id : ℕ) (c : List ℕ) → IsUnder (line ∷ lines) id c → is_long c ≡ true → HasAccepted id c f.clauses
  long_kept short id c e l = elim (split id c e) [
    | inl s ↦ absurd (true≢false (sym l ∙ ap is_long (sym s.1) ∙ short))
    | inr k ↦ m.long id c k l
  ]

  least_kept : least_id (line ∷ lines) ≤ f.next_id + 1
  least_kept = let l = new.least in omega (arith, l)

  -- a new clause of fewer than two literals, if only the next id and `unsat` change
  pub empty_new : is_long set ≡ false → (g : Stored) → g.clauses ≡ f.clauses → g.units ≡ f.units → g.conflict ≡ f.conflict → g.next_id ≡ f.next_id + 1 → Mirrors g (line ∷ lines)
  empty_new short g c u k n = record {
    derivation = (m.derivation, new.follows);
    clauses = subst (AllByRecursion (λ c. IsUnder (line ∷ lines) c.id c.literals)) (sym c) clauses_kept;
    units = subst (AllByRecursion (λ u. IsUnder (line ∷ lines) u.id (u.literal ∷ []))) (sym u) units_kept;
    long = λ id d e l. subst (HasAccepted id d) (sym c) (long_kept short id d e l);
    least = let l = least_kept in omega (arith, l, n);
    conflict = λ ids e. conflict_kept ids (sym k ∙ e);
  }

  against : (l : ℕ) → set ≡ l ∷ [] → Mirrors (with_contradiction l f) (line ∷ lines)
  against l s = record {
    derivation = (m.derivation, new.follows);
    clauses = clauses_kept;
    units = units_kept;
    long = long_kept (ap is_long s);
    least = least_kept;
    conflict = go f.conflict refl (unit_id (negated l) f.units) refl;
  }
    where
      go : (x : Option (ℕ × ℕ)) → f.conflict ≡ x → (y : Option ℕ) → unit_id (negated l) f.units ≡ y → (ids : ℕ × ℕ) → first_conflict x y f.next_id ≡ Some ids → (k : ℕ) × IsUnder (line ∷ lines) ids.0 (k ∷ []) × IsUnder (line ∷ lines) ids.1 (negated k ∷ [])
      go (Some pending) e y h ids k = conflict_kept ids (e ∙ k)
      go None e None h ids k = absurd cc
      go None e (Some id) h ids k =
          let is : (id, f.next_id) ≡ ids = cc in
          subst (λ (p : ℕ × ℕ). (k : ℕ) × IsUnder (line ∷ lines) p.0 (k ∷ []) × IsUnder (line ∷ lines) p.1 (negated k ∷ [])) is
          (negated l, kept id (negated l ∷ []) (unit_under lines (negated l) id f.units h m.units), here ∙ ap Some (s ∙ ap (λ x. x ∷ []) (sym (negated-negated l))))

  unit_new : (l : ℕ) → set ≡ l ∷ [] → Mirrors (with_new_unit l f) (line ∷ lines)
  unit_new l s = record {
    derivation = (m.derivation, new.follows);
    clauses = clauses_kept;
    units = each_push (λ (u : StoredUnit). IsUnder (line ∷ lines) u.id (u.literal ∷ [])) f.units (record { id = f.next_id; literal = l }) units_kept (here ∙ ap Some s);
    long = long_kept (ap is_long s);
    least = least_kept;
    conflict = conflict_kept;
  }

  long_new : (r : Bool) → clause_with set f.clauses ≡ None → Mirrors (with_long_clause r set f) (line ∷ lines)
  long_new r e = record {
    derivation = (m.derivation, new.follows);
    clauses = under_with (line ∷ lines) r f.next_id set f.clauses (λ n. here) clauses_kept;
    units = units_kept;
    long = λ id c u l. elim (split id c u) [
      | inl k ↦ subst (λ i. HasAccepted i c (with_stored_clause r f.next_id set f.clauses)) (sym k.0) (subst (λ d. HasAccepted f.next_id d (with_stored_clause r f.next_id set f.clauses)) k.1 (stands_new r f.next_id set f.clauses e))
      | inr k ↦ let s = m.long id c k l in stands_more r f.next_id set id c f.clauses s.clause s.stored s.id_is s.literals_are
    ];
    least = let l = least_kept in subst (λ b. least_id (line ∷ lines) ≤ cond b f.next_id (f.next_id + 1)) (sym (ap is_some e)) l;
    conflict = conflict_kept;
  }

-- lines and store still agree after a new clause and its line
pub set_new : (r : Bool) (set : List ℕ) (f : Stored) (lines : List Line) (line : Line) → id_of_set set f ≡ None → NewLine line f.next_id set lines → Mirrors f lines → Mirrors (with_sorted_set r set f) (line ∷ lines)
set_new r [] f lines line e new m = empty_new line [] f lines new m refl (with_sorted_set r [] f) refl refl refl refl
set_new r (l ∷ []) f lines line e new m = subst (λ b. Mirrors (cond b f (cond (is_unit f (negated l)) (with_contradiction l f) (with_new_unit l f))) (line ∷ lines)) (sym (unit_absent l f.units e)) (go (is_unit f (negated l)))
  where
    go : (b : Bool) → Mirrors (cond b (with_contradiction l f) (with_new_unit l f)) (line ∷ lines)
    go true = against line (l ∷ []) f lines new m l refl
    go false = unit_new line (l ∷ []) f lines new m l refl
set_new r (l ∷ k ∷ ls) f lines line e new m = long_new line (l ∷ k ∷ ls) f lines new m r (clause_absent (clause_with (l ∷ k ∷ ls) f.clauses) e)
