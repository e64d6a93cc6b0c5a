-- Everything that is stored was announced under its id.
use Rattle.std.proofs.Common.{ℕ, ◌≡◌, Bool, true, false, not, cond, eqb, List, [], ◌∷◌, ◌++◌, map, filter, refl, sym, ◌∙◌, ap, subst, inl, inr, Option, None, Some}
use Rattle.std.proofs.lemmas.Bool.{or_parts}
use Rattle.std.specs.List.{AllByRecursion}
use Rattle.sat_base.specs.values.Literals.{variable, negated}
use Rattle.sat_base.specs.steps.Steps.{Redundant, Simplified, Satisfied, Step, SolverVarName, UserVarName, DeleteVar, AddClause, AtClause, UnitClauses, DeleteClause, Model, FailedAssumptions}
use Rattle.sat_checker.specs.LiteralSets.{is_among, is_subset_of, is_tautology, canonical, same_literals}
use Rattle.sat_checker.specs.Stored.{StoredClause, StoredUnit, LastIrredundant, NoneYet, Empty, UnitClause, LongClause, Stored, is_unit}
use Rattle.sat_checker.specs.Storing.{with_count, with_stored_clause, clause_with, without_count, unless_removed, without_clause, unit_id, first_conflict, with_unit, with_contradiction, with_new_unit, with_conflict_settled, settled_by, with_sorted_set, last_unit_or, last_long_or, last_clause_or, with_canonical, with_stored, with_input, with_units, with_known, with_literals_known, clause_with_id, unit_with_id, last_literals}
use Rattle.sat_checker.specs.Accepts.{IsStrictSubset, effect, stored_after, ready_after}
use Rattle.sat_checker.specs.announcements.Needed.{propagations}
use Rattle.sat_checker.specs.announcements.Announcements.{Announcement, id_of, id_of_set, announced_input_set, announced_input, announced_derived_set, announced_derived, announced_derived_units, option_to_list, last_id, announced, delayed_empty_clause, delayed_announcement, Notice, notices_of, notices_after, all_notices_after}
use Rattle.sat_checker.specs.announcements.Announcements as announcements
use Rattle.sat_checker.specs.announcements.Promises.{IsOneOf, IsAnnouncedAs, IsAnnounced, AreAnnounced, IdsAreAnnounced, ConflictIsAnnounced, SimplifiedIsAnnounced}
use Rattle.sat_checker.proofs.lemmas.propagation.Soundness.{negated-negated}
use Rattle.sat_checker.proofs.lemmas.state.Units.{known_units}
use Rattle.sat_checker.proofs.lemmas.listeners.Settling.{settled_none}
use Rattle.sat_checker.proofs.lemmas.announcements.Rests.{unit_found}
use Rattle.sat_checker.proofs.lemmas.announcements.Deletions.{unit_of, signed}

-- members of concatenated and mapped lists
one_front : {A : Type 0} (x : A) (xs ys : List A) → IsOneOf x xs → IsOneOf x (xs ++ ys)
one_front x [] ys h = absurd h
one_front x (y ∷ xs) ys h = elim h [ inl e ↦ inl e | inr k ↦ inr (one_front x xs ys k) ]

one_after : {A : Type 0} (x : A) (xs ys : List A) → IsOneOf x ys → IsOneOf x (xs ++ ys)
one_after x [] ys h = h
one_after x (y ∷ xs) ys h = inr (one_after x xs ys h)

one_mapped : {A B : Type 0} (g : A → B) (x : A) (xs : List A) → IsOneOf x xs → IsOneOf (g x) (map g xs)
one_mapped g x [] h = absurd h
one_mapped g x (y ∷ xs) h = elim h [ inl e ↦ inl (ap g e) | inr k ↦ inr (one_mapped g x xs k) ]

each_more : {A : Type 0} (P Q : A → Type 0) → ((x : A) → P x → Q x) → (xs : List A) → AllByRecursion P xs → AllByRecursion Q xs
each_more P Q w [] h = tt
each_more P Q w (x ∷ xs) h = (w x h.0, each_more P Q w xs h.1)

one_each : {A : Type 0} (P : A → Type 0) (x : A) (xs : List A) → AllByRecursion P xs → IsOneOf x xs → P x
one_each P x [] h k = absurd k
one_each P x (y ∷ ys) h k = elim k [ inl e ↦ subst P (sym e) h.0 | inr m ↦ one_each P x ys h.1 m ]

-- `IsAnnounced` for announcements that are not reported yet
abbrev IsNews : ℕ → List ℕ → List Announcement → Type 0
IsNews id clause news = (a : Announcement) × IsOneOf a news × IsAnnouncedAs id clause a

news_front : (id : ℕ) (ls : List ℕ) (xs ys : List Announcement) → IsNews id ls xs → IsNews id ls (xs ++ ys)
news_front id ls xs ys n = (n.0, one_front n.0 xs ys n.1, n.2)

news_after : (id : ℕ) (ls : List ℕ) (xs ys : List Announcement) → IsNews id ls ys → IsNews id ls (xs ++ ys)
news_after id ls xs ys n = (n.0, one_after n.0 xs ys n.1, n.2)

news_reported : (f : Stored) (id : ℕ) (ls : List ℕ) (news : List Announcement) → IsNews id ls news → IsAnnounced id ls (notices_of f news)
news_reported f id ls news n = (record { announcement = n.0; variables = f.variables }, one_mapped (λ a. record { announcement = a; variables = f.variables }) n.0 news n.1, n.2)

announced_front : (id : ℕ) (ls : List ℕ) (xs ys : List Notice) → IsAnnounced id ls xs → IsAnnounced id ls (xs ++ ys)
announced_front id ls xs ys t = (t.0, one_front t.0 xs ys t.1, t.2)

reported_after : (id : ℕ) (ls : List ℕ) (xs ys : List Notice) → IsAnnounced id ls ys → IsAnnounced id ls (xs ++ ys)
reported_after id ls xs ys t = (t.0, one_after t.0 xs ys t.1, t.2)

-- a clause that is not stored yet is announced under the next id
derived_news : (r : Bool) (c hs : List ℕ) (f : Stored) → is_tautology c ≡ false → id_of_set (canonical c) f ≡ None → IsNews f.next_id (canonical c) (announced_derived r c hs f)
derived_news r c hs f t e =
    let ids : List ℕ = propagations f c hs in
    subst (λ b. IsNews f.next_id (canonical c) (cond b [] (announced_derived_set r (canonical c) ids f (id_of_set (canonical c) f)))) (sym t)
    (subst (λ x. IsNews f.next_id (canonical c) (announced_derived_set r (canonical c) ids f x)) (sym e) (announcements.AtClause f.next_id r (canonical c) ids, inl refl, (refl, refl)))

input_news : (c : List ℕ) (f : Stored) → is_tautology c ≡ false → id_of_set (canonical c) f ≡ None → IsNews f.next_id (canonical c) (announced_input c f)
input_news c f t e =
    subst (λ b. IsNews f.next_id (canonical c) (cond b (announcements.TautologicalClause f.next_id (canonical c) ∷ []) (announced_input_set f.next_id (canonical c) (id_of_set (canonical c) f)))) (sym t)
    (subst (λ x. IsNews f.next_id (canonical c) (announced_input_set f.next_id (canonical c) x)) (sym e) (announcements.AddClause f.next_id (canonical c), inl refl, (refl, refl)))

-- making variables known does not change the id of a set
known_set : (ls vs : List ℕ) (f : Stored) → id_of_set ls (with_known vs f) ≡ id_of_set ls f
known_set [] vs f = refl
known_set (l ∷ []) vs f = refl
known_set (l ∷ m ∷ ls) vs f = refl

-- a literal that is not a unit has no id
unit_none : (l : ℕ) (us : List StoredUnit) → is_among (map (λ u. u.literal) us) l ≡ false → unit_id l us ≡ None
unit_none l [] e = refl
unit_none l (u ∷ us) e =
    let p = or_parts (eqb u.literal l) (is_among (map (λ w. w.literal) us) l) e in
    ap (λ b. cond b (Some u.id) (unit_id l us)) p.0 ∙ unit_none l us p.1

-- the last clause is an empty one only if it was before; a unit or a longer clause is not empty
unit_not_empty : (l id : ℕ) (us : List StoredUnit) (last : LastIrredundant) → last_unit_or l us last ≡ Empty id → last ≡ Empty id
unit_not_empty l id [] last e = e
unit_not_empty l id (u ∷ us) last e = go (eqb u.literal l) (unit_not_empty l id us last) e
  where
    go : (b : Bool) → (last_unit_or l us last ≡ Empty id → last ≡ Empty id) → cond b (UnitClause u.id) (last_unit_or l us last) ≡ Empty id → last ≡ Empty id
    go true ih e = absurd cc
    go false ih e = ih e

long_not_empty : (id : ℕ) (x : Option StoredClause) (last : LastIrredundant) → last_long_or x last ≡ Empty id → last ≡ Empty id
long_not_empty id None last e = e
long_not_empty id (Some c) last e = absurd cc

-- what was announced is still announced after further reports
reported_more : (f : Stored) (reported next : List Notice) → ((id : ℕ) (ls : List ℕ) → IsAnnounced id ls reported → IsAnnounced id ls next) → AreAnnounced f reported → AreAnnounced f next
reported_more f reported next w a = record {
  clauses = each_more (λ c. IsAnnounced c.id c.literals reported) (λ c. IsAnnounced c.id c.literals next) (λ c. w c.id c.literals) f.clauses a.clauses;
  units = each_more (λ u. IsAnnounced u.id (u.literal ∷ []) reported) (λ u. IsAnnounced u.id (u.literal ∷ []) next) (λ u. w u.id (u.literal ∷ [])) f.units a.units;
  last = λ id e. w id [] (a.last id e);
  conflict = λ ids e. let k = a.conflict ids e in (k.0, k.1, k.2, w ids.1 (negated k.0.literal ∷ []) k.3);
}

module _ (reported : List Notice) where
  abbrev AreClauses : List StoredClause → Type 0
  AreClauses = AllByRecursion (λ c. IsAnnounced c.id c.literals reported)

  abbrev AreUnits : List StoredUnit → Type 0
  AreUnits = AllByRecursion (λ u. IsAnnounced u.id (u.literal ∷ []) reported)

  abbrev IsConflict : List StoredUnit → ℕ × ℕ → Type 0
  IsConflict us ids = (u : StoredUnit) × IsOneOf u us × (u.id ≡ ids.0) × IsAnnounced ids.1 (negated u.literal ∷ []) reported

  -- only the clauses, the units, the last clause and the conflict matter
  aside : (f g : Stored) → g.clauses ≡ f.clauses → g.units ≡ f.units → g.last ≡ f.last → g.conflict ≡ f.conflict → AreAnnounced f reported → AreAnnounced g reported
  aside f g c u l k a = record {
    clauses = subst AreClauses (sym c) a.clauses;
    units = subst AreUnits (sym u) a.units;
    last = λ id e. a.last id (sym l ∙ e);
    conflict = λ ids e. subst (λ us. IsConflict us ids) (sym u) (a.conflict ids (sym k ∙ e));
  }

  -- after a clause is stored, all clauses are announced if it is announced or not new
  clauses_with : (r : Bool) (n : ℕ) (ls : List ℕ) (cs : List StoredClause) → (clause_with ls cs ≡ None → IsAnnounced n ls reported) → AreClauses cs → AreClauses (with_stored_clause r n ls cs)
  clauses_with true n ls [] new h = (new refl, tt)
  clauses_with false n ls [] new h = (new refl, tt)
  clauses_with r n ls (c ∷ cs) new h = go r (λ k. clauses_with r n ls cs k h.1) (same_literals c.literals ls) new
    where
      go : (r : Bool) → ((clause_with ls cs ≡ None → IsAnnounced n ls reported) → AreClauses (with_stored_clause r n ls cs)) → (b : Bool) → (cond b (Some c) (clause_with ls cs) ≡ None → IsAnnounced n ls reported)
          → AreClauses (cond b (with_count r c ∷ cs) (c ∷ with_stored_clause r n ls cs))
      go true ih true k = h
      go false ih true k = h
      go r ih false k = (h.0, ih k)

  -- after a count is removed, the remaining clauses are still announced
  clauses_unless : (c : StoredClause) (b : Bool) (cs : List StoredClause) → IsAnnounced c.id c.literals reported → AreClauses cs → AreClauses (cond b [] (c ∷ []) ++ cs)
  clauses_unless c true cs i h = h
  clauses_unless c false cs i h = (i, h)

  clauses_without : (r : Bool) (ls : List ℕ) (cs : List StoredClause) → AreClauses cs → AreClauses (without_clause r ls cs)
  clauses_without r ls [] h = tt
  clauses_without r ls (c ∷ cs) h = go (clauses_without r ls cs h.1) (same_literals c.literals ls)
    where
      less : (r : Bool) → IsAnnounced (without_count r c).id (without_count r c).literals reported
      less true = h.0
      less false = h.0

      go : AreClauses (without_clause r ls cs) → (b : Bool) → AreClauses (cond b (unless_removed (without_count r c) ++ cs) (c ∷ without_clause r ls cs))
      go ih true = clauses_unless (without_count r c) _ cs (less r) h.1
      go ih false = (h.0, ih)

  units_push : (us : List StoredUnit) (u : StoredUnit) → AreUnits us → IsAnnounced u.id (u.literal ∷ []) reported → AreUnits (us ++ u ∷ [])
  units_push [] u h i = (i, tt)
  units_push (w ∷ ws) u h i = (h.0, units_push ws u h.1 i)

  units_few : (p : StoredUnit → Bool) (us : List StoredUnit) → AreUnits us → AreUnits (filter p us)
  units_few p [] h = tt
  units_few p (u ∷ us) h = go (units_few p us h.1) (p u)
    where
      go : AreUnits (filter p us) → (b : Bool) → AreUnits (cond b (u ∷ filter p us) (filter p us))
      go ih true = (h.0, ih)
      go ih false = ih

  -- if a contradicting unit is announced, everything is still announced after it is added
  contradiction : (l : ℕ) (f : Stored) → IsAnnounced f.next_id (l ∷ []) reported → AreAnnounced f reported → AreAnnounced (with_contradiction l f) reported
  contradiction l f new a = record { clauses = a.clauses; units = a.units; last = a.last; conflict = go f.conflict refl (unit_id (negated l) f.units) refl }
    where
      go : (x : Option (ℕ × ℕ)) → f.conflict ≡ x → (y : Option ℕ) → unit_id (negated l) f.units ≡ y → (ids : ℕ × ℕ) → first_conflict x y f.next_id ≡ Some ids → IsConflict f.units ids
      go (Some pending) e y s ids k = a.conflict ids (e ∙ k)
      go None e None s ids k = absurd cc
      go None e (Some id) s ids k =
          let w = unit_found (negated l) id f.units s in
          let is : (id, f.next_id) ≡ ids = cc in
          let back : l ≡ negated w.unit.literal = sym (ap negated w.literal_is ∙ negated-negated l) in
          subst (IsConflict f.units) is (w.unit, w.stored, w.id_is, subst (λ m. IsAnnounced f.next_id (m ∷ []) reported) back new)

  new_unit : (l : ℕ) (f : Stored) → IsAnnounced f.next_id (l ∷ []) reported → AreAnnounced f reported → AreAnnounced (with_new_unit l f) reported
  new_unit l f new a =
      let u : StoredUnit = record { id = f.next_id; literal = l } in
      record {
        clauses = a.clauses;
        units = units_push f.units u a.units new;
        last = a.last;
        conflict = λ ids e. let k = a.conflict ids e in (k.0, one_front k.0 f.units (u ∷ []) k.1, k.2, k.3);
      }

  unit_announced : (l : ℕ) (f : Stored) → (unit_id l f.units ≡ None → IsAnnounced f.next_id (l ∷ []) reported) → AreAnnounced f reported → AreAnnounced (with_unit l f) reported
  unit_announced l f new a = go (is_unit f l) refl (is_unit f (negated l))
    where
      go : (b : Bool) → is_unit f l ≡ b → (d : Bool) → AreAnnounced (cond b f (cond d (with_contradiction l f) (with_new_unit l f))) reported
      go true e d = a
      go false e true = contradiction l f (new (unit_none l f.units e)) a
      go false e false = new_unit l f (new (unit_none l f.units e)) a

  -- after a set is stored, everything is announced if the set is announced or not new
  set_announced : (r : Bool) (ls : List ℕ) (f : Stored) → (id_of_set ls f ≡ None → IsAnnounced f.next_id ls reported) → AreAnnounced f reported → AreAnnounced (with_sorted_set r ls f) reported
  set_announced r [] f new a = aside f (with_sorted_set r [] f) refl refl refl refl a
  set_announced r (l ∷ []) f new a = unit_announced l f new a
  set_announced r (l ∷ m ∷ ls) f new a = record {
    clauses = clauses_with r f.next_id (l ∷ m ∷ ls) f.clauses (λ e. new (ap id_of e)) a.clauses;
    units = a.units;
    last = a.last;
    conflict = a.conflict;
  }

  last_announced : (ls : List ℕ) (f g : Stored) → (id_of_set ls f ≡ None → IsAnnounced f.next_id ls reported) → AreAnnounced f reported → (id : ℕ) → last_clause_or f.next_id ls g f.last ≡ Empty id → IsAnnounced id [] reported
  last_announced [] f g new a id e = let is : f.next_id ≡ id = cc in subst (λ i. IsAnnounced i [] reported) is (new refl)
  last_announced (l ∷ []) f g new a id e = a.last id (unit_not_empty l id g.units f.last e)
  last_announced (l ∷ m ∷ ls) f g new a id e = a.last id (long_not_empty id (clause_with (l ∷ m ∷ ls) g.clauses) f.last e)

  canonical_announced : (r : Bool) (ls : List ℕ) (f : Stored) → (id_of_set ls f ≡ None → IsAnnounced f.next_id ls reported) → AreAnnounced f reported → AreAnnounced (with_canonical r ls f) reported
  canonical_announced true ls f new a = set_announced true ls f new a
  canonical_announced false ls f new a =
      let s = set_announced false ls f new a in
      record { clauses = s.clauses; units = s.units; last = last_announced ls f (with_sorted_set false ls f) new a; conflict = s.conflict }

  stored_announced : (r : Bool) (c : List ℕ) (f : Stored) → (is_tautology c ≡ false → id_of_set (canonical c) f ≡ None → IsAnnounced f.next_id (canonical c) reported) → AreAnnounced f reported → AreAnnounced (with_stored r c f) reported
  stored_announced r c f new a = go (is_tautology c) refl
    where
      go : (b : Bool) → is_tautology c ≡ b → AreAnnounced (cond b f (with_canonical r (canonical c) f)) reported
      go true e = a
      go false e = canonical_announced r (canonical c) f (new e) a

  input_announced : (c : List ℕ) (f : Stored) → (is_tautology c ≡ false → id_of_set (canonical c) f ≡ None → IsAnnounced f.next_id (canonical c) reported) → AreAnnounced f reported → AreAnnounced (with_input c f) reported
  input_announced c f new a = aside (with_stored false c f) (with_input c f) refl refl refl refl (stored_announced false c f new a)

  known_announced : (vs : List ℕ) (f : Stored) → AreAnnounced f reported → AreAnnounced (with_known vs f) reported
  known_announced vs f a = aside f (with_known vs f) refl refl refl refl a

  -- after units are added one by one, everything is announced if their announcements were reported
  units_announced : (us : List (ℕ × ℕ)) (f : Stored) → ((id : ℕ) (ls : List ℕ) → IsNews id ls (announced_derived_units us f) → IsAnnounced id ls reported) → AreAnnounced f reported → AreAnnounced (with_units (map (λ u. u.0) us) f) reported
  units_announced [] f w a = a
  units_announced (u ∷ us) f w a =
      let this : List Announcement = announced_derived false (u.0 ∷ []) (u.1 ∷ []) f in
      let others : List Announcement = announced_derived_units us (with_unit u.0 f) in
      units_announced us (with_unit u.0 f) (λ id ls n. w id ls (news_after id ls this others n))
      (unit_announced u.0 f (λ e. w f.next_id (u.0 ∷ []) (news_front f.next_id (u.0 ∷ []) this others (derived_news false (u.0 ∷ []) (u.1 ∷ []) f refl e))) a)

  deleted_announced : (r : Bool) (ls : List ℕ) (f : Stored) → AreAnnounced f reported → AreAnnounced (record f { clauses = without_clause r ls f.clauses }) reported
  deleted_announced r ls f a = record { clauses = clauses_without r ls f.clauses a.clauses; units = a.units; last = a.last; conflict = a.conflict }

  -- after a step, everything is announced if the step's announcements were reported and no unit conflict was pending
  effect_announced : (step : Step) (f : Stored) → f.conflict ≡ None → ((id : ℕ) (ls : List ℕ) → IsNews id ls (announced f step) → IsAnnounced id ls reported) → AreAnnounced f reported → AreAnnounced (effect step f) reported
  effect_announced (SolverVarName v None) f n w a = aside f (effect (SolverVarName v None) f) refl refl refl refl a
  effect_announced (UserVarName v (Some name)) f n w a = aside f (effect (UserVarName v (Some name)) f) refl refl refl refl a
  effect_announced (DeleteVar v) f n w a = record {
    clauses = a.clauses;
    units = units_few (λ u. not (eqb (variable u.literal) v)) f.units a.units;
    last = a.last;
    conflict = λ ids e. absurd cc;
  }
  effect_announced (AddClause c) f n w a = go f.unsat w
    where
      go : (b : Bool) → ((id : ℕ) (ls : List ℕ) → IsNews id ls (cond b [] (announced_input c f)) → IsAnnounced id ls reported) → AreAnnounced (cond b f (with_input c (with_literals_known c f))) reported
      go true w = a
      go false w = input_announced c (with_literals_known c f) (λ t e. w f.next_id (canonical c) (input_news c f t (sym (known_set (canonical c) (map variable c) f) ∙ e))) (known_announced (map variable c) f a)
  effect_announced (AtClause r c hs) f n w a =
      stored_announced r c (with_literals_known c f) (λ t e. w f.next_id (canonical c) (derived_news r c hs f t (sym (known_set (canonical c) (map variable c) f) ∙ e))) (known_announced (map variable c) f a)
  effect_announced (UnitClauses us) f n w a =
      let ls : List ℕ = map (λ u. u.0) us in
      subst (λ g. AreAnnounced g reported) (sym (known_units (map variable ls) ls f)) (known_announced (map variable ls) (with_units ls f) (units_announced us f w a))
  effect_announced (DeleteClause c Redundant) f n w a = deleted_announced true (canonical c) f a
  effect_announced (DeleteClause c Satisfied) f n w a = deleted_announced false (canonical c) f a
  effect_announced (DeleteClause c Simplified) f n w a = deleted_announced false (canonical c) f a
  effect_announced (Model ls) f n w a = known_announced (map variable ls) f a
  effect_announced (FailedAssumptions core hs) f n w a = a
  effect_announced step f n w a = aside f (effect step f) refl refl refl refl a

  settled_announced : (f : Stored) → AreAnnounced f reported → AreAnnounced (with_conflict_settled f) reported
  settled_announced f a = go f.conflict
    where
      go : (x : Option (ℕ × ℕ)) → AreAnnounced (settled_by x f) reported
      go None = a
      go (Some units) = record { clauses = a.clauses; units = a.units; last = a.last; conflict = λ ids e. absurd cc }

-- everything is still announced after the empty clause of a unit conflict is reported
ready_announced : (steps : List Step) → AreAnnounced (stored_after steps) (notices_after steps) → AreAnnounced (ready_after steps) (all_notices_after steps)
ready_announced steps a =
    let reported : List Notice = notices_after steps in
    let waiting : List Notice = notices_of (stored_after steps) (delayed_announcement (stored_after steps)) in
    settled_announced (reported ++ waiting) (stored_after steps) (reported_more (stored_after steps) reported (reported ++ waiting) (λ id ls t. announced_front id ls reported waiting t) a)

pub identified : IdsAreAnnounced
identified [] = record { clauses = tt; units = tt; last = λ id e. absurd cc; conflict = λ ids e. absurd cc }
identified (step ∷ earlier) =
    let f : Stored = ready_after earlier in
    let reported : List Notice = all_notices_after earlier in
    let more : List Notice = notices_of f (announced f step) in
    effect_announced (reported ++ more) step f (settled_none (stored_after earlier)) (λ id ls n. reported_after id ls reported more (news_reported f id ls (announced f step) n))
    (reported_more f reported (reported ++ more) (λ id ls t. announced_front id ls reported more t) (ready_announced earlier (identified earlier)))

-- both ids of a delayed empty clause were announced
pub conflict_named : ConflictIsAnnounced
conflict_named steps id i j e = go f.conflict refl e
  where
    f : Stored
    f = stored_after steps

    reported : List Notice
    reported = notices_after steps

    go : (x : Option (ℕ × ℕ)) → f.conflict ≡ x → delayed_empty_clause f.next_id x ≡ announcements.AtClause id false [] (i ∷ j ∷ []) ∷ [] → (l : ℕ) × IsAnnounced i (l ∷ []) reported × IsAnnounced j (negated l ∷ []) reported
    go None s k = absurd cc
    go (Some ids) s k =
        let a = identified steps in
        let c = a.conflict ids s in
        let first : ids.0 ≡ i = cc in
        let second : ids.1 ≡ j = cc in
        let this = one_each (λ u. IsAnnounced u.id (u.literal ∷ []) reported) c.0 f.units a.units c.1 in
        (c.0.literal, subst (λ x. IsAnnounced x (c.0.literal ∷ []) reported) (c.2 ∙ first) this, subst (λ x. IsAnnounced x (negated c.0.literal ∷ []) reported) second c.3)

-- there is one id, and a part of the clause was announced under it
abbrev NamesPart : List Notice → List ℕ → List ℕ → Type 0
NamesPart reported clause ids = (id : ℕ) × (part : List ℕ) × (ids ≡ id ∷ []) × (is_subset_of part clause ≡ true) × IsAnnounced id part reported

-- the last irredundant clause was announced under its id, if it is a part of the clause
last_named : (f : Stored) (reported : List Notice) → AreAnnounced f reported → (clause : List ℕ) (last : LastIrredundant) → f.last ≡ last → IsStrictSubset (last_literals last f) clause → NamesPart reported clause (option_to_list (last_id last))
last_named f reported a clause NoneYet is s = absurd s
last_named f reported a clause (Empty id) is s = (id, [], refl, s.0, a.last id is)
last_named f reported a clause (UnitClause id) is s = go (unit_with_id id f.units) refl s
  where
    go : (x : Option (List ℕ)) → unit_with_id id f.units ≡ x → IsStrictSubset x clause → NamesPart reported clause (id ∷ [])
    go None e k = absurd k
    go (Some ls) e k =
        let u = unit_of id ls f.units e in
        let this = one_each (λ w. IsAnnounced w.id (w.literal ∷ []) reported) u.unit f.units a.units u.stored in
        (id, ls, refl, k.0, subst (λ x. IsAnnounced x ls reported) u.id_is (subst (λ x. IsAnnounced u.unit.id x reported) u.literals_are this))
last_named f reported a clause (LongClause id) is s = go (clause_with_id id f.clauses) refl s
  where
    go : (x : Option (List ℕ)) → clause_with_id id f.clauses ≡ x → IsStrictSubset x clause → NamesPart reported clause (id ∷ [])
    go None e k = absurd k
    go (Some ls) e k =
        let c = signed id ls f.clauses e in
        let this = one_each (λ w. IsAnnounced w.id w.literals reported) c.clause f.clauses a.clauses c.stored in
        (id, ls, refl, k.0, subst (λ x. IsAnnounced x ls reported) c.id_is (subst (λ x. IsAnnounced c.clause.id x reported) c.literals_are this))

pub simplified_named : SimplifiedIsAnnounced
simplified_named steps clause ok = last_named (ready_after steps) (all_notices_after steps) (ready_announced steps (identified steps)) clause (ready_after steps).last refl ok.1
