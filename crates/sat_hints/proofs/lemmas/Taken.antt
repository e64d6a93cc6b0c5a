-- What it means that a checker accepted a line.
use Rattle.std.proofs.Common.{ℕ, ◌+◌, ◌-◌, ◌^◌, ◌≤◌, ◌≡◌, ◌≢◌, Bool, true, false, cond, eqb, ◌||◌, List, [], ◌∷◌, length, min, map, Option, None, Some, refl, sym, ◌∙◌, ap, subst, arith, inl, inr}
use Rattle.std.proofs.lemmas.Bool.{eqb-true}
use Rattle.std.specs.List.{AllByRecursion}
use Rattle.sat_base.specs.text.Tokenizing.{capped}
use Rattle.sat_base.specs.values.Literals.{negated}
use Rattle.sat_base.specs.values.Tables.{value_at}
use Rattle.sat_checker.specs.LiteralSets.{canonical, is_tautology}
use Rattle.sat_checker.specs.SortedSets.{NoRepeats}
use Rattle.sat_checker.specs.inner.AssumedRoom.{HasClauseRoom, RoomIsKept, signed}
use Rattle.sat_checker.proofs.lemmas.sets.Canonical.{canonical_increasing}
use Rattle.sat_checker.proofs.lemmas.sets.Marks.{once}
use Rattle.sat_hints.specs.Lines.{Line, Input, Derived, Removed, Core, Fresh}
use Rattle.sat_hints.specs.Hints.{and_clauses, clause_under, clauses_under, IsInOrder, named_ids, assumed_by, ConflictsIf, Conflicts, FollowsLines, is_empty, derives_empty, core_count}
use Rattle.sat_hints.specs.Checks.{IsFaultOf}
use Rattle.sat_hints.specs.inner.Clauses.{IdsBelow}
use Rattle.sat_hints.specs.inner.ActiveClauses.{active_clause, active_clauses, AddsActiveClause, RemovesActiveClause, HasRoomForPresent, ActiveClausesInvariant, IsUsed, UnitBoundsWithin}
use Rattle.sat_hints.specs.inner.Refutation.{refutation_failure, WhyNoConflict}
use Rattle.sat_hints.specs.inner.LineChecking.{IsReadyChecker, HasAcceptedLines, SameExceptRoom, FollowsAccepted, WhyNotRefuted, StoresClause, UncountedLineResult}
use Rattle.sat_hints.specs.declared.answer.HintWhy.{HintWhy}
use Rattle.sat_hints.specs.declared.answer.HintWhy.TheVariants.{NotUnit, NotFalsified, VarInUse}
use Rattle.sat_hints.specs.declared.line_checking.LineChecker.{LineChecker}
use Rattle.sat_hints.specs.declared.active_clauses.ActiveClauses.{ActiveClauses}
use Rattle.sat_hints.proofs.lemmas.Courses.{Says, course_says}
use Rattle.sat_hints.proofs.lemmas.Finding.{room_still}
use Rattle.sat_hints.proofs.lemmas.Sound.{still}
use Rattle.sat_hints.proofs.lemmas.Unused.{unused_assuming}

-- the checker finds the same clauses under ids
clauses_same : (p : ActiveClauses) (lines : List Line) → ((id : ℕ) → active_clause p id ≡ clause_under id lines) → (ids : List ℕ) → active_clauses p ids ≡ clauses_under ids lines
clauses_same p lines h [] = refl
clauses_same p lines h (id ∷ ids) = ap (λ c. and_clauses c (active_clauses p ids)) (h id) ∙ ap (and_clauses (clause_under id lines)) (clauses_same p lines h ids)

-- a clause under an id is a sorted set
set_once : (ls c : List ℕ) → Some (canonical ls) ≡ Some c → NoRepeats c
set_once ls c e = let f : canonical ls ≡ c = cc in subst NoRepeats f (once (canonical ls) (canonical_increasing ls))

one_once : (id : ℕ) (lines : List Line) (c : List ℕ) → clause_under id lines ≡ Some c → NoRepeats c
one_once id [] c e = absurd cc
one_once id (Input i ls ∷ lines) c e = go (eqb id i) (one_once id lines c) e
  where
    go : (b : Bool) → (clause_under id lines ≡ Some c → NoRepeats c) → cond b (Some (canonical ls)) (clause_under id lines) ≡ Some c → NoRepeats c
    go true ih e = set_once ls c e
    go false ih e = ih e
one_once id (Derived i ls ids ∷ lines) c e = go (eqb id i) (one_once id lines c) e
  where
    go : (b : Bool) → (clause_under id lines ≡ Some c → NoRepeats c) → cond b (Some (canonical ls)) (clause_under id lines) ≡ Some c → NoRepeats c
    go true ih e = set_once ls c e
    go false ih e = ih e
one_once id (Removed i ∷ lines) c e = go (eqb id i) (one_once id lines c) e
  where
    go : (b : Bool) → (clause_under id lines ≡ Some c → NoRepeats c) → cond b None (clause_under id lines) ≡ Some c → NoRepeats c
    go true ih e = absurd cc
    go false ih e = ih e
one_once id (Core ls ids ∷ lines) c e = one_once id lines c e
one_once id (Fresh v ∷ lines) c e = one_once id lines c (still v (clause_under id lines) c e).0

sets_once : (ids : List ℕ) (lines : List Line) (cs : List (List ℕ)) → clauses_under ids lines ≡ Some cs → AllByRecursion NoRepeats cs
sets_once [] lines cs e = let f : [] ≡ cs = cc in subst (AllByRecursion NoRepeats) f tt
sets_once (id ∷ ids) lines cs e = go (λ ds. sets_once ids lines ds) (clause_under id lines) refl (clauses_under ids lines) refl e
  where
    go : ((ds : List (List ℕ)) → clauses_under ids lines ≡ Some ds → AllByRecursion NoRepeats ds) → (c : Option (List ℕ)) → clause_under id lines ≡ c → (ds : Option (List (List ℕ))) → clauses_under ids lines ≡ ds → and_clauses c ds ≡ Some cs → AllByRecursion NoRepeats cs
    go ih None h ds k e = absurd cc
    go ih (Some c) h None k e = absurd cc
    go ih (Some c) h (Some ds) k e = let f : c ∷ ds ≡ cs = cc in subst (AllByRecursion NoRepeats) f (one_once id lines c h, ih ds k)

-- the verdict on a line whose clauses have to lead to a conflict
abbrev Says_of : Option HintWhy → List Line → Line → Type 0
Says_of None lines line = FollowsLines lines line
Says_of (Some why) lines line = IsFaultOf lines line why

conflict_of : (a : Option (List ℕ)) (assumed : List ℕ) (clauses : List (List ℕ)) → a ≡ Some assumed → Conflicts assumed clauses → ConflictsIf a clauses
conflict_of None assumed clauses e h = absurd cc
conflict_of (Some b) assumed clauses e h = let f : assumed ≡ b = cc in subst (λ x. Conflicts x clauses) f h

module _ (lines : List Line) (line : Line) (assumed : List ℕ) (in_order : IsInOrder lines line) (assumes : assumed_by line ≡ Some assumed) where
  by_course : (clauses : List (List ℕ)) → clauses_under (named_ids line) lines ≡ Some clauses → is_tautology assumed ≡ false → (why : Option HintWhy) → Says why assumed clauses → Says_of why lines line
  by_course clauses present t None s = record { in_order = in_order; clauses = clauses; present = present; conflict = conflict_of (assumed_by line) assumed clauses assumes (inr s); unused = unused_assuming lines line assumed assumes }
  by_course clauses present t (Some NotUnit) s = record { in_order = in_order; clauses = clauses; present = present; assumed = assumed; assumes = assumes; consistent = t; fails = s }
  by_course clauses present t (Some NotFalsified) s = record { in_order = in_order; clauses = clauses; present = present; assumed = assumed; assumes = assumes; consistent = t; fails = s }
  by_course clauses present t (Some e) s = absurd s

  refuted : (p : ActiveClauses) (why : Option HintWhy) → ((id : ℕ) → active_clause p id ≡ clause_under id lines) → WhyNotRefuted p assumed (named_ids line) why → Says_of why lines line
  refuted p why same (inl h) = subst (λ w. Says_of w lines line) (sym h.1) (in_order, sym (clauses_same p lines same (named_ids line)) ∙ h.0)
  refuted p why same (inr h) = go h.2
    where
      present : clauses_under (named_ids line) lines ≡ Some h.0
      present = sym (clauses_same p lines same (named_ids line)) ∙ h.1

      go : WhyNoConflict assumed h.0 why → Says_of why lines line
      go (inl r) = subst (λ w. Says_of w lines line) (sym r.1) (record { in_order = in_order; clauses = h.0; present = present; conflict = conflict_of (assumed_by line) assumed h.0 assumes (inl r.0); unused = unused_assuming lines line assumed assumes })
      go (inr r) = subst (λ w. Says_of w lines line) (sym r.1) (by_course h.0 present r.0 (refutation_failure assumed h.0) (course_says h.0 assumed (sets_once (named_ids line) lines h.0 present)))

stored_ready : (old new : LineChecker) (id : ℕ) (clause : List ℕ) → UnitBoundsWithin old.active id → StoresClause old new id clause → IsReadyChecker new
stored_ready old new id clause w s = record {
  active = s.adds.active;
  below = subst (IdsBelow new.active.present.ids.items) (sym s.least) (s.adds.below (id + 1) (omega arith));
  unit_bounds = subst (UnitBoundsWithin new.active) (sym s.least) (λ v. subst (λ x. value_at 0 x v ≤ id + 1) (sym s.adds.unit_bounds) (let k = w v in omega (arith, k)));
  nothing = s.nothing;
  room = s.room;
}

-- a checker is still ready after a call that kept its state
pub same_ready : (old new : LineChecker) → IsReadyChecker old → SameExceptRoom old new → IsReadyChecker new
same_ready old new r m = record {
  active = subst ActiveClausesInvariant (sym m.active) r.active;
  below = subst (λ p. IdsBelow p.present.ids.items new.least_id) (sym m.active) (subst (IdsBelow old.active.present.ids.items) (sym m.least) r.below);
  unit_bounds = subst (λ p. UnitBoundsWithin p new.least_id) (sym m.active) (subst (UnitBoundsWithin old.active) (sym m.least) r.unit_bounds);
  nothing = m.nothing;
  room = subst (HasRoomForPresent new.assumed.room) (sym m.active) (room_still old.active old.assumed.room new.assumed.room m.room r.room);
}

since_later : (old : LineChecker) (id : ℕ) → IsReadyChecker old → old.least_id ≤ id → UnitBoundsWithin old.active id
since_later old id r l = λ v. let k = r.unit_bounds v in omega (arith, k, l)

derived_refuted : (old : LineChecker) (id : ℕ) (clause ids : List ℕ) (why : Option HintWhy) → old.least_id ≤ id → WhyNotRefuted old.active (signed true clause) ids why → (lines : List Line) → HasAcceptedLines old lines → Says_of why lines (Derived id clause ids)
derived_refuted old id clause ids why l r lines t =
    refuted lines (Derived id clause ids) (map negated clause) (subst (λ n. n ≤ id) t.least l) refl old.active why t.clauses r

-- a derived clause whose clauses lead to a conflict may follow
pub derived_may : (old : LineChecker) (id : ℕ) (clause ids : List ℕ) → old.least_id ≤ id → WhyNotRefuted old.active (signed true clause) ids None → FollowsAccepted old (Derived id clause ids)
derived_may old id clause ids l r lines t = derived_refuted old id clause ids None l r lines t

-- there is room for the literals of one more clause
pub room_stored : (old new : ActiveClauses) (id : ℕ) (clause xs ys : List ℕ) → AddsActiveClause old new id clause → HasRoomForPresent xs old → RoomIsKept xs ys → HasClauseRoom ys clause → HasRoomForPresent ys new
room_stored old new id clause xs ys a h k m j c e = go (eqb j id) (sym (a.clauses j) ∙ e)
  where
    go : (b : Bool) → cond b (Some clause) (active_clause old j) ≡ Some c → HasClauseRoom ys c
    go true f = let g : clause ≡ c = cc in subst (HasClauseRoom ys) g m
    go false f = room_still old xs ys k h j c f

pub derived_faulty : (old new : LineChecker) (id : ℕ) (clause ids : List ℕ) (why : HintWhy) → old.least_id ≤ id → WhyNotRefuted old.active (signed true clause) ids (Some why) → SameExceptRoom old new → UncountedLineResult (Some why) old new (Derived id clause ids)
derived_faulty old new id clause ids why l r s = (s.lines, derived_refuted old id clause ids (Some why) l r)

empty_length : (ls : List ℕ) → is_empty ls ≡ eqb (length ls) 0
empty_length [] = refl
empty_length (l ∷ ls) = sym (never (eqb (length (l ∷ ls)) 0) refl)
  where
    never : (b : Bool) → eqb (length (l ∷ ls)) 0 ≡ b → eqb (length (l ∷ ls)) 0 ≡ false
    never true e = absurd (let f : length (l ∷ ls) ≡ 0 = eqb-true (length (l ∷ ls)) 0 e in omega arith)
    never false e = e

pub derived_taken : (old mid last new : LineChecker) (id : ℕ) (clause ids : List ℕ) (e : Bool) → IsReadyChecker old → old.least_id ≤ id → WhyNotRefuted old.active (signed true clause) ids None → SameExceptRoom old mid → StoresClause mid last id clause → e ≡ (eqb (length clause) 0 || last.empty) → new ≡ record last { empty = e } → UncountedLineResult None old new (Derived id clause ids)
derived_taken old mid last new id clause ids e y l r m s f n = (
  subst IsReadyChecker (sym n) (let k = stored_ready mid last id clause (subst (λ x. UnitBoundsWithin x id) (sym m.active) (since_later old id y l)) s in record { active = k.active; below = k.below; unit_bounds = k.unit_bounds; nothing = k.nothing; room = k.room }),
  ap (λ j. j.lines) n ∙ s.lines ∙ m.lines,
  λ lines t. record {
    follows = derived_refuted old id clause ids None l r lines t;
    clauses = λ j. ap (λ k. active_clause k.active j) n ∙ s.adds.clauses j ∙ ap (λ o. cond (eqb j id) (Some (canonical clause)) o) (ap (λ p. active_clause p j) m.active ∙ t.clauses j);
    least = ap (λ j. j.least_id) n ∙ s.least;
    says_empty = ap (λ j. j.empty) n ∙ f ∙ ap (λ b. eqb (length clause) 0 || b) (s.empty ∙ m.empty ∙ t.says_empty) ∙ ap (λ b. b || derives_empty lines) (sym (empty_length clause));
    counts_cores = ap (λ j. j.cores) n ∙ s.cores ∙ m.cores ∙ t.counts_cores;
  },
)

-- REMOVED CLAUSES
some_clause : (o : Option (List ℕ)) → o ≢ None → (c : List ℕ) × (o ≡ Some c)
some_clause None h = absurd (h refl)
some_clause (Some c) h = (c, refl)

gone_follows : (s : ActiveClauses) (id : ℕ) (lines : List Line) → ((j : ℕ) → active_clause s j ≡ clause_under j lines) → active_clause s id ≢ None → FollowsLines lines (Removed id)
gone_follows s id lines same h =
    let c = some_clause (active_clause s id) h in
    record { in_order = tt; clauses = c.0 ∷ []; present = ap (λ o. and_clauses o (Some [])) (sym (same id) ∙ c.1); conflict = tt; unused = λ u. u }

-- a line that removes a present clause may follow
pub gone_may : (old : LineChecker) (id : ℕ) → active_clause old.active id ≢ None → FollowsAccepted old (Removed id)
gone_may old id h lines t = gone_follows old.active id lines t.clauses h

room_less : (s p : ActiveClauses) (id : ℕ) (room : List ℕ) → ((j : ℕ) → active_clause p j ≡ cond (eqb j id) None (active_clause s j)) → HasRoomForPresent room s → HasRoomForPresent room p
room_less s p id room same h j c e = go (eqb j id) (sym (same j) ∙ e)
  where
    go : (b : Bool) → cond b None (active_clause s j) ≡ Some c → HasClauseRoom room c
    go true f = absurd cc
    go false f = h j c f

pub gone_taken : (old new : LineChecker) (id : ℕ) (p : ActiveClauses) → IsReadyChecker old → active_clause old.active id ≢ None → RemovesActiveClause old.active p id → new ≡ record old { active = p } → UncountedLineResult None old new (Removed id)
gone_taken old new id p r h l n = (
  subst IsReadyChecker (sym n) (record { active = l.active; below = l.below old.least_id r.below; unit_bounds = λ v. subst (λ x. value_at 0 x v ≤ old.least_id) (sym l.unit_bounds) (r.unit_bounds v); nothing = r.nothing; room = room_less old.active p id old.assumed.room l.clauses r.room }),
  ap (λ j. j.lines) n,
  λ lines t. record {
    follows = gone_follows old.active id lines t.clauses h;
    clauses = λ j. ap (λ k. active_clause k.active j) n ∙ l.clauses j ∙ ap (λ o. cond (eqb j id) None o) (t.clauses j);
    least = ap (λ j. j.least_id) n ∙ t.least;
    says_empty = ap (λ j. j.empty) n ∙ t.says_empty;
    counts_cores = ap (λ j. j.cores) n ∙ t.counts_cores;
  },
)

-- CORES
core_refuted : (old : LineChecker) (core ids : List ℕ) (why : Option HintWhy) → WhyNotRefuted old.active (signed false core) ids why → (lines : List Line) → HasAcceptedLines old lines → Says_of why lines (Core core ids)
core_refuted old core ids why r lines t = refuted lines (Core core ids) core tt refl old.active why t.clauses r

pub core_faulty : (old new : LineChecker) (core ids : List ℕ) (why : HintWhy) → WhyNotRefuted old.active (signed false core) ids (Some why) → SameExceptRoom old new → UncountedLineResult (Some why) old new (Core core ids)
core_faulty old new core ids why r s = (s.lines, core_refuted old core ids (Some why) r)

one_more : (n count m : ℕ) → n ≡ capped count → m ≡ min (n + 1) (2 ^ 64 - 1) → m ≡ capped (1 + count)
one_more n count m e f = omega arith

pub core_taken : (old mid new : LineChecker) (core ids : List ℕ) (n : ℕ) → IsReadyChecker old → WhyNotRefuted old.active (signed false core) ids None → SameExceptRoom old mid → n ≡ min (mid.cores + 1) (2 ^ 64 - 1) → new ≡ record mid { cores = n } → UncountedLineResult None old new (Core core ids)
core_taken old mid new core ids n r h m f e = (
  subst IsReadyChecker (sym e) (let k = same_ready old mid r m in record { active = k.active; below = k.below; unit_bounds = k.unit_bounds; nothing = k.nothing; room = k.room }),
  ap (λ j. j.lines) e ∙ m.lines,
  λ lines t. record {
    follows = core_refuted old core ids None h lines t;
    clauses = λ j. ap (λ k. active_clause k.active j) e ∙ ap (λ p. active_clause p j) m.active ∙ t.clauses j;
    least = ap (λ j. j.least_id) e ∙ m.least ∙ t.least;
    says_empty = ap (λ j. j.empty) e ∙ m.empty ∙ t.says_empty;
    counts_cores = ap (λ j. j.cores) e ∙ one_more mid.cores (core_count lines) n (m.cores ∙ t.counts_cores) f;
  },
)

pub fresh_faulty : (old new : LineChecker) (v : ℕ) → IsUsed old.active v → new.lines ≡ old.lines → UncountedLineResult (Some VarInUse) old new (Fresh v)
fresh_faulty old new v u n = (n, λ lines t. record { id = u.id; clause = u.clause; present = sym (t.clauses u.id) ∙ u.present; long = u.long; within = u.within })
