-- Marked literals, and how they represent the causes of a conflict.
use Rattle.std.proofs.Common.{ℕ, zero, suc, ◌≤◌, ◌+◌, ◌-◌, ◌<◌, ◌≡◌, Bool, true, false, not, ◌||◌, cond, eqb, List, [], ◌∷◌, ◌++◌, length, drop, get_or, map, filter, reverse, refl, sym, ◌∙◌, ap, subst, Some, arith, MatchBool}
use Rattle.std.proofs.lemmas.Bool.{eqb-true}
use Rattle.std.proofs.lemmas.List.{drop_more, reverse-append}
use Rattle.sat_base.specs.values.Literals.{negated}
use Rattle.std.specs.List.{AllByRecursion}
use Rattle.sat_checker.specs.Looks.{total_length}
use Rattle.sat_checker.specs.announcements.Following.{with_causes}
use Rattle.sat_checker.specs.declared.rup.passed.Reason as noted
use Rattle.sat_checker.specs.LiteralSets.{is_among}
use Rattle.sat_checker.specs.Stored.{StoredClause}
use Rattle.sat_checker.specs.announcements.Needed.{ConflictCauses, negations_except, with_cause}
use Rattle.sat_checker.specs.inner.NeededView.{MarksCauses}
use Rattle.sat_checker.specs.inner.AssumedRoom.{AssumesOnce, LiteralsAndRoom, with_room}
use Rattle.sat_checker.specs.inner.WalkNotes.{WalkNotes}
use Rattle.sat_checker.specs.inner.SlotView.{Slot, literals_at}
use Rattle.sat_checker.specs.inner.Reasons.{clause_at, reason_in, conflict_at, conflict_length, noted_length}
use Rattle.sat_checker.specs.declared.rup.needed.Needed.{Needed}
use Rattle.sat_checker.proofs.lemmas.sets.Order.{among-append}

mark_had : (marked : List ℕ) (l : ℕ) → is_among marked l ≡ true → (m : ℕ) → is_among marked m ≡ (eqb l m || is_among marked m)
mark_had marked l t m = go (eqb l m) refl
  where
    go : (b : Bool) → eqb l m ≡ b → is_among marked m ≡ (b || is_among marked m)
    go true e = subst (λ x. is_among marked x ≡ true) (eqb-true l m e) t
    go false e = refl

pub mark_once : (old new : LiteralsAndRoom) (l : ℕ) → AssumesOnce l old new → (m : ℕ) → is_among new.literals m ≡ (eqb l m || is_among old.literals m)
mark_once old new l h = go (is_among old.literals l) refl h
  where
    go : (b : Bool) → is_among old.literals l ≡ b → MatchBool b (new ≡ old) (new ≡ record { literals = l ∷ old.literals; room = with_room l old.room }) → (m : ℕ) → is_among new.literals m ≡ (eqb l m || is_among old.literals m)
    go true e k m = ap (λ (t : LiteralsAndRoom). is_among t.literals m) k ∙ mark_had old.literals l e m
    go false e k m = ap (λ (t : LiteralsAndRoom). is_among t.literals m) k

turned : (a b d : Bool) → (b || (a || d)) ≡ ((a || b) || d)
turned true true d = refl
turned true false d = refl
turned false true d = refl
turned false false d = refl

-- the remaining literals and the marked ones are all literals to mark and those marked initially
abbrev pub MarksLeft : List ℕ → List ℕ → List ℕ → List ℕ → Type 0
MarksLeft left marked all old = (m : ℕ) → (is_among left m || is_among marked m) ≡ (is_among all m || is_among old m)

pub mark_one : (l : ℕ) (left marked new all old : List ℕ) → MarksLeft (l ∷ left) marked all old → ((m : ℕ) → is_among new m ≡ (eqb l m || is_among marked m)) → MarksLeft left new all old
mark_one l left marked new all old h k m = ap (λ b. is_among left m || b) (k m) ∙ turned (eqb l m) (is_among left m) (is_among marked m) ∙ h m

module _ (clause marked new all old : List ℕ) (i : ℕ) (inside : i < length clause) where
  pub mark_next : MarksLeft (map negated (drop i clause)) marked all old → ((m : ℕ) → is_among new m ≡ (eqb (negated (get_or clause i 0)) m || is_among marked m)) → MarksLeft (map negated (drop (i + 1) clause)) new all old
  mark_next h k = mark_one (negated (get_or clause i 0)) (map negated (drop (i + 1) clause)) marked new all old (subst (λ xs. MarksLeft (map negated xs) marked all old) (drop_more clause i 0 inside) h) k

  pub mark_other : (o : ℕ) → MarksLeft (negations_except o (drop i clause)) marked all old → eqb (get_or clause i 0) o ≡ false → ((m : ℕ) → is_among new m ≡ (eqb (negated (get_or clause i 0)) m || is_among marked m)) → MarksLeft (negations_except o (drop (i + 1) clause)) new all old
  mark_other o h d k =
      let here : negations_except o (drop i clause) ≡ negated (get_or clause i 0) ∷ negations_except o (drop (i + 1) clause) =
      ap (negations_except o) (drop_more clause i 0 inside) ∙ ap (λ b. map negated (cond (not b) (get_or clause i 0 ∷ filter (λ m. not (eqb m o)) (drop (i + 1) clause)) (filter (λ m. not (eqb m o)) (drop (i + 1) clause)))) d in
      mark_one (negated (get_or clause i 0)) (negations_except o (drop (i + 1) clause)) marked new all old (subst (λ xs. MarksLeft xs marked all old) here h) k

  pub mark_open : (o : ℕ) → MarksLeft (negations_except o (drop i clause)) marked all old → eqb (get_or clause i 0) o ≡ true → MarksLeft (negations_except o (drop (i + 1) clause)) marked all old
  mark_open o h d =
      let here : negations_except o (drop i clause) ≡ negations_except o (drop (i + 1) clause) =
      ap (negations_except o) (drop_more clause i 0 inside) ∙ ap (λ b. map negated (cond (not b) (get_or clause i 0 ∷ filter (λ m. not (eqb m o)) (drop (i + 1) clause)) (filter (λ m. not (eqb m o)) (drop (i + 1) clause)))) d in
      subst (λ xs. MarksLeft xs marked all old) here h

pub ruleset marking = (mark_next, mark_other, mark_open)

pub or_none : (b : Bool) → (b || false) ≡ b
or_none true = refl
or_none false = refl

drop_whole : (xs : List ℕ) → drop (length xs) xs ≡ []
drop_whole [] = refl
drop_whole (x ∷ xs) = drop_whole xs

pub none_left : (xs : List ℕ) → drop (length xs - 0) xs ≡ []
none_left xs = let e : length xs - 0 ≡ length xs = omega arith in ap (λ n. drop n xs) e ∙ drop_whole xs

pub begins : (ss : List Slot) (place : ℕ) (needed : Needed) (marked : List ℕ) → marked ≡ [] → ((m : ℕ) → is_among needed.marked.literals m ≡ (is_among (map negated (literals_at ss place)) m || is_among marked m)) → needed.ids.items ≡ (clause_at ss place).id ∷ [] → MarksCauses needed (conflict_at ss (Some place))
begins ss place needed marked e h k = record {
  marked = λ m. h m ∙ ap (λ xs. is_among (map negated (literals_at ss place)) m || is_among xs m) e ∙ or_none (is_among (map negated (literals_at ss place)) m);
  ids = k;
}

module _ (old new : Needed) (c : StoredClause) (l : ℕ) (g : ConflictCauses) (f : MarksCauses old g) where
  pub not_needed : is_among old.marked.literals l ≡ false → MarksCauses old (with_cause l c g)
  not_needed n = subst (λ b. MarksCauses old (cond b (record { literals = negations_except l c.literals ++ g.literals; clauses = c ∷ g.clauses }) g)) (sym (sym (f.marked l) ∙ n)) f

  pub is_needed : is_among old.marked.literals l ≡ true → ((m : ℕ) → is_among new.marked.literals m ≡ (is_among (negations_except l c.literals) m || is_among old.marked.literals m)) → new.ids.items ≡ old.ids.items ++ c.id ∷ [] → MarksCauses new (with_cause l c g)
  is_needed t h k = subst (λ b. MarksCauses new (cond b (record { literals = negations_except l c.literals ++ g.literals; clauses = c ∷ g.clauses }) g)) (sym (sym (f.marked l) ∙ t)) (record {
    marked = λ m. h m ∙ ap (λ b. is_among (negations_except l c.literals) m || b) (f.marked m) ∙ sym (among-append (negations_except l c.literals) g.literals m);
    ids = k ∙ ap (λ xs. xs ++ c.id ∷ []) f.ids ∙ sym (reverse_more c.id (map (λ x. x.id) g.clauses));
  })
    where
      reverse_more : (x : ℕ) (xs : List ℕ) → reverse (x ∷ xs) ≡ reverse xs ++ x ∷ []
      reverse_more x xs = reverse-append (x ∷ []) xs

pub ruleset following = (begins, not_needed, is_needed)

all_drop : (ss : List Slot) (i : ℕ) (xs : List noted.Reason) → AllByRecursion (λ x. x.place < length ss) xs → AllByRecursion (λ x. x.place < length ss) (drop i xs)
all_drop ss zero xs h = h
all_drop ss (suc i) [] h = h
all_drop ss (suc i) (x ∷ xs) h = all_drop ss i xs h.1

-- one more note is followed, from the last to the first
module _ (ss : List Slot) (rs : List noted.Reason) (k n : ℕ) (r : noted.Reason) (next : k + 1 ≡ n) (inside : k < length rs) (there : get_or rs k r ≡ r) where
  from_here : drop k rs ≡ r ∷ drop n rs
  from_here = drop_more rs k r inside ∙ ap (λ x. x ∷ drop (k + 1) rs) there ∙ ap (λ i. r ∷ drop i rs) next

  pub back_next : (needed : Needed) (g : ConflictCauses) → MarksCauses needed (with_cause r.lit (clause_at ss r.place) (with_causes (map (reason_in ss) (drop n rs)) g)) → MarksCauses needed (with_causes (map (reason_in ss) (drop k rs)) g)
  back_next needed g h = subst (λ xs. MarksCauses needed (with_causes (map (reason_in ss) xs) g)) (sym from_here) h

  pub read_next : (old looks new base : ℕ) → looks ≤ old + base + total_length (map (λ x. literals_at ss x.place) (drop n rs)) → new ≤ looks + length (literals_at ss r.place) → new ≤ old + base + total_length (map (λ x. literals_at ss x.place) (drop k rs))
  read_next old looks new base h l =
      let e : total_length (map (λ x. literals_at ss x.place) (drop k rs)) ≡ length (literals_at ss r.place) + total_length (map (λ x. literals_at ss x.place) (drop n rs)) =
      ap (λ xs. total_length (map (λ (x : noted.Reason). literals_at ss x.place) xs)) from_here in
      omega arith

  pub there_at : AllByRecursion (λ x. x.place < length ss) rs → r.place < length ss
  there_at h =
      let q : AllByRecursion (λ x. x.place < length ss) (r ∷ drop n rs) = subst (AllByRecursion (λ x. x.place < length ss)) from_here (all_drop ss k rs h) in q.0

total_left : (ss : List Slot) (i : ℕ) (xs : List noted.Reason) → total_length (map (λ x. literals_at ss x.place) (drop i xs)) ≤ total_length (map (λ x. literals_at ss x.place) xs)
total_left ss zero xs = omega arith
total_left ss (suc i) [] = omega arith
total_left ss (suc i) (x ∷ xs) = let h : total_length (map (λ y. literals_at ss y.place) (drop i xs)) ≤ total_length (map (λ y. literals_at ss y.place) xs) = total_left ss i xs in omega arith

-- at most as many looks are needed as the noted clauses have literals
pub within_notes : (ss : List Slot) (passed : WalkNotes) (place i old new : ℕ) → passed.conflict ≡ Some place → new ≤ old + length (literals_at ss place) + total_length (map (λ x. literals_at ss x.place) (drop i passed.reasons)) → new ≤ old + noted_length ss passed
within_notes ss passed place i old new e h =
    let c : conflict_length ss passed.conflict ≡ length (literals_at ss place) = ap (conflict_length ss) e in
    let t : total_length (map (λ x. literals_at ss x.place) (drop i passed.reasons)) ≤ total_length (map (λ x. literals_at ss x.place) passed.reasons) = total_left ss i passed.reasons in
    omega arith
