-- The walk over clauses, one clause at a time.
use Rattle.std.proofs.Common.{ℕ, suc, ◌+◌, ◌-◌, ◌<◌, ◌≤◌, ◌≡◌, ◌≢◌, Bool, true, false, not, cond, eqb, List, [], ◌∷◌, length, drop, get_or, map, filter, refl, sym, ◌∙◌, ap, subst, arith, Option, Some, None, inl, inr}
use Rattle.std.proofs.lemmas.Bool.{or_cases, or_left, or_right, eq-eqb}
use Rattle.std.proofs.lemmas.List.{drop_more, drop-drop}
use Rattle.std.specs.Prelude.{find}
use Rattle.sat_checker.specs.Looks.{total_length}
use Rattle.sat_checker.specs.LiteralSets.{is_among}
use Rattle.sat_base.specs.values.Literals.{negated}
use Rattle.sat_checker.specs.inner.WalkResults.{AssumesMore}
use Rattle.sat_checker.specs.inner.AssumedRoom.{LiteralsAndRoom, with_room, RoomIsKept, HasClauseRoom, HasClausesRoom}
use Rattle.sat_checker.proofs.lemmas.sets.Members.{each_at, each_mapped}
use Rattle.sat_checker.proofs.lemmas.sets.Rooms.{room_stays}
use Rattle.sat_checker.specs.inner.Walk.{becomes_unit, neither, clause_state, state_by_open, not_false, walk, walk_clause, and_then, walk_buckets, if_conflict}

-- the open literal of a unit clause is not assumed yet
opens_from : (assumed ls : List ℕ) (l : ℕ) → state_by_open assumed ls ≡ becomes_unit l → is_among assumed l ≡ false
opens_from assumed [] l e = absurd cc
opens_from assumed (m ∷ []) l e = go (is_among assumed m) refl e
  where
    go : (b : Bool) → is_among assumed m ≡ b → cond b neither (becomes_unit m) ≡ becomes_unit l → is_among assumed l ≡ false
    go true h e' = absurd cc
    go false h e' = let same : m ≡ l = cc in subst (λ x. is_among assumed x ≡ false) same h
opens_from assumed (m ∷ n ∷ ls) l e = absurd cc

pub opens_new : (assumed clause : List ℕ) (l : ℕ) → clause_state assumed clause ≡ becomes_unit l → is_among assumed l ≡ false
opens_new assumed clause l e = opens_from assumed (not_false assumed clause) l e

-- the open literal is in the clause
filter_among : (test : ℕ → Bool) (ls : List ℕ) (l : ℕ) → is_among (filter test ls) l ≡ true → is_among ls l ≡ true
filter_among test [] l h = h
filter_among test (m ∷ ms) l h = go (filter_among test ms l) (test m) h
  where
    go : (is_among (filter test ms) l ≡ true → is_among ms l ≡ true) → (b : Bool) → is_among (cond b (m ∷ filter test ms) (filter test ms)) l ≡ true → is_among (m ∷ ms) l ≡ true
    go ih true k = elim (or_cases (eqb m l) (is_among (filter test ms) l) k) [ inl e ↦ or_left (eqb m l) (is_among ms l) e | inr r ↦ or_right (eqb m l) (is_among ms l) (ih r) ]
    go ih false k = or_right (eqb m l) (is_among ms l) (ih k)

among_open : (assumed ls : List ℕ) (l : ℕ) → state_by_open assumed ls ≡ becomes_unit l → is_among ls l ≡ true
among_open assumed [] l e = absurd cc
among_open assumed (m ∷ []) l e = go (is_among assumed m) e
  where
    go : (b : Bool) → cond b neither (becomes_unit m) ≡ becomes_unit l → is_among (m ∷ []) l ≡ true
    go true e' = absurd cc
    go false e' = let same : m ≡ l = cc in or_left (eqb m l) false (eq-eqb m l same)
among_open assumed (m ∷ n ∷ ls) l e = absurd cc

pub opens_among : (assumed clause : List ℕ) (l : ℕ) → clause_state assumed clause ≡ becomes_unit l → is_among clause l ≡ true
opens_among assumed clause l e = filter_among (λ m. not (is_among assumed (negated m))) clause l (among_open assumed (not_false assumed clause) l e)

-- if there is room for the clause, there is room for its open literal
pub opens_roomy : (room assumed clause : List ℕ) (l : ℕ) → clause_state assumed clause ≡ becomes_unit l → HasClauseRoom room clause → is_among room l ≡ true
opens_roomy room assumed clause l e h = (each_at (λ m. (is_among room m ≡ true) × (is_among room (negated m) ≡ true)) clause l h (opens_among assumed clause l e)).0

-- assuming the open literal then needs no more room
pub opens_same : (room assumed clause : List ℕ) (l : ℕ) → clause_state assumed clause ≡ becomes_unit l → HasClauseRoom room clause → with_room l room ≡ room
opens_same room assumed clause l e h = ap (λ b. cond b room (l ∷ negated l ∷ room)) (opens_roomy room assumed clause l e h)

-- a clause that has room still has it if more literals have room
pub roomy_further : (old new clause : List ℕ) → RoomIsKept old new → HasClauseRoom old clause → HasClauseRoom new clause
roomy_further old new [] s h = tt
roomy_further old new (l ∷ ls) s h = ((s l h.0.0, s (negated l) h.0.1), roomy_further old new ls s h.1)

-- if the clauses at all places have room, so has the clause at one of them
pub roomy_at : (old new : List ℕ) (literals : ℕ → List ℕ) (places : List ℕ) (place : ℕ) → RoomIsKept old new → is_among places place ≡ true → HasClausesRoom old (map literals places) → HasClauseRoom new (literals place)
roomy_at old new literals places place s among h = roomy_further old new (literals place) s (each_at (λ p. HasClauseRoom old (literals p)) places place (each_mapped (HasClauseRoom old) literals places h) among)

pub Extends-itself : (t : LiteralsAndRoom) → AssumesMore t t
Extends-itself t = record { longer = omega arith; below = let e : length t.literals - length t.literals ≡ 0 = omega arith in rw e refl; room = λ l h. h }

pub Extends-more : (old mid new : LiteralsAndRoom) (l : ℕ) → AssumesMore old mid → new.literals ≡ l ∷ mid.literals → RoomIsKept mid.room new.room → AssumesMore old new
Extends-more old mid new l h e s =
    let k : length old.literals ≤ length mid.literals = h.longer in
    let n : length new.literals ≡ suc (length mid.literals) = ap length e in
    let d : length new.literals - length old.literals ≡ suc (length mid.literals - length old.literals) = omega arith in
    record {
      longer = omega arith;
      below = ap (λ i. drop i new.literals) d ∙ ap (drop (suc (length mid.literals - length old.literals))) e ∙ h.below;
      room = λ m r. s m (h.room m r);
    }

-- one more literal is assumed, with room for it
pub Extends-assumed : (old mid new : LiteralsAndRoom) (l : ℕ) → AssumesMore old mid → new ≡ record { literals = l ∷ mid.literals; room = with_room l mid.room } → AssumesMore old new
Extends-assumed old mid new l h e =
    Extends-more old mid new l h (ap (λ (t : LiteralsAndRoom). t.literals) e) (λ m k. subst (λ (t : LiteralsAndRoom). is_among t.room m ≡ true) (sym e) (room_stays l mid.room m k))

-- the first of the remaining places, and those after it
module _ (literals : ℕ → List ℕ) (places : List ℕ) (i : ℕ) (inside : i < length places) where
  pub next_place : map literals (drop i places) ≡ literals (get_or places i 0) ∷ map literals (drop (i + 1) places)
  next_place = ap (map literals) (drop_more places i 0 inside)

  pub walk_next : (assumed : List ℕ) → walk assumed (map literals (drop i places)) ≡ walk assumed (literals (get_or places i 0) ∷ map literals (drop (i + 1) places))
  walk_next assumed = ap (walk assumed) next_place

  pub find_next : (test : ℕ → Bool) → find test (drop i places) ≡ cond (test (get_or places i 0)) (Some (get_or places i 0)) (find test (drop (i + 1) places))
  find_next test = ap (find test) (drop_more places i 0 inside)

  pub sum_next : total_length (map literals (drop i places)) ≡ length (literals (get_or places i 0)) + total_length (map literals (drop (i + 1) places))
  sum_next = ap (total_length) next_place

-- the walk after one clause, by its verdict
pub walk-reached : (assumed clause : List ℕ) (rest : List (List ℕ)) (more : List ℕ) → walk_clause (clause_state assumed clause) assumed ≡ Some more → walk assumed (clause ∷ rest) ≡ walk more rest
walk-reached assumed clause rest more e = ap (λ o. and_then o (λ m. walk m rest)) e

pub walk-conflict : (assumed clause : List ℕ) (rest : List (List ℕ)) → walk_clause (clause_state assumed clause) assumed ≡ None → walk assumed (clause ∷ rest) ≡ None
walk-conflict assumed clause rest e = ap (λ o. and_then o (λ m. walk m rest)) e

-- the walk visits the clause at index `i`, and those after it remain
module _ (literals : ℕ → List ℕ) (places : List ℕ) (i : ℕ) (inside : i < length places) where
  pub walk_more : (whole : Option (List ℕ)) (mid more : List ℕ) → whole ≡ walk mid (map literals (drop i places)) → walk_clause (clause_state mid (literals (get_or places i 0))) mid ≡ Some more → whole ≡ walk more (map literals (drop (i + 1) places))
  walk_more whole mid more h e = h ∙ walk_next literals places i inside mid ∙ walk-reached mid (literals (get_or places i 0)) (map literals (drop (i + 1) places)) more e

  pub walk_ends : (whole : Option (List ℕ)) (mid : List ℕ) → whole ≡ walk mid (map literals (drop i places)) → walk_clause (clause_state mid (literals (get_or places i 0))) mid ≡ None → whole ≡ None
  walk_ends whole mid h e = h ∙ walk_next literals places i inside mid ∙ walk-conflict mid (literals (get_or places i 0)) (map literals (drop (i + 1) places)) e

  pub looks_more : (most before after : ℕ) → before + total_length (map literals (drop i places)) ≡ most → after ≡ before + length (literals (get_or places i 0)) → after + total_length (map literals (drop (i + 1) places)) ≡ most
  looks_more most before after h e = omega (arith, sum_next literals places i inside)

  pub looks_ended : (most before after : ℕ) → before + total_length (map literals (drop i places)) ≡ most → after ≡ before + length (literals (get_or places i 0)) → after ≤ most
  looks_ended most before after h e = omega (arith, sum_next literals places i inside)

pub Extends-further : (old mid new : LiteralsAndRoom) → AssumesMore old mid → AssumesMore mid new → AssumesMore old new
Extends-further old mid new h k =
    let p : length old.literals ≤ length mid.literals = h.longer in
    let q : length mid.literals ≤ length new.literals = k.longer in
    let e : length new.literals - length old.literals ≡ (length new.literals - length mid.literals) + (length mid.literals - length old.literals) = omega arith in
    record {
      longer = omega arith;
      below = ap (λ n. drop n new.literals) e ∙ sym (drop-drop (length mid.literals - length old.literals) (length new.literals - length mid.literals) new.literals)
          ∙ ap (drop (length mid.literals - length old.literals)) k.below ∙ h.below;
      room = λ l r. k.room l (h.room l r);
    }

-- after newer literals are forgotten, the old ones are assumed, and no literal loses its room
pub Extends-undone : (old mid new : LiteralsAndRoom) (left : ℕ) → AssumesMore old mid → left ≡ length old.literals → new ≡ record mid { literals = drop (length mid.literals - left) mid.literals } → (new.literals ≡ old.literals) × RoomIsKept old.room new.room
Extends-undone old mid new left h n e = (
  ap (λ (t : LiteralsAndRoom). t.literals) e ∙ ap (λ k. drop (length mid.literals - k) mid.literals) n ∙ h.below,
  (λ l k. subst (λ (t : LiteralsAndRoom). is_among t.room l ≡ true) (sym e) (h.room l k)),
)

pub ruleset meeting = (opens_new, Extends-itself, Extends-assumed)

pub ruleset walking = (Extends-itself, Extends-further, walk_next, sum_next, walk-reached, walk-conflict)

module _ (bucket_of : ℕ → List (List ℕ)) (hashes : List ℕ) (i : ℕ) (inside : i < length hashes) (assumed more : List ℕ) where
  -- the bucket at index `i` is visited first
  pub buckets-open : bucket_of (get_or hashes i 0) ≢ [] → walk assumed (bucket_of (get_or hashes i 0)) ≡ Some more → walk_buckets assumed (map (bucket_of) (drop i hashes)) ≡ walk_buckets more (map (bucket_of) (drop (i + 1) hashes))
  buckets-open full e = rw (drop_more hashes i 0 inside) (go (bucket_of (get_or hashes i 0)) full e)
    where
      go : (b : List (List ℕ)) → b ≢ [] → walk assumed b ≡ Some more → walk_buckets assumed (b ∷ map (bucket_of) (drop (i + 1) hashes)) ≡ walk_buckets more (map (bucket_of) (drop (i + 1) hashes))
      go [] f k = absurd (f refl)
      go (c ∷ cs) f k = ap (λ o. if_conflict o (λ m. walk_buckets m (map (bucket_of) (drop (i + 1) hashes)))) k

  pub buckets-conflict : walk assumed (bucket_of (get_or hashes i 0)) ≡ None → walk_buckets assumed (map (bucket_of) (drop i hashes)) ≡ true
  buckets-conflict e = rw (drop_more hashes i 0 inside) (go (bucket_of (get_or hashes i 0)) e)
    where
      go : (b : List (List ℕ)) → walk assumed b ≡ None → walk_buckets assumed (b ∷ map (bucket_of) (drop (i + 1) hashes)) ≡ true
      go [] k = absurd cc
      go (c ∷ cs) k = ap (λ o. if_conflict o (λ m. walk_buckets m (map (bucket_of) (drop (i + 1) hashes)))) k

  pub buckets-empty : bucket_of (get_or hashes i 0) ≡ [] → walk_buckets assumed (map (bucket_of) (drop i hashes)) ≡ false
  buckets-empty e = rw (drop_more hashes i 0 inside) (ap (λ b. walk_buckets assumed (b ∷ map (bucket_of) (drop (i + 1) hashes))) e)

pub ruleset over_buckets = (Extends-itself, Extends-further, buckets-open, buckets-conflict, buckets-empty)
