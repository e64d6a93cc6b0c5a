-- Removed clauses are dropped, and the others change only their places.
use Rattle.std.proofs.Common.{ℕ, zero, suc, ◌+◌, ◌<◌, ◌≤◌, ◌≡◌, inl, inr, Bool, true, false, not, ◌&&◌, cond, eqb, List, [], ◌∷◌, ◌++◌, length, length-append, take, drop, Option, refl, sym, ◌∙◌, ap, subst, arith, slice_set}
use Rattle.std.proofs.lemmas.Bool.{or_left, or_right, eq-eqb}
use Rattle.std.proofs.lemmas.List.{append-nil, append_assoc, drop_more}
use Rattle.std.proofs.lemmas.List.Elements.{filter_more}
use Rattle.std.specs.List.{AllByRecursion}
use Rattle.sat_checker.specs.LiteralSets.{is_among}
use Rattle.sat_checker.specs.Stored.{Stored, clause_hash_by}
use Rattle.sat_checker.specs.Storing.{with_count, without_count}
use Rattle.sat_checker.specs.inner.Marks.{IsIncreasing}
use Rattle.sat_checker.specs.inner.IndexView.{IndexesSlots, slot_pairs_from}
use Rattle.sat_checker.specs.inner.PairView.{Indexed, places_in, mixed}
use Rattle.sat_checker.specs.inner.OccurrenceView.{times_in, times_stored, SlotsInvariant}
use Rattle.sat_checker.specs.inner.SlotView.{Slot, removed_slot, slot_at, stored_slot, is_removed, is_filed, places_from, removed_count, slots_not_removed, CompactsOrKeeps, live_clauses, slot_ids, slot_count, with_count_at, without_count_at, all_hashed_by}
use Rattle.sat_checker.specs.inner.StoreView.{AreHashed, RepresentsClauses, AreIdsInOrder, PreservesIdOrder}
use Rattle.sat_checker.specs.declared.hash.ClauseHasher.{ClauseHasher}
use Rattle.sat_checker.specs.declared.store.occurrences.Occurrences.{Occurrences}
use Rattle.sat_checker.specs.declared.store.Store.{Store}
use Rattle.sat_checker.proofs.lemmas.store.Places.{gone_more, gone_not, set_at}

-- the number of removed clauses, as slots are appended and replaced
gone_push : (ss : List Slot) (s : Slot) → removed_count (ss ++ s ∷ []) ≡ removed_count ss + cond (is_removed s) 1 0
gone_push [] s = omega arith
gone_push (t ∷ ss) s = let ih : removed_count (ss ++ s ∷ []) ≡ removed_count ss + cond (is_removed s) 1 0 = gone_push ss s in omega (arith, ih)

pub gone_stored : (r : Bool) (id hash : ℕ) (ls : List ℕ) (ss new : List Slot) → new ≡ ss ++ stored_slot r id hash ls ∷ [] → removed_count new ≡ removed_count ss
gone_stored true id hash ls ss new e = let a : removed_count (ss ++ stored_slot true id hash ls ∷ []) ≡ removed_count ss + 0 = gone_push ss (stored_slot true id hash ls) in ap removed_count e ∙ a ∙ (let z : removed_count ss + 0 ≡ removed_count ss = omega arith in z)
gone_stored false id hash ls ss new e = let a : removed_count (ss ++ stored_slot false id hash ls ∷ []) ≡ removed_count ss + 0 = gone_push ss (stored_slot false id hash ls) in ap removed_count e ∙ a ∙ (let z : removed_count ss + 0 ≡ removed_count ss = omega arith in z)

gone_set : (ss : List Slot) (i : ℕ) (t : Slot) → i < length ss → removed_count (slice_set ss i t) + cond (is_removed (slot_at ss i)) 1 0 ≡ removed_count ss + cond (is_removed t) 1 0
gone_set [] i t k = absurd (omega arith)
gone_set (s ∷ ss) zero t k = omega arith
gone_set (s ∷ ss) (suc i) t k = let ih : removed_count (slice_set ss i t) + cond (is_removed (slot_at ss i)) 1 0 ≡ removed_count ss + cond (is_removed t) 1 0 = gone_set ss i t (omega arith) in omega (arith, ih)

abbrev as_one : Bool → ℕ
as_one b = cond b 1 0

one_if : (b d : Bool) → b ≡ d → as_one b ≡ as_one d
one_if b d e = ap as_one e

pub gone_counted : (r : Bool) (i : ℕ) (old ss new : List Slot) → old ≡ ss → i < length ss → is_removed (slot_at ss i) ≡ false → new ≡ with_count_at r i old → removed_count new ≡ removed_count old
gone_counted r i old ss new is l g e =
    let t : Slot = record (slot_at ss i) { clause = with_count r (slot_at ss i).clause } in
    let a : removed_count (slice_set ss i t) + cond (is_removed (slot_at ss i)) 1 0 ≡ removed_count ss + cond (is_removed t) 1 0 = gone_set ss i t l in
    let b = one_if (is_removed (slot_at ss i)) false g in
    let c = one_if (is_removed t) false (gone_more (slot_at ss i).clause (slot_at ss i).hash r) in
    let d : removed_count (slice_set ss i t) ≡ removed_count ss = omega (arith, a, b, c) in
    ap removed_count (e ∙ ap (with_count_at r i) is) ∙ d ∙ ap removed_count (sym is)

-- after a count is removed
module _ (old ss new : List Slot) (r : Bool) (i : ℕ) (is : old ≡ ss) (l : i < length ss) (c : 0 < slot_count r (slot_at ss i)) (e : new ≡ without_count_at r i old) where
  abbrev left : Slot
  left = record (slot_at ss i) { clause = without_count r (slot_at ss i).clause }

  now : new ≡ slice_set ss i left
  now = e ∙ ap (without_count_at r i) is

  one : (b : Bool) → is_removed (slot_at new i) ≡ b → removed_count new + 0 ≡ removed_count old + cond b 1 0
  one b h =
      let a : removed_count (slice_set ss i left) + cond (is_removed (slot_at ss i)) 1 0 ≡ removed_count ss + cond (is_removed left) 1 0 = gone_set ss i left l in
      let was = one_if (is_removed (slot_at ss i)) false (gone_not (slot_at ss i) r c) in
      let then = one_if (is_removed left) b (sym (ap is_removed (ap (λ xs. slot_at xs i) now ∙ set_at ss i left l)) ∙ h) in
      let n = ap removed_count now in
      let o = ap removed_count is in
      omega (arith, a, was, then, n, o)

  pub gone_left : is_removed (slot_at new i) ≡ false → removed_count new ≡ removed_count old
  gone_left h = let a = one false h in omega (arith, a)

  pub gone_removed : is_removed (slot_at new i) ≡ true → removed_count new ≡ removed_count old + 1
  gone_removed h = let a = one true h in omega (arith, a)

-- if some clause is not removed, fewer clauses are removed than there are slots
pub gone_fewer : (ss : List Slot) (i : ℕ) → i < length ss → is_removed (slot_at ss i) ≡ false → removed_count ss < length ss
gone_fewer [] i l g = absurd (omega arith)
gone_fewer (s ∷ ss) zero l g = let a = one_if (is_removed s) false g in let b = most ss in omega (arith, a, b)
  where
    most : (xs : List Slot) → removed_count xs ≤ length xs
    most [] = omega arith
    most (x ∷ xs) = go (is_removed x) (most xs)
      where
        go : (b : Bool) → removed_count xs ≤ length xs → cond b 1 0 + removed_count xs ≤ suc (length xs)
        go true h = omega (arith, h)
        go false h = omega (arith, h)
gone_fewer (s ∷ ss) (suc i) l g = go (is_removed s) (gone_fewer ss i (omega arith) g)
  where
    go : (b : Bool) → removed_count ss < length ss → cond b 1 0 + removed_count ss < suc (length ss)
    go true h = omega (arith, h)
    go false h = omega (arith, h)

pub gone_hashed : (names : ℕ → Option ℕ) (width : ℕ) (ss new : List Slot) → new ≡ all_hashed_by names width ss → removed_count new ≡ removed_count ss
gone_hashed names width ss new e = ap removed_count e ∙ all ss
  where
    one : (b : Bool) (s : Slot) → is_removed s ≡ b → is_removed (cond b s (record s { hash = clause_hash_by names width s.clause.literals })) ≡ b
    one true s g = g
    one false s g = g

    all : (xs : List Slot) → removed_count (all_hashed_by names width xs) ≡ removed_count xs
    all [] = refl
    all (x ∷ xs) = let h = one_if _ _ (one (is_removed x) x refl) in let ih = all xs in omega (arith, h, ih)

-- after removed clauses are dropped
pub none_gone : (ss : List Slot) → removed_count (slots_not_removed ss) ≡ zero
none_gone [] = refl
none_gone (s ∷ ss) = go (is_removed s) refl (none_gone ss)
  where
    go : (b : Bool) → is_removed s ≡ b → removed_count (slots_not_removed ss) ≡ zero → removed_count (cond (not b) (s ∷ slots_not_removed ss) (slots_not_removed ss)) ≡ zero
    go true g ih = ih
    go false g ih = let a = one_if (is_removed s) false g in omega (arith, a, ih)

live_standing : (ss : List Slot) → live_clauses (slots_not_removed ss) ≡ live_clauses ss
live_standing [] = refl
live_standing (s ∷ ss) = go (is_removed s) refl (live_standing ss)
  where
    go : (b : Bool) → is_removed s ≡ b → live_clauses (slots_not_removed ss) ≡ live_clauses ss → live_clauses (cond (not b) (s ∷ slots_not_removed ss) (slots_not_removed ss)) ≡ cond b [] (s.clause ∷ []) ++ live_clauses ss
    go true g ih = ih
    go false g ih = ap (λ b. cond b [] (s.clause ∷ []) ++ live_clauses (slots_not_removed ss)) g ∙ ap (λ cs. s.clause ∷ cs) ih

hashed_standing : (h : ClauseHasher) (ss : List Slot) → AreHashed h ss → AreHashed h (slots_not_removed ss)
hashed_standing h [] k = tt
hashed_standing h (s ∷ ss) k = go (is_removed s) (hashed_standing h ss k.1)
  where
    go : (b : Bool) → AreHashed h (slots_not_removed ss) → AreHashed h (cond (not b) (s ∷ slots_not_removed ss) (slots_not_removed ss))
    go true ih = ih
    go false ih = (k.0, ih)

times_standing : (l : ℕ) (ss : List Slot) → times_stored l (slots_not_removed ss) ≡ times_stored l ss
times_standing l [] = refl
times_standing l (s ∷ ss) = go (is_removed s) refl (times_standing l ss)
  where
    go : (b : Bool) → is_removed s ≡ b → times_stored l (slots_not_removed ss) ≡ times_stored l ss → times_stored l (cond (not b) (s ∷ slots_not_removed ss) (slots_not_removed ss)) ≡ cond b 0 (times_in l s.clause.literals) + times_stored l ss
    go true g ih = let a : times_stored l (slots_not_removed ss) ≡ 0 + times_stored l ss = omega (arith, ih) in a
    go false g ih = ap (λ b. cond b 0 (times_in l s.clause.literals) + times_stored l (slots_not_removed ss)) g ∙ ap (λ n. times_in l s.clause.literals + n) ih

each_standing : (P : ℕ → Type 0) (ss : List Slot) → AllByRecursion P (slot_ids ss) → AllByRecursion P (slot_ids (slots_not_removed ss))
each_standing P [] h = tt
each_standing P (s ∷ ss) h = go (is_removed s) (each_standing P ss h.1)
  where
    go : (b : Bool) → AllByRecursion P (slot_ids (slots_not_removed ss)) → AllByRecursion P (slot_ids (cond (not b) (s ∷ slots_not_removed ss) (slots_not_removed ss)))
    go true ih = ih
    go false ih = (h.0, ih)

rising_standing : (ss : List Slot) → IsIncreasing (slot_ids ss) → IsIncreasing (slot_ids (slots_not_removed ss))
rising_standing [] h = tt
rising_standing (s ∷ ss) h = go (is_removed s) (rising_standing ss h.1)
  where
    go : (b : Bool) → IsIncreasing (slot_ids (slots_not_removed ss)) → IsIncreasing (slot_ids (cond (not b) (s ∷ slots_not_removed ss) (slots_not_removed ss)))
    go true ih = ih
    go false ih = (each_standing (λ m. s.clause.id < m) ss h.0, ih)

-- the invariant of slots still holds after removed clauses are dropped
pub kept_standing : (ss new : List Slot) (index next : Indexed) (o : Occurrences) → SlotsInvariant ss index o → new ≡ slots_not_removed ss → IndexesSlots next (slots_not_removed ss) → SlotsInvariant new next o
kept_standing ss new index next o k e f = record {
  files = subst (IndexesSlots next) (sym e) f;
  counted = λ l. k.counted l ∙ sym (times_standing l ss) ∙ ap (times_stored l) (sym e);
}

-- the store still represents the same after removed clauses are dropped
pub keeps_dropped : (store : Store) (new : List Slot) (f : Stored) → CompactsOrKeeps store.clauses new → RepresentsClauses store f → RepresentsClauses (record store { clauses = new }) f
keeps_dropped store new f (inl e) k = record {
  clauses = ap live_clauses e ∙ k.clauses;
  hashed = subst (AreHashed store.hasher) (sym e) k.hashed;
  names = k.names;
  width = k.width;
}
keeps_dropped store new f (inr e) k = record {
  clauses = ap live_clauses e ∙ live_standing store.clauses ∙ k.clauses;
  hashed = subst (AreHashed store.hasher) (sym e) (hashed_standing store.hasher store.clauses k.hashed);
  names = k.names;
  width = k.width;
}

pub ids_dropped : (old new : List Slot) → CompactsOrKeeps old new → PreservesIdOrder old new
ids_dropped old new (inl e) n h = subst (λ ss. AreIdsInOrder (slot_ids ss) n) (sym e) h
ids_dropped old new (inr e) n h =
    subst (λ ss. AreIdsInOrder (slot_ids ss) n) (sym e) (record { increasing = rising_standing old h.increasing; below = each_standing (λ i. i < n) old h.below })

pub take_whole : (ts : List Slot) (j : ℕ) → length ts ≤ j → take j ts ≡ ts
take_whole [] zero k = refl
take_whole [] (suc j) k = refl
take_whole (t ∷ ts) zero k = absurd (omega arith)
take_whole (t ∷ ts) (suc j) k = ap (λ us. t ∷ us) (take_whole ts j (omega arith))

-- the slots before a place that are not removed
standing_next : (ss : List Slot) (i : ℕ) → i < length ss → slots_not_removed (take (i + 1) ss) ≡ slots_not_removed (take i ss) ++ cond (not (is_removed (slot_at ss i))) (slot_at ss i ∷ []) []
standing_next ss i l = filter_more (λ s. not (is_removed s)) ss i (removed_slot 0 0 []) l

pub standing_skip : (old mid ss : List Slot) (i : ℕ) → i < length ss → is_removed (slot_at ss i) ≡ true → mid ≡ old ++ slots_not_removed (take i ss) → mid ≡ old ++ slots_not_removed (take (i + 1) ss)
standing_skip old mid ss i l g e =
    e ∙ ap (λ xs. old ++ xs) (sym (standing_next ss i l ∙ ap (λ b. slots_not_removed (take i ss) ++ cond (not b) (slot_at ss i ∷ []) []) g ∙ append-nil (slots_not_removed (take i ss))))

pub standing_put : (old mid new ss : List Slot) (i : ℕ) (s : Slot) → i < length ss → is_removed (slot_at ss i) ≡ false → s ≡ slot_at ss i → mid ≡ old ++ slots_not_removed (take i ss) → new ≡ mid ++ s ∷ [] → new ≡ old ++ slots_not_removed (take (i + 1) ss)
standing_put old mid new ss i s l n same e w =
    w ∙ ap (λ xs. xs ++ s ∷ []) e ∙ append_assoc old (slots_not_removed (take i ss)) (s ∷ [])
    ∙ ap (λ xs. old ++ xs) (ap (λ x. slots_not_removed (take i ss) ++ x ∷ []) same ∙ sym (standing_next ss i l ∙ ap (λ b. slots_not_removed (take i ss) ++ cond (not b) (slot_at ss i ∷ []) []) n))

pub standing_all : (old mid ss : List Slot) (i : ℕ) → length ss ≤ i → mid ≡ old ++ slots_not_removed (take i ss) → mid ≡ old ++ slots_not_removed ss
standing_all old mid ss i l e = e ∙ ap (λ xs. old ++ slots_not_removed xs) (take_whole ss i l)

-- the slots before a place, and from it on, that are not removed
pub kept_skip : (ss : List Slot) (i : ℕ) → i < length ss → is_removed (slot_at ss i) ≡ true → (slots_not_removed (take (i + 1) ss) ≡ slots_not_removed (take i ss)) × (slots_not_removed (drop i ss) ≡ slots_not_removed (drop (i + 1) ss))
kept_skip ss i l g = (
  standing_next ss i l ∙ ap (λ b. slots_not_removed (take i ss) ++ cond (not b) (slot_at ss i ∷ []) []) g ∙ append-nil (slots_not_removed (take i ss)),
  ap slots_not_removed (drop_more ss i (removed_slot 0 0 []) l) ∙ ap (λ b. cond (not b) (slot_at ss i ∷ slots_not_removed (drop (i + 1) ss)) (slots_not_removed (drop (i + 1) ss))) g,
)

pub kept_next : (ss : List Slot) (i : ℕ) → i < length ss → is_removed (slot_at ss i) ≡ false → (length (slots_not_removed (take (i + 1) ss)) ≡ length (slots_not_removed (take i ss)) + 1) × (slots_not_removed (drop i ss) ≡ slot_at ss i ∷ slots_not_removed (drop (i + 1) ss))
kept_next ss i l g = (
  ap length (standing_next ss i l ∙ ap (λ b. slots_not_removed (take i ss) ++ cond (not b) (slot_at ss i ∷ []) []) g) ∙ length-append (slots_not_removed (take i ss)) (slot_at ss i ∷ []),
  ap slots_not_removed (drop_more ss i (removed_slot 0 0 []) l) ∙ ap (λ b. cond (not b) (slot_at ss i ∷ slots_not_removed (drop (i + 1) ss)) (slots_not_removed (drop (i + 1) ss))) g,
)

-- the pair of the first remaining clause comes before the others
pub filed_kept : (ss : List Slot) (i to next hash : ℕ) → i < length ss → is_removed (slot_at ss i) ≡ false → hash ≡ mixed (slot_at ss i).hash → next + 1 ≡ to
    → (record { hash = hash; place = next }) ∷ slot_pairs_from to (slots_not_removed (drop (i + 1) ss)) ≡ slot_pairs_from next (slots_not_removed (drop i ss))
filed_kept ss i to next hash l g h e =
    ap (λ k. (record { hash = k; place = next }) ∷ slot_pairs_from to (slots_not_removed (drop (i + 1) ss))) h
    ∙ ap (λ k. (record { hash = mixed (slot_at ss i).hash; place = next }) ∷ slot_pairs_from k (slots_not_removed (drop (i + 1) ss))) (sym e)
    ∙ ap (λ b. cond b (slot_pairs_from (next + 1) (slots_not_removed (drop (i + 1) ss))) ((record { hash = mixed (slot_at ss i).hash; place = next }) ∷ slot_pairs_from (next + 1) (slots_not_removed (drop (i + 1) ss)))) (sym g)
    ∙ ap (λ xs. slot_pairs_from next xs) (sym (kept_next ss i l g).1)

-- a clause that is not removed is filed under its hash
place_among : (k : ℕ) (ss : List Slot) (i n : ℕ) → i < length ss → is_removed (slot_at ss i) ≡ false → k + i ≡ n → is_among (places_from k (slot_at ss i).hash ss) n ≡ true
place_among k [] i n l g e = absurd (omega arith)
place_among k (s ∷ ss) zero n l g e =
    ap (λ b. is_among (cond (not b && eqb s.hash s.hash) (k ∷ places_from (k + 1) s.hash ss) (places_from (k + 1) s.hash ss)) n) g
    ∙ ap (λ b. is_among (cond b (k ∷ places_from (k + 1) s.hash ss) (places_from (k + 1) s.hash ss)) n) (eq-eqb s.hash s.hash refl)
    ∙ or_left (eqb k n) (is_among (places_from (k + 1) s.hash ss) n) (eq-eqb k n (omega (arith, e)))
place_among k (s ∷ ss) (suc i) n l g e = go (is_filed (slot_at ss i).hash s) (place_among (k + 1) ss i n (omega (arith, l)) g (let z : k + 1 + i ≡ n = omega (arith, e) in z))
  where
    go : (b : Bool) → is_among (places_from (k + 1) (slot_at ss i).hash ss) n ≡ true → is_among (cond b (k ∷ places_from (k + 1) (slot_at ss i).hash ss) (places_from (k + 1) (slot_at ss i).hash ss)) n ≡ true
    go true ih = or_right (eqb k n) (is_among (places_from (k + 1) (slot_at ss i).hash ss) n) ih
    go false ih = ih

pub hash_filed : (ss : List Slot) (index : Indexed) (i : ℕ) → IndexesSlots index ss → i < length ss → is_removed (slot_at ss i) ≡ false → is_among (places_in (mixed (slot_at ss i).hash) index.pairs) i ≡ true
hash_filed ss index i f l g = ap (λ ps. is_among ps i) (f.filed (slot_at ss i).hash) ∙ place_among 0 ss i i l g (let z : 0 + i ≡ i = omega arith in z)
