-- The invariant of slots, index and counts, as clauses are added and removed.
use Rattle.std.proofs.Common.{ℕ, suc, ◌+◌, ◌<◌, ◌≤◌, ◌≡◌, Bool, true, false, not, cond, eqb, List, [], ◌∷◌, ◌++◌, length, Option, refl, sym, ◌∙◌, ap, subst, arith, Result, Ok, Err, OnOk}
use Rattle.std.proofs.lemmas.Bool.{true≢false}
use Rattle.std.specs.Result.{is_err}
use Rattle.std.proofs.lemmas.List.{length-set}
use Rattle.sat_checker.specs.inner.IndexView.{IndexesSlots}
use Rattle.sat_checker.specs.inner.PairView.{Indexed, places_in, without_pair, mixed}
use Rattle.sat_checker.specs.inner.OccurrenceView.{count_at, times_in, times_stored, SlotsInvariant}
use Rattle.sat_checker.specs.Storing.{with_count, without_count}
use Rattle.sat_checker.specs.inner.SlotView.{Slot, removed_slot, stored_slot, slot_at, literals_at, is_removed, slot_count, with_count_at, without_count_at, all_hashed_by}
use Rattle.sat_checker.specs.declared.store.occurrences.Occurrences.{Occurrences}
use Rattle.sat_checker.proofs.lemmas.store.Places.{agrees_stored, agrees_counted, agrees_left, agrees_removed, stored_last, after, gone_there}
use Rattle.sat_checker.proofs.lemmas.pairs.Order.{all_weaker, all_filter, all_push, order_filter, order_push, places_push}
use Rattle.sat_checker.proofs.lemmas.pairs.Mixing.{mixed_same}
use Rattle.sat_checker.proofs.lemmas.store.Filing.{places_without}
use Rattle.sat_checker.proofs.lemmas.store.Counting.{times_more, times_counted, times_left, times_gone, times_hashed}

-- after a new clause is stored once
pub kept_stored : (ss new all : List Slot) (index next : Indexed) (o mid p : Occurrences) (r : Bool) (id hash place : ℕ) (literals : List ℕ) → SlotsInvariant ss index o → ((l : ℕ) → count_at mid l ≡ count_at o l) → place ≡ length ss
    → next ≡ record { pairs = index.pairs ++ (record { hash = mixed hash; place = index.places }) ∷ []; places = index.places + 1 } → new ≡ ss ++ removed_slot id hash literals ∷ [] → all ≡ with_count_at r place new → ((l : ℕ) → count_at p l ≡ count_at mid l + times_in l literals) → SlotsInvariant all next p
kept_stored ss new all index next o mid p r id hash place literals k m is h e s a = record {
  files = subst (λ x. IndexesSlots x all) (sym h) (record {
    filed = agrees_stored (λ q. places_in (mixed q) index.pairs) (λ q. places_in (mixed q) (index.pairs ++ (record { hash = mixed hash; place = index.places }) ∷ [])) r id hash place literals ss new all k.files.filed is
        (λ q. places_push (mixed q) (record { hash = mixed hash; place = index.places }) index.pairs ∙ ap (λ b. cond b (places_in (mixed q) index.pairs ++ index.places ∷ []) (places_in (mixed q) index.pairs)) (mixed_same q hash)
        ∙ ap (λ x. cond (eqb q hash) (places_in (mixed q) index.pairs ++ x ∷ []) (places_in (mixed q) index.pairs)) (k.files.places ∙ sym is)) e s;
    places = let whole : length all ≡ length ss + 1 = ap length (stored_last r id hash place literals ss new all is e s) ∙ length_more ss (stored_slot r id hash literals) in omega (arith, whole, k.files.places);
    in_order = order_push (record { hash = mixed hash; place = index.places }) index.pairs k.files.below k.files.in_order;
    below = all_push (λ x. x.place < index.places + 1) (record { hash = mixed hash; place = index.places }) index.pairs (omega arith) (all_weaker (λ x. x.place < index.places) (λ x. x.place < index.places + 1) (λ x l. omega (arith, l)) index.pairs k.files.below);
  });
  counted = λ l.
      let more : times_stored l all ≡ times_stored l ss + times_in l literals = ap (times_stored l) (stored_last r id hash place literals ss new all is e s) ∙ times_more l r id hash literals ss in
      let was : count_at mid l ≡ times_stored l ss = m l ∙ k.counted l in
      a l ∙ ap (λ n. n + times_in l literals) was ∙ sym more;
}
  where
    length_more : (xs : List Slot) (x : Slot) → length (xs ++ x ∷ []) ≡ length xs + 1
    length_more [] x = refl
    length_more (y ∷ ys) x = let ih : length (ys ++ x ∷ []) ≡ length ys + 1 = length_more ys x in omega arith

-- after a count is added
pub kept_counted : (old ss new : List Slot) (index : Indexed) (o : Occurrences) (r : Bool) (i : ℕ) → old ≡ ss → i < length ss → is_removed (slot_at ss i) ≡ false → SlotsInvariant old index o → new ≡ with_count_at r i old → SlotsInvariant new index o
kept_counted old ss new index o r i is l n k e = record {
  files = record {
    filed = agrees_counted (λ q. places_in (mixed q) index.pairs) r i old ss new is l n k.files.filed e;
    places = k.files.places ∙ sym (ap length e ∙ length-set old i (record (slot_at old i) { clause = with_count r (slot_at old i).clause }));
    in_order = k.files.in_order;
    below = k.files.below;
  };
  counted = λ q. k.counted q ∙ ap (times_stored q) is ∙ sym (times_counted q r i ss l n) ∙ ap (λ x. times_stored q (with_count_at r i x)) (sym is) ∙ ap (times_stored q) (sym e);
}

-- after a count is removed
module _ (old ss new : List Slot) (index : Indexed) (o : Occurrences) (r : Bool) (i : ℕ) (is : old ≡ ss) (l : i < length ss) (c : 0 < slot_count r (slot_at ss i)) (k : SlotsInvariant old index o) (e : new ≡ without_count_at r i old) where
  there : is_removed (slot_at new i) ≡ is_removed (record { clause = without_count r (slot_at ss i).clause; hash = (slot_at ss i).hash })
  there = gone_there (λ q. places_in (mixed q) index.pairs) r i old ss new is l c k.files.filed e

  now : (q : ℕ) → times_stored q new ≡ times_stored q (without_count_at r i ss)
  now q = ap (times_stored q) (after (λ q. places_in (mixed q) index.pairs) r i old ss new is l c k.files.filed e)

  length_left : length new ≡ length old
  length_left = ap length e ∙ length-set old i (record (slot_at old i) { clause = without_count r (slot_at old i).clause })

  pub kept_left : is_removed (slot_at new i) ≡ false → SlotsInvariant new index o
  kept_left n = record {
    files = record { filed = agrees_left (λ q. places_in (mixed q) index.pairs) r i old ss new is l c k.files.filed e n; places = k.files.places ∙ sym length_left; in_order = k.files.in_order; below = k.files.below };
    counted = λ q. k.counted q ∙ ap (times_stored q) is ∙ sym (times_left q r i ss l c (sym there ∙ n)) ∙ sym (now q);
  }

  -- the literals of a clause that is then removed were counted
  pub were_counted : (literals : List ℕ) → ((q : ℕ) → times_in q literals ≡ times_in q (literals_at ss i)) → is_removed (slot_at new i) ≡ true → (q : ℕ) → times_in q literals ≤ count_at o q
  were_counted literals s g q =
      let a : times_stored q (without_count_at r i ss) + times_in q (literals_at ss i) ≡ times_stored q ss = times_gone q r i ss l c (sym there ∙ g) in
      let b : count_at o q ≡ times_stored q ss = k.counted q ∙ ap (times_stored q) is in
      let d : times_in q literals ≡ times_in q (literals_at ss i) = s q in
      omega (arith, a, b, d)

  pub kept_removed : (next : Indexed) (p : Occurrences) (literals : List ℕ) → next ≡ record index { pairs = without_pair i index.pairs }
      → ((q : ℕ) → times_in q literals ≡ times_in q (literals_at ss i)) → ((q : ℕ) → count_at p q + times_in q literals ≡ count_at o q) → is_removed (slot_at new i) ≡ true → SlotsInvariant new next p
  kept_removed next p literals w s m g = record {
    files = subst (λ x. IndexesSlots x new) (sym w) (record {
      filed = agrees_removed (λ q. places_in (mixed q) index.pairs) r i old ss new is l c k.files.filed e (λ q. places_in (mixed q) (without_pair i index.pairs)) (λ q. places_without (mixed q) i index.pairs) g;
      places = k.files.places ∙ sym length_left;
      in_order = order_filter (λ x. not (eqb x.place i)) index.pairs k.files.in_order;
      below = all_filter (λ x. x.place < index.places) (λ x. not (eqb x.place i)) index.pairs k.files.below;
    });
    counted = λ q.
        let a : times_stored q (without_count_at r i ss) + times_in q (literals_at ss i) ≡ times_stored q ss = times_gone q r i ss l c (sym there ∙ g) in
        let b : count_at o q ≡ times_stored q ss = k.counted q ∙ ap (times_stored q) is in
        let d : times_in q literals ≡ times_in q (literals_at ss i) = s q in
        let f : times_stored q new ≡ times_stored q (without_count_at r i ss) = now q in
        let t : count_at p q + times_in q literals ≡ count_at o q = m q in
        omega (arith, a, b, d, f, t);
  }

-- after all clauses are filed again
pub count_hashed : (names : ℕ → Option ℕ) (width : ℕ) (ss : List Slot) → length (all_hashed_by names width ss) ≡ length ss
count_hashed names width [] = refl
count_hashed names width (s ∷ ss) = ap suc (count_hashed names width ss)

pub kept_hashed : (names : ℕ → Option ℕ) (width : ℕ) (old ss new : List Slot) (index next : Indexed) (o : Occurrences) → old ≡ ss → SlotsInvariant old index o → new ≡ all_hashed_by names width ss → IndexesSlots next (all_hashed_by names width ss) → SlotsInvariant new next o
kept_hashed names width old ss new index next o is k e f = record {
  files = subst (IndexesSlots next) (sym e) f;
  counted = λ q. k.counted q ∙ ap (times_stored q) is ∙ sym (times_hashed q names width ss) ∙ ap (times_stored q) (sym e);
}

pub where_ok : {T E : Type 0} (r : Result T E) (P : Type 0) → is_err r ≡ false → OnOk r P → P
where_ok (Ok x) P e p = p
where_ok (Err x) P e p = absurd (true≢false e)
