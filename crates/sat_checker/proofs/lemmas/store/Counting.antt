-- How often literals occur in clauses, as clauses are added and removed.
use Rattle.std.proofs.Common.{ℕ, zero, suc, ◌+◌, ◌<◌, ◌≤◌, ◌^◌, ◌≡◌, Bool, true, false, cond, eqb, List, [], ◌∷◌, ◌++◌, length, Option, refl, ◌∙◌, ap, subst, arith, slice_set, length-append}
use Rattle.std.proofs.lemmas.Bool.{eqb-true, or_parts}
use Rattle.std.specs.List.{AllByRecursion}
use Rattle.sat_checker.specs.LiteralSets.{is_among}
use Rattle.sat_checker.specs.Stored.{StoredClause, clause_hash_by}
use Rattle.sat_checker.specs.Storing.{with_count, without_count}
use Rattle.sat_checker.specs.inner.Marks.{IsIncreasing}
use Rattle.sat_checker.specs.inner.OccurrenceView.{times_in, times_stored}
use Rattle.sat_checker.specs.inner.SlotView.{Slot, stored_slot, slot_at, literals_at, all_lits, slot_count, is_removed, with_count_at, without_count_at, all_hashed_by}
use Rattle.sat_checker.proofs.lemmas.sets.Marks.{below_all}
use Rattle.sat_checker.proofs.lemmas.store.Places.{gone_more, gone_not}

module _ (l : ℕ) where
  -- how often the literal occurs in a slot's clause, or 0 if the clause is removed
  abbrev pub occurrences_of : Slot → ℕ
  occurrences_of s = cond (is_removed s) 0 (times_in l s.clause.literals)

  -- after a slot is appended
  times_push : (ss : List Slot) (s : Slot) → times_stored l (ss ++ s ∷ []) ≡ times_stored l ss + occurrences_of s
  times_push [] s = omega arith
  times_push (t ∷ ss) s = let ih : times_stored l (ss ++ s ∷ []) ≡ times_stored l ss + occurrences_of s = times_push ss s in omega (arith, ih)

  -- after a clause that is stored once is appended
  pub times_more : (redundant : Bool) (id hash : ℕ) (literals : List ℕ) (ss : List Slot) → times_stored l (ss ++ stored_slot redundant id hash literals ∷ []) ≡ times_stored l ss + times_in l literals
  times_more true id hash literals ss = times_push ss (stored_slot true id hash literals)
  times_more false id hash literals ss = times_push ss (stored_slot false id hash literals)

  -- after a slot is replaced
  times_set : (ss : List Slot) (i : ℕ) (t : Slot) → i < length ss → times_stored l (slice_set ss i t) + occurrences_of (slot_at ss i) ≡ times_stored l ss + occurrences_of t
  times_set [] i t k = absurd (omega arith)
  times_set (s ∷ ss) zero t k = omega arith
  times_set (s ∷ ss) (suc i) t k = let ih : times_stored l (slice_set ss i t) + occurrences_of (slot_at ss i) ≡ times_stored l ss + occurrences_of t = times_set ss i t (omega arith) in omega (arith, ih)

  at_state : (s : Slot) (b : Bool) → is_removed s ≡ b → occurrences_of s ≡ cond b 0 (times_in l s.clause.literals)
  at_state s b e = ap (λ g. cond g 0 (times_in l s.clause.literals)) e

  counted_literals : (r : Bool) (c : StoredClause) → times_in l (with_count r c).literals ≡ times_in l c.literals
  counted_literals true c = refl
  counted_literals false c = refl

  left_literals : (r : Bool) (c : StoredClause) → times_in l (without_count r c).literals ≡ times_in l c.literals
  left_literals true c = refl
  left_literals false c = refl

  -- after a count is added to a clause that is not removed
  pub times_counted : (r : Bool) (i : ℕ) (ss : List Slot) → i < length ss → is_removed (slot_at ss i) ≡ false → times_stored l (with_count_at r i ss) ≡ times_stored l ss
  times_counted r i ss k g =
      let c : StoredClause = (slot_at ss i).clause in
      let h : ℕ = (slot_at ss i).hash in
      let t : Slot = record { clause = with_count r c; hash = h } in
      let e : times_stored l (slice_set ss i t) + occurrences_of (slot_at ss i) ≡ times_stored l ss + occurrences_of t = times_set ss i t k in
      let a : occurrences_of (slot_at ss i) ≡ times_in l c.literals = at_state (slot_at ss i) false g in
      let b : occurrences_of t ≡ times_in l c.literals = at_state t false (gone_more c h r) ∙ counted_literals r c in
      omega (arith, e, a, b)

  -- after a count is removed from a clause, which may remove the clause
  module _ (r : Bool) (i : ℕ) (ss : List Slot) (k : i < length ss) (g : 0 < slot_count r (slot_at ss i)) where
    abbrev left : Slot
    left = record { clause = without_count r (slot_at ss i).clause; hash = (slot_at ss i).hash }

    was : occurrences_of (slot_at ss i) ≡ times_in l (literals_at ss i)
    was = at_state (slot_at ss i) false (gone_not (slot_at ss i) r g)

    pub times_left : is_removed (record { clause = without_count r (slot_at ss i).clause; hash = (slot_at ss i).hash }) ≡ false → times_stored l (without_count_at r i ss) ≡ times_stored l ss
    times_left h =
        let e : times_stored l (without_count_at r i ss) + occurrences_of (slot_at ss i) ≡ times_stored l ss + occurrences_of left = times_set ss i left k in
        let b : occurrences_of left ≡ times_in l (literals_at ss i) = at_state left false h ∙ left_literals r (slot_at ss i).clause in
        omega (arith, e, was, b)

    pub times_gone : is_removed (record { clause = without_count r (slot_at ss i).clause; hash = (slot_at ss i).hash }) ≡ true → times_stored l (without_count_at r i ss) + times_in l (literals_at ss i) ≡ times_stored l ss
    times_gone h =
        let e : times_stored l (without_count_at r i ss) + occurrences_of (slot_at ss i) ≡ times_stored l ss + occurrences_of left = times_set ss i left k in
        let b : occurrences_of left ≡ 0 = at_state left true h in
        omega (arith, e, was, b)

  -- after all clauses are filed again
  pub times_hashed : (names : ℕ → Option ℕ) (width : ℕ) (ss : List Slot) → times_stored l (all_hashed_by names width ss) ≡ times_stored l ss
  times_hashed names width [] = refl
  times_hashed names width (s ∷ ss) = go (is_removed s) refl (times_hashed names width ss)
    where
      go : (b : Bool) → is_removed s ≡ b → times_stored l (all_hashed_by names width ss) ≡ times_stored l ss → occurrences_of (cond b s (record s { hash = clause_hash_by names width s.clause.literals })) + times_stored l (all_hashed_by names width ss) ≡ occurrences_of s + times_stored l ss
      go true e ih = ap (λ n. occurrences_of s + n) ih
      go false e ih = ap (λ n. occurrences_of s + n) ih

  -- a literal that is not in a clause occurs 0 times, and one in a sorted clause at most once
  pub times_beyond : (ls : List ℕ) → is_among ls l ≡ false → times_in l ls ≡ 0
  times_beyond [] h = refl
  times_beyond (x ∷ xs) h =
      let p = or_parts (eqb x l) (is_among xs l) h in
      let ih : times_in l xs ≡ 0 = times_beyond xs p.1 in
      ap (λ b. cond b 1 0 + times_in l xs) p.0 ∙ omega (arith, ih)

  pub times_once : (ls : List ℕ) → IsIncreasing ls → times_in l ls ≤ 1
  times_once [] h = omega arith
  times_once (x ∷ xs) h = go (eqb x l) refl (times_once xs h.1)
    where
      go : (b : Bool) → eqb x l ≡ b → times_in l xs ≤ 1 → cond b 1 0 + times_in l xs ≤ 1
      go true e ih = let z : times_in l xs ≡ 0 = times_beyond xs (subst (λ y. is_among xs y ≡ false) (eqb-true x l e) (below_all x xs h.0)) in omega (arith, z)
      go false e ih = omega (arith, ih)

  pub times_few : (ss : List Slot) → AllByRecursion IsIncreasing (all_lits ss) → times_stored l ss ≤ length ss
  times_few [] h = omega arith
  times_few (s ∷ ss) h = go (is_removed s) (times_few ss h.1) (times_once s.clause.literals h.0)
    where
      go : (b : Bool) → times_stored l ss ≤ length ss → times_in l s.clause.literals ≤ 1 → cond b 0 (times_in l s.clause.literals) + times_stored l ss ≤ length (s ∷ ss)
      go true ih k = omega (arith, ih)
      go false ih k = omega (arith, ih, k)

each_before : (ss : List Slot) (x : Slot) → AllByRecursion IsIncreasing (all_lits (ss ++ x ∷ [])) → AllByRecursion IsIncreasing (all_lits ss)
each_before [] x h = tt
each_before (s ∷ ss) x h = (h.0, each_before ss x h.1)

-- the counts of one more clause fit in 32 bits
pub few_more : (l count n : ℕ) (ss new : List Slot) (x : Slot) (literals : List ℕ) → count ≡ times_stored l ss → new ≡ ss ++ x ∷ [] → AllByRecursion IsIncreasing (all_lits new) → IsIncreasing literals → n ≡ length new → n < 2 ^ 32 → count + times_in l literals < 2 ^ 32
few_more l count n ss new x literals c e each one m f =
    let a : times_stored l ss ≤ length ss = times_few l ss (each_before ss x (subst (λ ts. AllByRecursion IsIncreasing (all_lits ts)) e each)) in
    let b : times_in l literals ≤ 1 = times_once l literals one in
    let d : length new ≡ length ss + 1 = ap length e ∙ length-append ss (x ∷ []) in
    omega (arith, a, b, c, d, m, f)

-- the place of the last slot
pub last_place : (old new : List Slot) (x : Slot) (n : ℕ) → n ≡ length new → new ≡ old ++ x ∷ [] → n ≡ length old + 1
last_place old new x n m e = m ∙ ap length e ∙ length-append old (x ∷ [])
