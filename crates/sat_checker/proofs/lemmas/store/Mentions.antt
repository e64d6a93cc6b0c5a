-- A variable is mentioned exactly if one of its literals is counted.
-- Hashes of clauses without it do not depend on its name.
use Rattle.std.proofs.Common.{ℕ, zero, ◌+◌, ◌*◌, ◌<◌, ◌≤◌, ◌-◌, ◌/◌, ◌%◌, ◌^◌, ◌≡◌, ◌||◌, Bool, true, false, cond, eqb, List, [], ◌∷◌, ◌++◌, map, Option, refl, sym, ◌∙◌, ap, subst, arith, inl, inr}
use Rattle.std.specs.Prelude.{MatchBool, unwrap_or}
use Rattle.std.specs.List.{list_any}
use Rattle.std.proofs.lemmas.Bool.{eqb-true, eqb-false, eq-eqb, ne_eqb, or_parts, or_cases, true≢false}
use Rattle.sat_base.specs.values.Literals.{variable}
use Rattle.sat_base.specs.values.Hashes.{hash_of}
use Rattle.sat_checker.specs.LiteralSets.{is_among, mentions}
use Rattle.sat_checker.specs.Stored.{Stored, solver_literal, clause_hash_by}
use Rattle.sat_checker.specs.Storing.{with_solver_name}
use Rattle.sat_checker.specs.HasherView.{solver_name_of, width_of}
use Rattle.sat_checker.specs.inner.OccurrenceView.{times_in, times_stored}
use Rattle.sat_checker.specs.inner.SlotView.{Slot, is_removed, live_clauses, rehashed_slots}
use Rattle.sat_checker.specs.inner.StoreView.{AreHashed, RepresentsClauses, rehashed}
use Rattle.sat_checker.specs.declared.hash.ClauseHasher.{ClauseHasher}
use Rattle.sat_checker.specs.declared.store.Store.{Store}
use Rattle.sat_checker.proofs.lemmas.store.Counting.{times_beyond}
use Rattle.sat_checker.proofs.lemmas.store.Rehashing.{all_hashed, refiled_live, stored_live}

-- a literal that is counted is in a clause
pub stored_among : (l : ℕ) (ss : List Slot) → 0 < times_stored l ss → list_any (λ c. is_among c.literals l) (live_clauses ss) ≡ true
stored_among l [] h = absurd (omega arith)
stored_among l (s ∷ ss) h = go (is_removed s) refl h (stored_among l ss)
  where
    go : (b : Bool) → is_removed s ≡ b → 0 < cond b 0 (times_in l s.clause.literals) + times_stored l ss → (0 < times_stored l ss → list_any (λ c. is_among c.literals l) (live_clauses ss) ≡ true)
        → list_any (λ c. is_among c.literals l) (cond b [] (s.clause ∷ []) ++ live_clauses ss) ≡ true
    go true g k ih = ih (omega (arith, k))
    go false g k ih = pick (is_among s.clause.literals l) refl
      where
        pick : (d : Bool) → is_among s.clause.literals l ≡ d → (d || list_any (λ c. is_among c.literals l) (live_clauses ss)) ≡ true
        pick true e = refl
        pick false e = let none : times_in l s.clause.literals ≡ 0 = times_beyond l s.clause.literals e in ih (omega (arith, k, none))

module _ (v : ℕ) where
  one_true : (x : ℕ) → eqb (variable x) v ≡ true → 1 ≤ cond (eqb x (2 * v)) 1 0 + cond (eqb x (2 * v + 1)) 1 0
  one_true x e = go (eqb x (2 * v)) refl
    where
      go : (b : Bool) → eqb x (2 * v) ≡ b → 1 ≤ cond b 1 0 + cond (eqb x (2 * v + 1)) 1 0
      go true f = omega arith
      go false f =
          let is = eqb-true (variable x) v e in
          let not_first = eqb-false x (2 * v) f in
          let t : eqb x (2 * v + 1) ≡ true = eq-eqb x (2 * v + 1) (omega (arith, is, not_first)) in
          subst (λ b. 1 ≤ 0 + cond b 1 0) (sym t) (omega arith)

  one_false : (x : ℕ) → eqb (variable x) v ≡ false → cond (eqb x (2 * v)) 1 0 + cond (eqb x (2 * v + 1)) 1 0 ≡ zero
  one_false x e =
      let isnt = eqb-false (variable x) v e in
      let a : eqb x (2 * v) ≡ false = ne_eqb x (2 * v) (λ s. isnt (omega (arith, s))) in
      let b : eqb x (2 * v + 1) ≡ false = ne_eqb x (2 * v + 1) (λ s. isnt (omega (arith, s))) in
      ap (λ d. cond d 1 0 + cond (eqb x (2 * v + 1)) 1 0) a ∙ ap (λ d. 0 + cond d 1 0) b

  abbrev both : List ℕ → ℕ
  both ls = times_in (2 * v) ls + times_in (2 * v + 1) ls

  pub times_some : (ls : List ℕ) → mentions ls v ≡ true → 0 < both ls
  times_some [] e = absurd (true≢false (sym e))
  times_some (x ∷ xs) e = go (times_some xs) (eqb (variable x) v) refl
    where
      go : (mentions xs v ≡ true → 0 < both xs) → (b : Bool) → eqb (variable x) v ≡ b → 0 < both (x ∷ xs)
      go ih true f = let h = one_true x f in omega (arith, h)
      go ih false f = let h : 0 < both xs = ih (sym (ap (λ b. b || mentions xs v) f) ∙ e) in omega (arith, h)

  pub times_none : (ls : List ℕ) → mentions ls v ≡ false → both ls ≡ zero
  times_none [] e = refl
  times_none (x ∷ xs) e =
      let p = or_parts (eqb (variable x) v) (mentions xs v) e in
      let h = one_false x p.0 in
      let ih : both xs ≡ zero = times_none xs p.1 in
      omega (arith, h, ih)

  abbrev both_stored : List Slot → ℕ
  both_stored ss = times_stored (2 * v) ss + times_stored (2 * v + 1) ss

  stored_some : (ss : List Slot) → list_any (λ c. mentions c.literals v) (live_clauses ss) ≡ true → 0 < both_stored ss
  stored_some [] e = absurd (true≢false (sym e))
  stored_some (s ∷ ss) e = go (stored_some ss) (is_removed s) e
    where
      go : (list_any (λ c. mentions c.literals v) (live_clauses ss) ≡ true → 0 < both_stored ss) → (b : Bool) → list_any (λ c. mentions c.literals v) (cond b [] (s.clause ∷ []) ++ live_clauses ss) ≡ true
          → 0 < (cond b 0 (times_in (2 * v) s.clause.literals) + times_stored (2 * v) ss) + (cond b 0 (times_in (2 * v + 1) s.clause.literals) + times_stored (2 * v + 1) ss)
      go ih true f = let h : 0 < both_stored ss = ih f in omega (arith, h)
      go ih false f =
          elim (or_cases (mentions s.clause.literals v) (list_any (λ c. mentions c.literals v) (live_clauses ss)) f) [
            | inl a ↦ let h : 0 < both s.clause.literals = times_some s.clause.literals a in omega (arith, h)
            | inr b ↦ let h : 0 < both_stored ss = ih b in omega (arith, h)
          ]

  stored_none : (ss : List Slot) → list_any (λ c. mentions c.literals v) (live_clauses ss) ≡ false → both_stored ss ≡ zero
  stored_none [] e = refl
  stored_none (s ∷ ss) e = go (stored_none ss) (is_removed s) e
    where
      go : (list_any (λ c. mentions c.literals v) (live_clauses ss) ≡ false → both_stored ss ≡ zero) → (b : Bool) → list_any (λ c. mentions c.literals v) (cond b [] (s.clause ∷ []) ++ live_clauses ss) ≡ false
          → (cond b 0 (times_in (2 * v) s.clause.literals) + times_stored (2 * v) ss) + (cond b 0 (times_in (2 * v + 1) s.clause.literals) + times_stored (2 * v + 1) ss) ≡ zero
      go ih true f = let h : both_stored ss ≡ zero = ih f in omega (arith, h)
      go ih false f =
          let p = or_parts (mentions s.clause.literals v) (list_any (λ c. mentions c.literals v) (live_clauses ss)) f in
          let a : both s.clause.literals ≡ zero = times_none s.clause.literals p.0 in
          let b : both_stored ss ≡ zero = ih p.1 in
          omega (arith, a, b)

  -- the counts of both literals decide whether the variable is mentioned
  pub mention_is : (r : Bool) (first second : ℕ) (ss : List Slot) → first ≡ times_stored (2 * v) ss → second ≡ times_stored (2 * v + 1) ss → MatchBool r (0 < first + second) (first + second ≡ zero) → r ≡ list_any (λ c. mentions c.literals v) (live_clauses ss)
  mention_is r first second ss e f h = go r h (list_any (λ c. mentions c.literals v) (live_clauses ss)) refl
    where
      go : (b : Bool) → MatchBool b (0 < first + second) (first + second ≡ zero) → (d : Bool) → list_any (λ c. mentions c.literals v) (live_clauses ss) ≡ d → b ≡ d
      go true t true g = refl
      go false t false g = refl
      go true t false g = let u : 0 < first + second = t in let n : both_stored ss ≡ zero = stored_none ss g in absurd (omega (arith, u, n, e, f))
      go false t true g = let u : first + second ≡ zero = t in let n : 0 < both_stored ss = stored_some ss g in absurd (omega (arith, u, n, e, f))

  module _ (h g : ClauseHasher) (names : (w : ℕ) → eqb w v ≡ false → solver_name_of h w ≡ solver_name_of g w) (width : width_of h ≡ width_of g) where
    same_names : (ls : List ℕ) → mentions ls v ≡ false → map (solver_literal (solver_name_of h)) ls ≡ map (solver_literal (solver_name_of g)) ls
    same_names [] e = refl
    same_names (l ∷ ls) e =
        let p = or_parts (eqb (variable l) v) (mentions ls v) e in
        ap (λ o. (2 * unwrap_or o (variable l) + l % 2) ∷ map (solver_literal (solver_name_of h)) ls) (names (variable l) p.0)
        ∙ ap (λ ms. solver_literal (solver_name_of g) l ∷ ms) (same_names ls p.1)

    same_hash : (ls : List ℕ) → mentions ls v ≡ false → clause_hash_by (solver_name_of h) (width_of h) ls ≡ clause_hash_by (solver_name_of g) (width_of g) ls
    same_hash ls e = ap (λ ks. hash_of ks / 2 ^ (64 - width_of h)) (same_names ls e) ∙ ap (λ k. hash_of (map (solver_literal (solver_name_of g)) ls) / 2 ^ (64 - k)) width

    pub hashed_still : (ss : List Slot) → list_any (λ c. mentions c.literals v) (live_clauses ss) ≡ false → AreHashed h ss → AreHashed g ss
    hashed_still [] e k = tt
    hashed_still (s ∷ ss) e k = go (λ f. hashed_still ss f k.1) (is_removed s) refl e
      where
        go : (list_any (λ c. mentions c.literals v) (live_clauses ss) ≡ false → AreHashed g ss) → (b : Bool) → is_removed s ≡ b → list_any (λ c. mentions c.literals v) (cond b [] (s.clause ∷ []) ++ live_clauses ss) ≡ false → AreHashed g (s ∷ ss)
        go rest true n f = (λ m. absurd (true≢false (sym n ∙ m)), rest f)
        go rest false n f =
            let p = or_parts (mentions s.clause.literals v) (list_any (λ c. mentions c.literals v) (live_clauses ss)) f in
            (λ m. k.0 m ∙ same_hash s.clause.literals p.0, rest p.1)

-- a variable that is in no clause gets another solver name
pub named_still : (store : Store) (f : Stored) (g : ClauseHasher) (v : ℕ) (name : Option ℕ) → RepresentsClauses (rehashed store) f → ((w : ℕ) → solver_name_of g w ≡ cond (eqb w v) name (solver_name_of store.hasher w)) → width_of g ≡ width_of store.hasher
    → list_any (λ c. mentions c.literals v) (live_clauses store.clauses) ≡ false → RepresentsClauses (rehashed (record store { hasher = g })) (with_solver_name v name f)
named_still store f g v name k names width none = record {
  clauses = refiled_live (record store { hasher = g }) ∙ stored_live store f k;
  hashed = go store.stale k.hashed;
  names = λ w. names w ∙ ap (λ o. cond (eqb w v) name o) (k.names w);
  width = width ∙ k.width;
}
  where
    go : (b : Bool) → AreHashed store.hasher (cond b (rehashed_slots store.hasher store.clauses) store.clauses) → AreHashed g (cond b (rehashed_slots g store.clauses) store.clauses)
    go true h = all_hashed g store.clauses
    go false h = hashed_still v store.hasher g (λ w n. sym (names w ∙ ap (λ b. cond b name (solver_name_of store.hasher w)) n)) (sym width) store.clauses none h
