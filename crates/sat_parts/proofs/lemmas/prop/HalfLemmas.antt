-- One iteration of the loop over the watches of a literal, for every result of a visit.
use Rattle.std.proofs.Common.{ℕ, ◌≡◌, ◌≢◌, ◌+◌, ◌<◌, ◌≤◌, ◌⊎◌, inl, inr, List, length, get_or, set, sym, ap, ◌∙◌, subst, arith, length-set, get_or-set_other}
use Rattle.std.proofs.lemmas.Bool.{cases_eq}
use Rattle.std.specs.List.{Contains}
use Rattle.sat_base.specs.values.Literals.{negated}
use Rattle.sat_store.specs.clause.Buffer.{lits_at}
use Rattle.sat_parts.specs.declared.prop.watch.Watch.{Watch}
use Rattle.sat_parts.specs.clause.Orders.{IsReordering, PermutesClause}
use Rattle.sat_parts.specs.clause.Stored.{AreLongClauses, lit_of, size_of}
use Rattle.sat_parts.specs.prop.Values.{IsTrueLit, IsFalseLit}
use Rattle.sat_parts.specs.prop.WatchLists.{no_watch, watch_on, lists_with_watch}
use Rattle.sat_parts.specs.prop.State.{PropagationState, level, HasLeftQueue, StateIsConsistent, IsQueueCurrent, IsSatisfied, TrailGrows}
use Rattle.sat_parts.specs.prop.Ready.{HasLit}
use Rattle.sat_parts.specs.prop.Walk.{HasWatchFrom, AreWatchedDuringWalk, WalkInvariant, PutsOtherWatchFirst}
use Rattle.sat_parts.proofs.lemmas.clause.OrderLemmas.{kept_clauses, reorders_one}
use Rattle.sat_parts.proofs.lemmas.prop.StateLemmas.{negated_twice, false_from_true, left_true, left_back, left_forth, level_kept, satisfied_forth}
use Rattle.sat_parts.proofs.lemmas.prop.WalkLemmas.{same_lits, shuffled_all, first_two, KeepsFirstTwo, at_two, walked_kept, walked_stale, walked_moved, not_watched, first_other}

pub satisfied_order : (s : PropagationState) (ls ms : List ℕ) (bound : ℕ) → IsReordering ls ms → IsSatisfied s ls bound → IsSatisfied s ms bound
satisfied_order s ls ms bound e h =
    let m : (j : ℕ) × ((j < length ls) × (get_or ms j 0 ≡ get_or ls h.place 0)) = e.forth h.place h.within in
    record {
      place = m.0;
      within = subst (λ (n : ℕ). m.0 < n) (sym e.size) m.1.0;
      holds = subst (λ (l : ℕ). IsTrueLit s.values l) (sym m.1.1) h.holds;
      low = subst (λ (l : ℕ). level s l ≤ bound) (sym m.1.1) h.low;
    }

-- a watch is on a live clause
pub place_live : (w live : List ℕ) (s : PropagationState) (lists : List (List Watch)) (list : List Watch) (lit kept at p : ℕ) →
    WalkInvariant w live s lists list lit kept at → at < length list → p ≡ (get_or list at no_watch).cref → Contains live p
place_live w live s lists list lit kept at p h lt at_p = subst (λ (z : ℕ). Contains live z) (sym at_p) (h.walked.mine at lt).0

-- the clause is satisfied, and its watch at index `at` moves to index `kept`
pub half_kept : (w v live : List ℕ) (s : PropagationState) (lists : List (List Watch)) (list : List Watch) (lit kept at p l : ℕ) →
    WalkInvariant w live s lists list lit kept at → at < length list → p ≡ (get_or list at no_watch).cref →
    PermutesClause w v p → KeepsFirstTwo w v p → HasLit v p l → IsSatisfied s (lits_at v p) (level s lit) →
    WalkInvariant v live s lists (set list kept (watch_on p l)) lit (kept + 1) (at + 1)
half_kept w v live s lists list lit kept at p l h lt at_p e two has sat =
    let hp : Contains live p = place_live w live s lists list lit kept at p h lt at_p in
    let size : length (set list kept (watch_on p l)) ≡ length list = length-set list kept (watch_on p l) in
    let gap : kept ≤ at = h.walked.gap in
    record {
      clauses = kept_clauses w v live (length s.values) h.clauses (reorders_one w v live p hp e);
      agrees = h.agrees;
      queue = h.queue;
      left = h.left;
      top = h.top;
      walked = walked_kept w v live lists list lit kept at (length s.values) p l h.clauses h.walked lt at_p e two has;
      settled = λ o i ho hi f.
          let m : (j : ℕ) × ((j < 2) × (lit_of v o i ≡ lit_of w o j)) = first_two w v live (length s.values) p o h.clauses hp e ho two i hi in
          let n : negated (lit_of v o i) ≡ negated (lit_of w o m.0) = ap (λ z. negated z) m.1.1 in
          elim (h.settled o m.0 ho m.1.0 (subst (λ (z : ℕ). HasLeftQueue s z) n f)) [
            | inl t ↦ inl (subst (λ (z : ℕ). IsSatisfied s (lits_at v o) (level s z)) (sym n)
                (satisfied_order s (lits_at w o) (lits_at v o) (level s (negated (lit_of w o m.0))) (shuffled_all w v live (length s.values) p o h.clauses hp e ho) t))
            | inr t ↦ elim (cases_eq t.1.0 at) [
              | inl r ↦
                  let same : p ≡ o = at_p ∙ ap (λ q. (get_or list q no_watch).cref) (sym r) ∙ t.1.1.2 in
                  inl (subst (λ (z : ℕ). IsSatisfied s (lits_at v o) (level s z)) (sym (n ∙ t.0)) (subst (λ (z : ℕ). IsSatisfied s (lits_at v z) (level s lit)) same sat))
              | inr d ↦
                  let k : t.1.0 ≢ kept = λ z. d (omega (arith, t.1.1.1)) in
                  inr (n ∙ t.0, (t.1.0, (omega (arith, t.1.1.0), omega (arith, t.1.1.1), ap (λ (y : Watch). y.cref) (get_or-set_other list kept t.1.0 (watch_on p l) no_watch k) ∙ t.1.1.2)))
            ]
          ];
    }

-- the watch at index `at` is dropped, because its clause does not watch the negation of lit
pub half_stale : (w live : List ℕ) (s : PropagationState) (lists : List (List Watch)) (list : List Watch) (lit kept at p : ℕ) →
    WalkInvariant w live s lists list lit kept at → at < length list → p ≡ (get_or list at no_watch).cref →
    lit_of w p 0 ≢ negated lit → lit_of w p 1 ≢ negated lit →
    WalkInvariant w live s lists list lit kept (at + 1)
half_stale w live s lists list lit kept at p h lt at_p n0 n1 = record {
  clauses = h.clauses;
  agrees = h.agrees;
  queue = h.queue;
  left = h.left;
  top = h.top;
  walked = walked_stale w live lists list lit kept at (length s.values) p h.walked lt at_p n0 n1;
  settled = λ o i ho hi f. elim (h.settled o i ho hi f) [
    | inl t ↦ inl t
    | inr t ↦ elim (cases_eq t.1.0 at) [
      | inl r ↦
          let same : p ≡ o = at_p ∙ ap (λ q. (get_or list q no_watch).cref) (sym r) ∙ t.1.1.2 in
          absurd (not_watched w p lit n0 n1 i hi (ap (λ z. negated (lit_of w z i)) same ∙ t.0))
      | inr d ↦ inr (t.0, (t.1.0, (t.1.1.0, omega (arith, t.1.1.1), t.1.1.2)))
    ]
  ];
}

-- the watch at index `at` is dropped; its clause watches its new second literal instead, which is not false
pub half_moved : (w v live : List ℕ) (s : PropagationState) (lists : List (List Watch)) (list : List Watch) (lit kept at p : ℕ) →
    WalkInvariant w live s lists list lit kept at → at < length list → p ≡ (get_or list at no_watch).cref →
    PermutesClause w v p → PutsOtherWatchFirst w v p (negated lit) → (IsFalseLit s.values (lit_of v p 1) → ⊥) →
    WalkInvariant v live s (lists_with_watch (negated (lit_of v p 1)) (watch_on p (lit_of v p 0)) lists) list lit kept (at + 1)
half_moved w v live s lists list lit kept at p h lt at_p e other opened =
    let hp : Contains live p = place_live w live s lists list lit kept at p h lt at_p in
    let c' : AreLongClauses v live (length s.values) = kept_clauses w v live (length s.values) h.clauses (reorders_one w v live p hp e) in
    let not_left : HasLeftQueue s (negated (lit_of v p 1)) → ⊥ = λ f.
    opened (subst (λ (z : ℕ). IsFalseLit s.values z) (negated_twice (lit_of v p 1)) (false_from_true s.values (negated (lit_of v p 1)) (left_true s (negated (lit_of v p 1)) h.agrees f))) in
    let new : negated (lit_of v p 1) ≢ lit = λ r. not_left (subst (λ (z : ℕ). HasLeftQueue s z) (sym r) h.left) in
    let long : 3 ≤ size_of w p = h.clauses.long p hp in
    let first_ne : negated (lit_of v p 0) ≢ lit = first_other w v p lit (h.clauses.distinct p hp) (omega arith) other in
    let S : ℕ → ℕ → Type 0 = λ o i. HasLeftQueue s (negated (lit_of v o i)) → IsSatisfied s (lits_at v o) (level s (negated (lit_of v o i))) ⊎ ((negated (lit_of v o i) ≡ lit) × HasWatchFrom list (at + 1) o) in
    let from_old : (j : ℕ) → j < 2 → lit_of v p 0 ≡ lit_of w p j → S p 0 = λ j hj q f.
    let n : negated (lit_of v p 0) ≡ negated (lit_of w p j) = ap (λ z. negated z) q in
    elim (h.settled p j hp hj (subst (λ (z : ℕ). HasLeftQueue s z) n f)) [
      | inl t ↦ inl (subst (λ (z : ℕ). IsSatisfied s (lits_at v p) (level s z)) (sym n) (satisfied_order s (lits_at w p) (lits_at v p) (level s (negated (lit_of w p j))) e.lits t))
      | inr t ↦ absurd (first_ne (n ∙ t.0))
    ] in
    let s0 : S p 0 = elim other [ inl x ↦ from_old 0 (omega arith) x.1 | inr x ↦ from_old 1 (omega arith) x.1 ] in
    let s1 : S p 1 = λ f. absurd (not_left f) in
    record {
      clauses = c';
      agrees = h.agrees;
      queue = h.queue;
      left = h.left;
      top = h.top;
      walked = walked_moved w v live lists list lit kept at (length s.values) p h.clauses c' h.walked lt at_p e other new;
      settled = λ o i ho hi. elim (cases_eq p o) [
        | inl r ↦ subst (λ (z : ℕ). S z i) r (at_two (λ j. S p j) s0 s1 i hi)
        | inr d ↦ λ f.
            let ls : lits_at v o ≡ lits_at w o = same_lits w v live (length s.values) p o h.clauses hp e ho d in
            let n : negated (lit_of v o i) ≡ negated (lit_of w o i) = ap (λ (xs : List ℕ). negated (get_or xs i 0)) ls in
            elim (h.settled o i ho hi (subst (λ (z : ℕ). HasLeftQueue s z) n f)) [
              | inl t ↦ inl (subst (λ (z : ℕ). IsSatisfied s (lits_at v o) (level s z)) (sym n) (subst (λ (xs : List ℕ). IsSatisfied s xs (level s (negated (lit_of w o i)))) (sym ls) t))
              | inr t ↦
                  let k : t.1.0 ≢ at = λ z. d (at_p ∙ ap (λ q. (get_or list q no_watch).cref) (sym z) ∙ t.1.1.2) in
                  inr (n ∙ t.0, (t.1.0, (t.1.1.0, omega (arith, t.1.1.1), t.1.1.2)))
            ]
      ];
    }

-- unassigned literals become true
pub half_grows : (w live : List ℕ) (s t : PropagationState) (lists : List (List Watch)) (list : List Watch) (lit kept at : ℕ) →
    WalkInvariant w live s lists list lit kept at → TrailGrows s t → t.trail.head ≡ s.trail.head → StateIsConsistent t → IsQueueCurrent t → WalkInvariant w live t lists list lit kept at
half_grows w live s t lists list lit kept at h g e a q =
    let lt : IsTrueLit s.values lit = left_true s lit h.agrees h.left in
    record {
      clauses = subst (λ (n : ℕ). AreLongClauses w live n) (sym g.size) h.clauses;
      agrees = a;
      queue = q;
      left = left_forth s t lit g e h.left;
      top = level_kept s t lit g lt ∙ h.top ∙ ap (λ (xs : List ℕ). length xs) (sym g.starts);
      walked = subst (λ (n : ℕ). AreWatchedDuringWalk w live lists list lit kept at n) (sym g.size) h.walked;
      settled = λ o i ho hi f.
          let f' : HasLeftQueue s (negated (lit_of w o i)) = left_back s t (negated (lit_of w o i)) g e h.agrees.trail f in
          let same : level t (negated (lit_of w o i)) ≡ level s (negated (lit_of w o i)) = level_kept s t (negated (lit_of w o i)) g (left_true s (negated (lit_of w o i)) h.agrees f') in
          elim (h.settled o i ho hi f') [
            | inl x ↦ inl (satisfied_forth s t (lits_at w o) (level t (negated (lit_of w o i))) g (subst (λ (n : ℕ). IsSatisfied s (lits_at w o) n) (sym same) x))
            | inr x ↦ inr x
          ];
    }
