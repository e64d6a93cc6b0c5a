-- The complete walk through the watches of a literal: its invariant, its iterations, and both ends.
use Rattle.std.proofs.Common.{ℕ, ◌≡◌, ◌≢◌, ◌+◌, ◌*◌, ◌<◌, ◌≤◌, inl, inr, List, [], ◌++◌, length, get_or, set, take, drop, refl, sym, ap, ◌∙◌, subst, arith, Some, None}
use Rattle.std.proofs.Math.ListN.{drop_of_length-le}
use Rattle.std.proofs.lemmas.Bool.{cases_eq}
use Rattle.std.proofs.lemmas.List.{append-nil}
use Rattle.std.specs.List.{Contains}
use Rattle.sat_base.specs.values.Literals.{negated, variable, is_positive}
use Rattle.sat_store.specs.clause.Buffer.{lits_at}
use Rattle.sat_parts.specs.declared.prop.graph.Reason.{Reason}
use Rattle.sat_parts.specs.declared.prop.graph.Reason.TheVariants.{Long}
use Rattle.sat_parts.specs.declared.prop.watch.Watch.{Watch}
use Rattle.sat_parts.specs.clause.Orders.{PermutesClause}
use Rattle.sat_parts.specs.clause.Stored.{AreLongClauses, lit_of, size_of}
use Rattle.sat_parts.specs.prop.Values.{IsTrueLit, IsFalseLit, IsUnassignedLit}
use Rattle.sat_parts.specs.prop.WatchLists.{no_watch, watch_on, watches_of, lists_with_watch}
use Rattle.sat_parts.specs.prop.State.{PropagationState, level, current_level, HasLeftQueue, StateIsConsistent, IsQueueCurrent, IsSatisfied, enqueued, TrailGrows}
use Rattle.sat_parts.specs.prop.Reasons.{IsFalseBefore, ReasonImplies, PropagationEffect}
use Rattle.sat_parts.specs.prop.Ready.{HasLit, HasWatch, IsSoundWatch, AreWatched, LongPropagationInvariant}
use Rattle.sat_parts.specs.prop.Walk.{WalkInvariant, PutsOtherWatchFirst, PutsFalseLitSecond, WatchWalkEffect}
use Rattle.sat_parts.proofs.lemmas.clause.OrderLemmas.{shuffles_refl, kept_clauses, reorders_one}
use Rattle.sat_parts.proofs.lemmas.prop.StateLemmas.{true_from_false, false_from_true, not_both, level_low, left_true, agrees_enqueued, grows_enqueued, queue_enqueued, true_new, before_forth, removed_forth, lit_last}
use Rattle.sat_parts.proofs.lemmas.prop.RoomLemmas.{room_for, below_from_value}
use Rattle.sat_parts.proofs.lemmas.prop.ReasonLemmas.{moves_refl, moves_shuffled, moves_enqueued, moves_trans}
use Rattle.sat_parts.proofs.lemmas.prop.WalkLemmas.{shuffled_all, first_two, oriented_two, walked_kept, walked_close, walked_open, cut}
use Rattle.sat_parts.proofs.lemmas.prop.HalfLemmas.{satisfied_order, place_live, half_kept, half_stale, half_moved, half_grows}

-- `Walking live w0 s0 w s lists list lit kept at` holds if `WalkInvariant` does, for a walk that began with the words
-- `w0` and the state `s0`.
pub record Walking (live w0 : List ℕ) (s0 : PropagationState) (w : List ℕ) (s : PropagationState) (lists : List (List Watch)) (list : List Watch) (lit kept at : ℕ) : Type 0 where
  pub half : WalkInvariant w live s lists list lit kept at
  pub moves : (implied : List (List ℕ)) → PropagationEffect live implied w0 s0 w s
  pub head : s.trail.head ≡ s0.trail.head

-- the negation of the propagated literal is false
false_lit : (w live : List ℕ) (s : PropagationState) (lists : List (List Watch)) (list : List Watch) (lit kept at : ℕ) → WalkInvariant w live s lists list lit kept at → IsFalseLit s.values (negated lit)
false_lit w live s lists list lit kept at h = false_from_true s.values lit (left_true s lit h.agrees h.left)

pub lit_false : (w live : List ℕ) (s : PropagationState) (lists : List (List Watch)) (list : List Watch) (lit kept at : ℕ) → WalkInvariant w live s lists list lit kept at → IsFalseLit s.values (negated lit)
lit_false w live s lists list lit kept at h = false_lit w live s lists list lit kept at h

-- a true first literal stays the first
first_stays : (w v : List ℕ) (s : PropagationState) (p fl : ℕ) → IsFalseLit s.values fl → PutsOtherWatchFirst w v p fl → IsTrueLit s.values (lit_of w p 0) → lit_of v p 0 ≡ lit_of w p 0
first_stays w v s p fl f other t = elim other [
  | inl x ↦ x.1
  | inr x ↦ absurd (not_both s.values fl (subst (λ (z : ℕ). IsTrueLit s.values z) x.0 t) f)
]

-- a true literal satisfies the clause at the level of lit or lower
satisfied_by : (s : PropagationState) (ls : List ℕ) (lit k : ℕ) → StateIsConsistent s → level s lit ≡ current_level s → k < length ls → IsTrueLit s.values (get_or ls k 0) → IsSatisfied s ls (level s lit)
satisfied_by s ls lit k a top lt t = record { place = k; within = lt; holds = t; low = omega (arith, level_low s (get_or ls k 0) a t) }

-- the blocking literal is true
pub step_blocked : (live w0 : List ℕ) (s0 : PropagationState) (w : List ℕ) (s : PropagationState) (lists : List (List Watch)) (list : List Watch) (lit kept at p b : ℕ) →
    Walking live w0 s0 w s lists list lit kept at → at < length list → p ≡ (get_or list at no_watch).cref → b ≡ (get_or list at no_watch).blocking →
    IsTrueLit s.values b →
    Walking live w0 s0 w s lists (set list kept (watch_on p b)) lit (kept + 1) (at + 1)
step_blocked live w0 s0 w s lists list lit kept at p b h lt at_p at_b t =
    let half : WalkInvariant w live s lists list lit kept at = h.half in
    let hp : Contains live p = place_live w live s lists list lit kept at p half lt at_p in
    let g : HasLit w p b = subst (λ (z : ℕ). HasLit w z b) (sym at_p) (subst (λ (z : ℕ). HasLit w (get_or list at no_watch).cref z) (sym at_b) (half.walked.mine at lt).1) in
    record {
      half = half_kept w w live s lists list lit kept at p b half lt at_p (shuffles_refl w p (half.clauses.holds_clauses.clauses p hp)) (λ i hi. (i, (hi, refl))) g
          (satisfied_by s (lits_at w p) lit g.0 half.agrees half.top g.1.0 (subst (λ (z : ℕ). IsTrueLit s.values z) (sym g.1.1) t));
      moves = h.moves;
      head = h.head;
    }

-- the clause no longer watches the literal, and its watch is dropped
pub step_stale : (live w0 : List ℕ) (s0 : PropagationState) (w : List ℕ) (s : PropagationState) (lists : List (List Watch)) (list : List Watch) (lit kept at p : ℕ) →
    Walking live w0 s0 w s lists list lit kept at → at < length list → p ≡ (get_or list at no_watch).cref →
    lit_of w p 0 ≢ negated lit → lit_of w p 1 ≢ negated lit →
    Walking live w0 s0 w s lists list lit kept (at + 1)
step_stale live w0 s0 w s lists list lit kept at p h lt at_p n0 n1 = record {
  half = half_stale w live s lists list lit kept at p h.half lt at_p n0 n1;
  moves = h.moves;
  head = h.head;
}

-- a visit is a stretch of propagation
visit_moves : (live w0 : List ℕ) (s0 : PropagationState) (w v : List ℕ) (s : PropagationState) (lists : List (List Watch)) (list : List Watch) (lit kept at p : ℕ) →
    Walking live w0 s0 w s lists list lit kept at → at < length list → p ≡ (get_or list at no_watch).cref →
    PermutesClause w v p → PutsOtherWatchFirst w v p (negated lit) →
    (implied : List (List ℕ)) → PropagationEffect live implied w0 s0 v s
visit_moves live w0 s0 w v s lists list lit kept at p h lt at_p e other implied =
    let half : WalkInvariant w live s lists list lit kept at = h.half in
    moves_trans live implied w0 s0 w s v s (h.moves implied)
    (moves_shuffled live implied w s v p (length s.values) half.agrees half.clauses (place_live w live s lists list lit kept at p half lt at_p) e
    (first_stays w v s p (negated lit) (lit_false w live s lists list lit kept at half) other))

-- the clause watches another literal instead, and its watch moves to that literal
pub step_moved : (live w0 : List ℕ) (s0 : PropagationState) (w v : List ℕ) (s : PropagationState) (lists : List (List Watch)) (list : List Watch) (lit kept at p : ℕ) →
    Walking live w0 s0 w s lists list lit kept at → at < length list → p ≡ (get_or list at no_watch).cref →
    PermutesClause w v p → PutsOtherWatchFirst w v p (negated lit) → (IsFalseLit s.values (lit_of v p 1) → ⊥) →
    Walking live w0 s0 v s (lists_with_watch (negated (lit_of v p 1)) (watch_on p (lit_of v p 0)) lists) list lit kept (at + 1)
step_moved live w0 s0 w v s lists list lit kept at p h lt at_p e other opened = record {
  half = half_moved w v live s lists list lit kept at p h.half lt at_p e other opened;
  moves = visit_moves live w0 s0 w v s lists list lit kept at p h lt at_p e other;
  head = h.head;
}

first_there : (w v live : List ℕ) (s : PropagationState) (lists : List (List Watch)) (list : List Watch) (lit kept at p : ℕ) →
    WalkInvariant w live s lists list lit kept at → Contains live p → PermutesClause w v p → 0 < size_of v p
first_there w v live s lists list lit kept at p h hp e =
    let long : 3 ≤ size_of w p = h.clauses.long p hp in
    let size : size_of v p ≡ size_of w p = e.lits.size in
    omega arith

-- the clause has a true first literal, and its watch stays
pub step_kept : (live w0 : List ℕ) (s0 : PropagationState) (w v : List ℕ) (s : PropagationState) (lists : List (List Watch)) (list : List Watch) (lit kept at p n : ℕ) →
    Walking live w0 s0 w s lists list lit kept at → at < length list → p ≡ (get_or list at no_watch).cref →
    PermutesClause w v p → PutsFalseLitSecond w v p (negated lit) → n ≡ lit_of v p 0 → IsTrueLit s.values (lit_of v p 0) →
    Walking live w0 s0 v s lists (set list kept (watch_on p n)) lit (kept + 1) (at + 1)
step_kept live w0 s0 w v s lists list lit kept at p n h lt at_p e o n_is t =
    let half : WalkInvariant w live s lists list lit kept at = h.half in
    let hp : Contains live p = place_live w live s lists list lit kept at p half lt at_p in
    let b : 0 < size_of v p = first_there w v live s lists list lit kept at p half hp e in
    record {
      half = half_kept w v live s lists list lit kept at p n half lt at_p e (oriented_two w v p (negated lit) o.other o.second) (0, (b, sym n_is))
          (satisfied_by s (lits_at v p) lit 0 half.agrees half.top b t);
      moves = visit_moves live w0 s0 w v s lists list lit kept at p h lt at_p e o.other;
      head = h.head;
    }

-- the literals of a visited clause are in range
pub lit_below : (w v live : List ℕ) (s : PropagationState) (lists : List (List Watch)) (list : List Watch) (lit kept at p k : ℕ) →
    WalkInvariant w live s lists list lit kept at → Contains live p → PermutesClause w v p → k < size_of v p → variable (lit_of v p k) < length s.values
lit_below w v live s lists list lit kept at p k h hp e b =
    let c : AreLongClauses v live (length s.values) = kept_clauses w v live (length s.values) h.clauses (reorders_one w v live p hp e) in
    omega (arith, c.below p k hp b)

-- a false literal was false before the next position of the trail
false_so_far : (s : PropagationState) (l n : ℕ) (r : Reason) → StateIsConsistent s → TrailGrows s (enqueued n r s) → IsFalseLit s.values l → IsFalseBefore (enqueued n r s) (length s.trail.lits) l
false_so_far s l n r a g f = elim (a.known (negated l) (true_from_false s.values l f)) [
  | inl x ↦ inl (before_forth s (enqueued n r s) (length s.trail.lits) (negated l) g x)
  | inr x ↦ inr (removed_forth s (enqueued n r s) (negated l) g x)
]

-- the clause makes its first literal true, and its watch stays
pub step_propagates : (live w0 : List ℕ) (s0 : PropagationState) (w v : List ℕ) (s : PropagationState) (lists : List (List Watch)) (list : List Watch) (lit kept at p n : ℕ) →
    Walking live w0 s0 w s lists list lit kept at → at < length list → p ≡ (get_or list at no_watch).cref →
    PermutesClause w v p → PutsFalseLitSecond w v p (negated lit) → n ≡ lit_of v p 0 →
    ((k : ℕ) → 1 ≤ k → k < size_of v p → IsFalseLit s.values (lit_of v p k)) → IsUnassignedLit s.values n →
    Walking live w0 s0 v (enqueued n (Long p) s) lists (set list kept (watch_on p n)) lit (kept + 1) (at + 1)
step_propagates live w0 s0 w v s lists list lit kept at p n h lt at_p e o n_is others open_n =
    let half : WalkInvariant w live s lists list lit kept at = h.half in
    let hp : Contains live p = place_live w live s lists list lit kept at p half lt at_p in
    let b : 0 < size_of v p = first_there w v live s lists list lit kept at p half hp e in
    let small : variable n < length s.values = subst (λ (z : ℕ). variable z < length s.values) (sym n_is) (lit_below w v live s lists list lit kept at p 0 half hp e b) in
    let room : length s.trail.lits < s.trail.room = room_for s n (Long p) half.agrees open_n small in
    let t : PropagationState = enqueued n (Long p) s in
    let g : TrailGrows s (enqueued n (Long p) s) = grows_enqueued s n (Long p) half.agrees open_n small room in
    let a : StateIsConsistent (enqueued n (Long p) s) = agrees_enqueued s n (Long p) half.agrees open_n small room in
    let q : IsQueueCurrent (enqueued n (Long p) s) = queue_enqueued s n (Long p) half.agrees half.queue open_n small in
    let grown : WalkInvariant w live (enqueued n (Long p) s) lists list lit kept at = half_grows w live s t lists list lit kept at half g refl a q in
    let holds : IsTrueLit t.values (lit_of v p 0) = subst (λ (z : ℕ). IsTrueLit t.values z) n_is (true_new s n (Long p) small) in
    let cause : (implied : List (List ℕ)) → ReasonImplies v live implied t (length s.trail.lits) (Long p) =
    λ implied. (hp, sym n_is ∙ sym (lit_last s n (Long p)), λ k x y. false_so_far s (lit_of v p k) n (Long p) half.agrees g (others k x y)) in
    record {
      half = half_kept w v live t lists list lit kept at p n grown lt at_p e (oriented_two w v p (negated lit) o.other o.second) (0, (b, sym n_is))
          (satisfied_by t (lits_at v p) lit 0 a grown.top b holds);
      moves = λ implied. moves_trans live implied w0 s0 v s v t (visit_moves live w0 s0 w v s lists list lit kept at p h lt at_p e o.other implied)
          (moves_enqueued live implied v s n (Long p) half.agrees open_n small room refl (cause implied));
      head = h.head;
    }

-- the clause is falsified: the walk ends, and clauses stay propagated below the current level
pub walk_falsified : (live w0 : List ℕ) (s0 : PropagationState) (w v : List ℕ) (s : PropagationState) (lists : List (List Watch)) (list : List Watch) (lit kept at p n : ℕ) →
    Walking live w0 s0 w s lists list lit kept at → at < length list → p ≡ (get_or list at no_watch).cref →
    PermutesClause w v p → PutsFalseLitSecond w v p (negated lit) → n ≡ lit_of v p 0 →
    ((k : ℕ) → k < size_of v p → IsFalseLit s.values (lit_of v p k)) → lit < 2 * length s.values →
    WatchWalkEffect live w0 s0 v s (set lists lit (cut (kept + 1) (at + 1) (set list kept (watch_on p n)))) (Some p)
walk_falsified live w0 s0 w v s lists list lit kept at p n h lt at_p e o n_is all small =
    let half : WalkInvariant w live s lists list lit kept at = h.half in
    let hp : Contains live p = place_live w live s lists list lit kept at p half lt at_p in
    let b : 0 < size_of v p = first_there w v live s lists list lit kept at p half hp e in
    let two = oriented_two w v p (negated lit) o.other o.second in
    record {
      moves = visit_moves live w0 s0 w v s lists list lit kept at p h lt at_p e o.other;
      head = h.head;
      ready = record {
        clauses = kept_clauses w v live (length s.values) half.clauses (reorders_one w v live p hp e);
        watches = walked_close v live lists (set list kept (watch_on p n)) lit (kept + 1) (at + 1) (length s.values)
            (walked_kept w v live lists list lit kept at (length s.values) p n half.clauses half.walked lt at_p e two (0, (b, sym n_is))) small;
        agrees = half.agrees;
        queue = half.queue;
        settled = λ x i hx hi f due.
            let m : (j : ℕ) × ((j < 2) × (lit_of v x i ≡ lit_of w x j)) = first_two w v live (length s.values) p x half.clauses hp e hx two i hi in
            let q : negated (lit_of v x i) ≡ negated (lit_of w x m.0) = ap (λ z. negated z) m.1.1 in
            elim (half.settled x m.0 hx m.1.0 (subst (λ (z : ℕ). HasLeftQueue s z) q f)) [
              | inl y ↦ subst (λ (z : ℕ). IsSatisfied s (lits_at v x) (level s z)) (sym q)
                  (satisfied_order s (lits_at w x) (lits_at v x) (level s (negated (lit_of w x m.0))) (shuffled_all w v live (length s.values) p x half.clauses hp e hx) y)
              | inr y ↦
                  let same : level s (negated (lit_of v x i)) ≡ level s lit = ap (λ z. level s z) (q ∙ y.0) in
                  absurd (omega (arith, due, half.top))
            ];
      };
      conflict = (hp, all);
    }

-- no watch is left to visit
pub walk_done : (live w0 : List ℕ) (s0 : PropagationState) (w : List ℕ) (s : PropagationState) (lists : List (List Watch)) (list : List Watch) (lit kept at : ℕ) →
    Walking live w0 s0 w s lists list lit kept at → at ≡ length list → lit < 2 * length s.values →
    WatchWalkEffect live w0 s0 w s (set lists lit (take kept list)) None
walk_done live w0 s0 w s lists list lit kept at h end small =
    let half : WalkInvariant w live s lists list lit kept at = h.half in
    let none : drop at list ≡ [] = drop_of_length-le list (omega arith) in
    let front : cut kept at list ≡ take kept list = ap (λ (xs : List Watch). take kept list ++ xs) none ∙ append-nil (take kept list) in
    record {
      moves = h.moves;
      head = h.head;
      ready = record {
        clauses = half.clauses;
        watches = subst (λ (xs : List Watch). AreWatched w live (set lists lit xs) (length s.values)) front (walked_close w live lists list lit kept at (length s.values) half.walked small);
        agrees = half.agrees;
        queue = half.queue;
        settled = λ x i hx hi f due. elim (half.settled x i hx hi f) [
          | inl y ↦ y
          | inr y ↦ absurd (omega (arith, y.1.1.0, y.1.1.1, end))
        ];
      };
      conflict = tt;
    }

-- the watches of lit are taken out, while only the clauses that lit made false are not propagated
pub walk_open : (live w : List ℕ) (s : PropagationState) (lists : List (List Watch)) (lit : ℕ) →
    LongPropagationInvariant w live lists s (λ l. l ≢ lit) → HasLeftQueue s lit → level s lit ≡ current_level s → lit < 2 * length s.values →
    Walking live w s w s (set lists lit []) (watches_of lists lit) lit 0 0
walk_open live w s lists lit h left top small = record {
  half = record {
    clauses = h.clauses;
    agrees = h.agrees;
    queue = h.queue;
    left = left;
    top = top;
    walked = walked_open w live lists lit (length s.values) h.watches small;
    settled = λ o i ho hi f. elim (cases_eq (negated (lit_of w o i)) lit) [
      | inl e ↦
          let x = subst (λ (z : ℕ). HasWatch (watches_of lists z) o) e (h.watches.both o i ho hi) in
          inr (e, (x.0, (x.1.0, omega arith, x.1.1)))
      | inr n ↦ inl (h.settled o i ho hi f n)
    ];
  };
  moves = λ implied. moves_refl live implied w s;
  head = refl;
}

-- the blocking literal of a watch is in range
pub blocking_below : (w live : List ℕ) (s : PropagationState) (lists : List (List Watch)) (list : List Watch) (lit kept at b : ℕ) →
    WalkInvariant w live s lists list lit kept at → at < length list → b ≡ (get_or list at no_watch).blocking → variable b < length s.values
blocking_below w live s lists list lit kept at b h lt at_b =
    let g : IsSoundWatch w live (get_or list at no_watch) = h.walked.mine at lt in
    let x : lit_of w (get_or list at no_watch).cref g.1.0 < 2 * length s.values = h.clauses.below (get_or list at no_watch).cref g.1.0 g.0 g.1.1.0 in
    omega (arith, g.1.1.1)

-- a literal that has left the queue is in range
pub left_below : (s : PropagationState) (l : ℕ) → StateIsConsistent s → HasLeftQueue s l → l < 2 * length s.values
left_below s l a f =
    let v : variable l < length s.values = below_from_value s.values (variable l) (is_positive l) (left_true s l a f) in
    omega arith

-- the literal of a walk is in range
pub walk_small : (w live : List ℕ) (s : PropagationState) (lists : List (List Watch)) (list : List Watch) (lit kept at : ℕ) →
    WalkInvariant w live s lists list lit kept at → lit < 2 * length s.values
walk_small w live s lists list lit kept at h = left_below s lit h.agrees h.left

-- the first literal of a visited clause is in range
pub visited_below : (w v live : List ℕ) (s : PropagationState) (lists : List (List Watch)) (list : List Watch) (lit kept at p n : ℕ) →
    WalkInvariant w live s lists list lit kept at → at < length list → p ≡ (get_or list at no_watch).cref → PermutesClause w v p → n ≡ lit_of v p 0 →
    variable n < length s.values
visited_below w v live s lists list lit kept at p n h lt at_p e n_is =
    let hp : Contains live p = place_live w live s lists list lit kept at p h lt at_p in
    subst (λ (z : ℕ). variable z < length s.values) (sym n_is)
    (lit_below w v live s lists list lit kept at p 0 h hp e (first_there w v live s lists list lit kept at p h hp e))
