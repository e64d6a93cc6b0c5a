-- Propagation of the literals of the queue, one by one.
use Rattle.std.proofs.Common.{ℕ, ◌≡◌, ◌≢◌, ◌+◌, ◌-◌, ◌<◌, ◌≤◌, inl, inr, List, [], length, get_or, refl, sym, ap, ◌∙◌, subst, arith, Bool, Option, Some, None, slice_get}
use Rattle.std.proofs.lemmas.Bool.{cases_eq}
use Rattle.std.proofs.lemmas.Option.{slice_get_within, slice_get-get_or}
use Rattle.std.specs.List.{Contains}
use Rattle.sat_base.specs.values.Literals.{negated, variable}
use Rattle.sat_store.specs.clause.Buffer.{lits_at}
use Rattle.sat_parts.specs.declared.prop.graph.Conflict.{Conflict}
use Rattle.sat_parts.specs.declared.prop.graph.Conflict.TheVariants.{Binary, Long}
use Rattle.sat_parts.specs.declared.prop.watch.Watch.{Watch}
use Rattle.sat_parts.specs.clause.Stored.{AreLongClauses, lit_of, size_of}
use Rattle.sat_parts.specs.prop.Values.{IsTrueLit, IsFalseLit}
use Rattle.sat_parts.specs.prop.Binaries.{implied_by}
use Rattle.sat_parts.specs.prop.State.{PropagationState, node, level, current_level, lit_at, IsRemovedUnit, IsOnTrailBefore, HasLeftQueue, StateIsConsistent, IsQueueCurrent, IsSatisfied, TrailGrows}
use Rattle.sat_parts.specs.prop.Reasons.{TrailReasonsHaveLitFirst, PropagationEffect}
use Rattle.sat_parts.specs.prop.Ready.{BinariesArePropagated, AreWatched, AreImpliedLists, LongPropagationInvariant, WatchedPropagationInvariant, IsReadyToPropagate, IsUnitFixpoint, IsConflict}
use Rattle.sat_parts.specs.prop.Walk.{BinaryWalkInvariant, WatchWalkEffect, IsDueAfterWalk}
use Rattle.sat_parts.proofs.lemmas.clause.OrderLemmas.{reorders_refl}
use Rattle.sat_parts.proofs.lemmas.prop.StateLemmas.{true_from_false, not_both, open_other, level_low, left_true, left_back, level_kept, satisfied_forth, before_forth, removed_forth}
use Rattle.sat_parts.proofs.lemmas.prop.ReasonLemmas.{moves_trans, implies_forth, firsts_moved}

-- the state after the next literal left the queue
abbrev pub popped : PropagationState → PropagationState
popped s = record s { trail = record s.trail { head = s.trail.head + 1 } }

pub popped_removed : (s : PropagationState) (l : ℕ) → IsRemovedUnit (popped s) l → IsRemovedUnit s l
popped_removed s l r = record { holds = r.holds; depth = r.depth; bottom = r.bottom }

pub grows_popped : (s : PropagationState) → TrailGrows s (popped s)
grows_popped s = record {
  size = refl;
  starts = refl;
  cleared = refl;
  room = refl;
  longer = omega arith;
  front = λ i p. refl;
  kept = λ l t. t;
  nodes = λ l t. refl;
  removed = λ l r. popped_removed s l r;
}

pub agrees_popped : (s : PropagationState) → StateIsConsistent s → s.trail.head < length s.trail.lits → StateIsConsistent (popped s)
agrees_popped s h lt = record {
  trail = record { queue = omega arith; levels = h.trail.levels; fits = h.trail.fits; small = h.trail.small; counted = h.trail.counted };
  nodes = h.nodes;
  room = h.room;
  holds = h.holds;
  depths = h.depths;
  levels = h.levels;
  known = λ l t. elim (h.known l t) [
    | inl b ↦ inl (before_forth s (popped s) (length s.trail.lits) l (grows_popped s) b)
    | inr r ↦ inr (removed_forth s (popped s) l (grows_popped s) r)
  ];
}

pub moves_popped : (live : List ℕ) (implied : List (List ℕ)) (words : List ℕ) (s : PropagationState) → PropagationEffect live implied words s words (popped s)
moves_popped live implied words s = record {
  grows = grows_popped s;
  reorders = reorders_refl words live;
  firsts = λ o h t. refl;
  caused = λ i p q. absurd (omega arith);
  reasons = λ from p h i x y. implies_forth words live implied s (popped s) i (node s (lit_at s i)).reason (grows_popped s) y (h i x y);
}

-- the next literal of the queue
pub next_there : (s : PropagationState) (l : ℕ) → slice_get s.trail.lits s.trail.head ≡ Some l → (s.trail.head < length s.trail.lits) × (lit_at s s.trail.head ≡ l)
next_there s l e =
    let lt : s.trail.head < length s.trail.lits = slice_get_within s.trail.lits s.trail.head l e in
    (lt, (let x : Some (lit_at s s.trail.head) ≡ Some l = sym (slice_get-get_or s.trail.lits s.trail.head 0 lt) ∙ e in cc))

pub popped_left : (s : PropagationState) (l : ℕ) → s.trail.head < length s.trail.lits → lit_at s s.trail.head ≡ l → HasLeftQueue (popped s) l
popped_left s l lt e = inl (record { place = s.trail.head; before = omega arith; within = lt; there = e })

-- every other literal that has left the queue had left it before
pub popped_back : (s : PropagationState) (l m : ℕ) → lit_at s s.trail.head ≡ l → HasLeftQueue (popped s) m → m ≢ l → HasLeftQueue s m
popped_back s l m e h n = elim h [
  | inl b ↦ elim (cases_eq b.place s.trail.head) [
    | inl q ↦ absurd (n (sym b.there ∙ ap (λ i. lit_at s i) q ∙ e))
    | inr d ↦ inl (record { place = b.place; before = omega (arith, b.before); within = b.within; there = b.there })
  ]
  | inr r ↦ inr (popped_removed s m r)
]

pub queue_popped : (s : PropagationState) → IsQueueCurrent s → IsQueueCurrent (popped s)
queue_popped s q i x y = q i (omega arith) y

-- every literal that has left the queue is at the current level or lower
all_due : (s : PropagationState) (l : ℕ) → StateIsConsistent s → HasLeftQueue s l → level s l < current_level s + 1
all_due s l a h = omega (arith, level_low s l a (left_true s l a h))

pub long_popped : (w live : List ℕ) (lists : List (List Watch)) (s : PropagationState) (l : ℕ) → LongPropagationInvariant w live lists s (λ m. level s m < current_level s + 1) →
    s.trail.head < length s.trail.lits → lit_at s s.trail.head ≡ l → LongPropagationInvariant w live lists (popped s) (λ m. m ≢ l)
long_popped w live lists s l h lt e = record {
  clauses = h.clauses;
  watches = h.watches;
  agrees = agrees_popped s h.agrees lt;
  queue = queue_popped s h.queue;
  settled = λ o i ho hi f n.
      let x : HasLeftQueue s (negated (lit_of w o i)) = popped_back s l (negated (lit_of w o i)) e f n in
      satisfied_forth s (popped s) (lits_at w o) (level s (negated (lit_of w o i))) (grows_popped s) (h.settled o i ho hi x (all_due s (negated (lit_of w o i)) h.agrees x));
}

pub implied_popped : (implied : List (List ℕ)) (s : PropagationState) (l : ℕ) → StateIsConsistent s → BinariesArePropagated implied s (λ m. level s m < current_level s + 1) →
    lit_at s s.trail.head ≡ l → BinariesArePropagated implied (popped s) (λ m. m ≢ l)
implied_popped implied s l a h e m k f n b =
    let x : HasLeftQueue s m = popped_back s l m e f n in
    h m k x (all_due s m a x) b

-- unassigned literals become true, and propagated clauses stay so
pub long_grows : (w live : List ℕ) (lists : List (List Watch)) (s t : PropagationState) (due : ℕ → Type 0) → LongPropagationInvariant w live lists s due →
    TrailGrows s t → t.trail.head ≡ s.trail.head → StateIsConsistent t → IsQueueCurrent t → LongPropagationInvariant w live lists t due
long_grows w live lists s t due h g e a q = record {
  clauses = subst (λ (n : ℕ). AreLongClauses w live n) (sym g.size) h.clauses;
  watches = subst (λ (n : ℕ). AreWatched w live lists n) (sym g.size) h.watches;
  agrees = a;
  queue = q;
  settled = λ o i ho hi f d.
      let x : HasLeftQueue s (negated (lit_of w o i)) = left_back s t (negated (lit_of w o i)) g e h.agrees.trail f in
      let same : level t (negated (lit_of w o i)) ≡ level s (negated (lit_of w o i)) = level_kept s t (negated (lit_of w o i)) g (left_true s (negated (lit_of w o i)) h.agrees x) in
      satisfied_forth s t (lits_at w o) (level t (negated (lit_of w o i))) g
      (subst (λ (n : ℕ). IsSatisfied s (lits_at w o) n) (sym same) (h.settled o i ho hi x d));
}

pub implied_grows : (implied : List (List ℕ)) (s t : PropagationState) (due : ℕ → Type 0) → StateIsConsistent s → BinariesArePropagated implied s due →
    TrailGrows s t → t.trail.head ≡ s.trail.head → BinariesArePropagated implied t due
implied_grows implied s t due a h g e m k f d b =
    let x : HasLeftQueue s m = left_back s t m g e a.trail f in
    let y : IsTrueLit s.values (get_or (implied_by implied m) k 0) × (level s (get_or (implied_by implied m) k 0) ≤ level s m) = h m k x d b in (
      g.kept (get_or (implied_by implied m) k 0) y.0,
      omega (arith, y.1, level_kept s t (get_or (implied_by implied m) k 0) g y.0, level_kept s t m g (left_true s m a x)),
    )

-- fewer literals are due
pub long_due : (w live : List ℕ) (lists : List (List Watch)) (s : PropagationState) (due due' : ℕ → Type 0) → LongPropagationInvariant w live lists s due →
    ((m : ℕ) → HasLeftQueue s m → due' m → due m) → LongPropagationInvariant w live lists s due'
long_due w live lists s due due' h fewer = record {
  clauses = h.clauses;
  watches = h.watches;
  agrees = h.agrees;
  queue = h.queue;
  settled = λ o i ho hi f d. h.settled o i ho hi f (fewer (negated (lit_of w o i)) f d);
}

-- the literals that l implies are true: implications hold for all literals that have left the queue
pub binary_settled : (implied : List (List ℕ)) (s t : PropagationState) (l : ℕ) → StateIsConsistent s → BinariesArePropagated implied s (λ m. m ≢ l) →
    BinaryWalkInvariant implied l s t (length (implied_by implied l)) → BinariesArePropagated implied t (λ m. level t m < current_level t + 1)
binary_settled implied s t l a h w m k f d b =
    let g : TrailGrows s t = (w.moves [] []).grows in
    elim (cases_eq m l) [
      | inl e ↦
          let x : IsTrueLit t.values (get_or (implied_by implied l) k 0) × (level t (get_or (implied_by implied l) k 0) ≤ level t l) =
          w.done k (subst (λ (z : ℕ). k < length (implied_by implied z)) e b) (subst (λ (z : ℕ). k < length (implied_by implied z)) e b) in
          subst (λ (z : ℕ). IsTrueLit t.values (get_or (implied_by implied z) k 0) × (level t (get_or (implied_by implied z) k 0) ≤ level t z)) (sym e) x
      | inr n ↦ implied_grows implied s t (λ z. z ≢ l) a h g w.head m k f n b
    ]

-- the loop over binary clauses stopped: implications hold below the current level
pub binary_below : (implied : List (List ℕ)) (s t : PropagationState) (l : ℕ) → StateIsConsistent s → BinariesArePropagated implied s (λ m. m ≢ l) →
    BinaryWalkInvariant implied l s t 0 → BinariesArePropagated implied t (λ m. level t m < current_level t)
binary_below implied s t l a h w m k f d b =
    let n : m ≢ l = λ e. (let x : level t m ≡ level t l = ap (λ z. level t z) e in omega (arith, w.top)) in
    implied_grows implied s t (λ z. z ≢ l) a h (w.moves [] []).grows w.head m k f n b

-- propagation over binary clauses keeps the long clauses ready
pub binary_long : (w live : List ℕ) (lists : List (List Watch)) (implied : List (List ℕ)) (s t : PropagationState) (l at : ℕ) →
    LongPropagationInvariant w live lists s (λ m. m ≢ l) → BinaryWalkInvariant implied l s t at → LongPropagationInvariant w live lists t (λ m. m ≢ l)
binary_long w live lists implied s t l at h b = long_grows w live lists s t (λ m. m ≢ l) h (b.moves [] []).grows b.head b.agrees b.queue

-- a conflict over binary clauses is one whatever the long clauses are
pub binary_names : (words live : List ℕ) (implied : List (List ℕ)) (values : List (Option Bool)) (e : Conflict) → IsConflict [] [] implied values e → IsConflict words live implied values e
binary_names words live implied values (Binary ls) h = h
binary_names words live implied values (Long o) h = absurd (omega (arith, h.0.1))

-- the state after a falsified binary clause was found
pub stopped_binary : (w live : List ℕ) (lists : List (List Watch)) (implied : List (List ℕ)) (s t : PropagationState) (l : ℕ) →
    LongPropagationInvariant w live lists s (λ m. m ≢ l) → AreImpliedLists implied (length s.values) → BinariesArePropagated implied s (λ m. m ≢ l) → TrailReasonsHaveLitFirst w live s →
    BinaryWalkInvariant implied l s t 0 → WatchedPropagationInvariant w live lists implied t (current_level t)
stopped_binary w live lists implied s t l h ranges i firsts b = record {
  long = long_due w live lists t (λ m. m ≢ l) (λ m. level t m < current_level t) (binary_long w live lists implied s t l 0 h b)
      (λ m f d e. (let x : level t m ≡ level t l = ap (λ z. level t z) e in omega (arith, b.top)));
  ranges = subst (λ (n : ℕ). AreImpliedLists implied n) (sym (b.moves [] []).grows.size) ranges;
  binary = binary_below implied s t l h.agrees i b;
  firsts = firsts_moved live implied w s w t h.agrees (b.moves w live) firsts;
}

-- the state after the long clauses were visited without a conflict
pub ready_again : (w v live : List ℕ) (lists : List (List Watch)) (implied : List (List ℕ)) (s t : PropagationState) →
    StateIsConsistent s → AreImpliedLists implied (length s.values) → BinariesArePropagated implied s (λ m. level s m < current_level s + 1) → TrailReasonsHaveLitFirst w live s →
    WatchWalkEffect live w s v t lists None → IsReadyToPropagate v live lists implied t
ready_again w v live lists implied s t a ranges i firsts x =
    let g : TrailGrows s t = (x.moves []).grows in
    record {
      long = long_due v live lists t (IsDueAfterWalk None t) (λ m. level t m < current_level t + 1) x.ready (λ m f d. tt);
      ranges = subst (λ (n : ℕ). AreImpliedLists implied n) (sym g.size) ranges;
      binary = λ m k f d b. implied_grows implied s t (λ m. Unit {0}) a (λ m2 k2 f2 d2 b2. i m2 k2 f2 (all_due s m2 a f2) b2) g x.head m k f tt b;
      firsts = firsts_moved live implied w s v t a (x.moves implied) firsts;
    }

-- after a falsified long clause, propagation can continue once the current level is undone
pub stopped_long : (w v live : List ℕ) (lists : List (List Watch)) (implied : List (List ℕ)) (s t : PropagationState) (o : ℕ) →
    StateIsConsistent s → AreImpliedLists implied (length s.values) → BinariesArePropagated implied s (λ m. level s m < current_level s + 1) → TrailReasonsHaveLitFirst w live s →
    WatchWalkEffect live w s v t lists (Some o) → WatchedPropagationInvariant v live lists implied t (current_level t)
stopped_long w v live lists implied s t o a ranges i firsts x =
    let g : TrailGrows s t = (x.moves []).grows in
    record {
      long = x.ready;
      ranges = subst (λ (n : ℕ). AreImpliedLists implied n) (sym g.size) ranges;
      binary = λ m k f d b. implied_grows implied s t (λ m. Unit {0}) a (λ m2 k2 f2 d2 b2. i m2 k2 f2 (all_due s m2 a f2) b2) g x.head m k f tt b;
      firsts = firsts_moved live implied w s v t a (x.moves implied) firsts;
    }

-- if the queue is empty, every true literal has left it
all_left : (s : PropagationState) (l : ℕ) → StateIsConsistent s → s.trail.head ≡ length s.trail.lits → IsTrueLit s.values l → HasLeftQueue s l
all_left s l a e t = elim (a.known l t) [
  | inl b ↦ inl (subst (λ (n : ℕ). IsOnTrailBefore s n l) (sym e) b)
  | inr r ↦ inr r
]

-- if the queue is empty, a clause with a false literal among its first two is satisfied
settled_by : (w live : List ℕ) (lists : List (List Watch)) (s : PropagationState) (o i : ℕ) → LongPropagationInvariant w live lists s (λ m. level s m < current_level s + 1) → s.trail.head ≡ length s.trail.lits →
    Contains live o → i < 2 → IsFalseLit s.values (lit_of w o i) → IsSatisfied s (lits_at w o) (level s (negated (lit_of w o i)))
settled_by w live lists s o i h e ho hi f =
    let x : HasLeftQueue s (negated (lit_of w o i)) = all_left s (negated (lit_of w o i)) h.agrees e (true_from_false s.values (lit_of w o i) f) in
    h.settled o i ho hi x (all_due s (negated (lit_of w o i)) h.agrees x)

-- if the queue is empty, no clause is falsified or unit
pub complete : (w live : List ℕ) (lists : List (List Watch)) (implied : List (List ℕ)) (s : PropagationState) → IsReadyToPropagate w live lists implied s → s.trail.head ≡ length s.trail.lits →
    IsUnitFixpoint w live implied s.values
complete w live lists implied s h e = record {
  not_falsified = λ o ho f.
      let long : 3 ≤ size_of w o = h.long.clauses.long o ho in
      let x : IsSatisfied s (lits_at w o) (level s (negated (lit_of w o 0))) = settled_by w live lists s o 0 h.long e ho (omega arith) (f 0 (omega arith)) in
      not_both s.values (lit_of w o x.place) x.holds (f x.place x.within);
  not_unit = λ o k ho b u.
      let long : 3 ≤ size_of w o = h.long.clauses.long o ho in
      let other : (i : ℕ) → i < 2 → i ≢ k → ⊥ = λ i hi n.
      let x : IsSatisfied s (lits_at w o) (level s (negated (lit_of w o i))) = settled_by w live lists s o i h.long e ho hi (u.1 i (omega arith) n) in
      elim (cases_eq x.place k) [
        | inl q ↦ open_other s.values (lit_of w o k) (lit_of w o x.place) u.0 x.holds (ap (λ j. variable (lit_of w o j)) q)
        | inr d ↦ not_both s.values (lit_of w o x.place) x.holds (u.1 x.place x.within d)
      ] in
      elim (cases_eq k 0) [
        | inl q ↦ other 1 (omega arith) (λ z. omega arith)
        | inr q ↦ other 0 (omega arith) (λ z. q (sym z))
      ];
  binary = λ l k b t.
      let x : HasLeftQueue s l = all_left s l h.long.agrees e t in
      (h.binary l k x (all_due s l h.long.agrees x) b).0;
}

-- `IsNext s l` holds if the literal `l` is the next one of the queue, as `pop_queue` returns it.
abbrev pub IsNext : PropagationState → ℕ → Type 0
IsNext s l = slice_get s.trail.lits s.trail.head ≡ Some l

-- what propagation over binary clauses requires
pub next_agrees : (s : PropagationState) (l : ℕ) → StateIsConsistent s → IsNext s l → StateIsConsistent (popped s)
next_agrees s l a e = agrees_popped s a (next_there s l e).0

pub next_left : (s : PropagationState) (l : ℕ) → IsNext s l → HasLeftQueue (popped s) l
next_left s l e = popped_left s l (next_there s l e).0 (next_there s l e).1

-- the next literal of the queue is at the current level
pub next_top : (s : PropagationState) (l : ℕ) → IsQueueCurrent s → IsNext s l → level (popped s) l ≡ current_level (popped s)
next_top s l q e = ap (λ m. level s m) (sym (next_there s l e).1) ∙ q s.trail.head (omega arith) (next_there s l e).0

-- what propagation over long clauses requires
pub next_long : (w live : List ℕ) (lists : List (List Watch)) (implied : List (List ℕ)) (s t : PropagationState) (l : ℕ) →
    IsReadyToPropagate w live lists implied s → IsNext s l → BinaryWalkInvariant implied l (popped s) t (length (implied_by implied l)) →
    LongPropagationInvariant w live lists t (λ m. m ≢ l)
next_long w live lists implied s t l h e b =
    binary_long w live lists implied (popped s) t l (length (implied_by implied l)) (long_popped w live lists s l h.long (next_there s l e).0 (next_there s l e).1) b

-- after a falsified binary clause, propagation can continue once the current level is undone
pub next_stops_binary : (w live : List ℕ) (lists : List (List Watch)) (implied : List (List ℕ)) (s t : PropagationState) (l : ℕ) →
    IsReadyToPropagate w live lists implied s → IsNext s l → BinaryWalkInvariant implied l (popped s) t 0 → WatchedPropagationInvariant w live lists implied t (current_level t)
next_stops_binary w live lists implied s t l h e b =
    stopped_binary w live lists implied (popped s) t l (long_popped w live lists s l h.long (next_there s l e).0 (next_there s l e).1) h.ranges
    (implied_popped implied s l h.long.agrees h.binary (next_there s l e).1) h.firsts b

-- after propagation over binary clauses
middle_binary : (implied : List (List ℕ)) (s t : PropagationState) (l : ℕ) → StateIsConsistent s → BinariesArePropagated implied s (λ m. level s m < current_level s + 1) → IsNext s l →
    BinaryWalkInvariant implied l (popped s) t (length (implied_by implied l)) → BinariesArePropagated implied t (λ m. level t m < current_level t + 1)
middle_binary implied s t l a i e b =
    binary_settled implied (popped s) t l (next_agrees s l a e) (implied_popped implied s l a i (next_there s l e).1) b

-- after a literal was propagated without a conflict, propagation can continue
pub next_goes_on : (w v live : List ℕ) (lists lists' : List (List Watch)) (implied : List (List ℕ)) (s t u : PropagationState) (l : ℕ) →
    IsReadyToPropagate w live lists implied s → IsNext s l → BinaryWalkInvariant implied l (popped s) t (length (implied_by implied l)) → WatchWalkEffect live w t v u lists' None →
    IsReadyToPropagate v live lists' implied u
next_goes_on w v live lists lists' implied s t u l h e b x =
    ready_again w v live lists' implied t u b.agrees
    (subst (λ (n : ℕ). AreImpliedLists implied n) (sym (b.moves [] []).grows.size) h.ranges)
    (middle_binary implied s t l h.long.agrees h.binary e b)
    (firsts_moved live implied w (popped s) w t (next_agrees s l h.long.agrees e) (b.moves w live) h.firsts) x

-- the next literal was propagated up to a falsified long clause; propagation can continue one level down
pub next_stops_long : (w v live : List ℕ) (lists lists' : List (List Watch)) (implied : List (List ℕ)) (s t u : PropagationState) (l o : ℕ) →
    IsReadyToPropagate w live lists implied s → IsNext s l → BinaryWalkInvariant implied l (popped s) t (length (implied_by implied l)) → WatchWalkEffect live w t v u lists' (Some o) →
    WatchedPropagationInvariant v live lists' implied u (current_level u)
next_stops_long w v live lists lists' implied s t u l o h e b x =
    stopped_long w v live lists' implied t u o b.agrees
    (subst (λ (n : ℕ). AreImpliedLists implied n) (sym (b.moves [] []).grows.size) h.ranges)
    (middle_binary implied s t l h.long.agrees h.binary e b)
    (firsts_moved live implied w (popped s) w t (next_agrees s l h.long.agrees e) (b.moves w live) h.firsts) x

-- one iteration is a stretch of propagation
pub next_moves_binary : (live : List ℕ) (implied : List (List ℕ)) (w0 : List ℕ) (s0 : PropagationState) (w : List ℕ) (s t : PropagationState) (l at : ℕ) →
    PropagationEffect live implied w0 s0 w s → BinaryWalkInvariant implied l (popped s) t at → PropagationEffect live implied w0 s0 w t
next_moves_binary live implied w0 s0 w s t l at m b =
    moves_trans live implied w0 s0 w (popped s) w t (moves_trans live implied w0 s0 w s w (popped s) m (moves_popped live implied w s)) (b.moves w live)

-- the propagation so far and that of the next literal are one propagation
pub next_moves : (live : List ℕ) (implied : List (List ℕ)) (w0 : List ℕ) (s0 : PropagationState) (w v : List ℕ) (s t u : PropagationState) (lists : List (List Watch)) (found : Option ℕ) (l at : ℕ) →
    PropagationEffect live implied w0 s0 w s → BinaryWalkInvariant implied l (popped s) t at → WatchWalkEffect live w t v u lists found → PropagationEffect live implied w0 s0 v u
next_moves live implied w0 s0 w v s t u lists found l at m b x =
    moves_trans live implied w0 s0 w t v u (next_moves_binary live implied w0 s0 w s t l at m b) (x.moves implied)

-- one iteration advances the head of the queue
pub next_smaller : (live w : List ℕ) (implied : List (List ℕ)) (s t u : PropagationState) (v : List ℕ) (lists : List (List Watch)) (l at : ℕ) →
    StateIsConsistent s → IsNext s l → BinaryWalkInvariant implied l (popped s) t at → WatchWalkEffect live w t v u lists None →
    u.trail.room - u.trail.head < s.trail.room - s.trail.head
next_smaller live w implied s t u v lists l at a e b x =
    let lt : s.trail.head < length s.trail.lits = (next_there s l e).0 in
    let fits : length s.trail.lits ≤ s.trail.room = a.trail.fits in
    let h1 : t.trail.head ≡ s.trail.head + 1 = b.head in
    let h2 : u.trail.head ≡ t.trail.head = x.head in
    let r1 : t.trail.room ≡ s.trail.room = (b.moves [] []).grows.room in
    let r2 : u.trail.room ≡ t.trail.room = (x.moves []).grows.room in
    omega arith
