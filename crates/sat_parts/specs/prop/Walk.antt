-- The walk through the watches of one literal.
use Rattle.std.specs.Prelude.{ℕ, ◌≡◌, ◌≢◌, ◌*◌, ◌<◌, ◌≤◌, ◌⊎◌, Bool, Option, List, [], length, slice_index_or as get_or, MatchOption, MatchResult, Result, Some, None}
use Rattle.std.specs.List.{Contains}
use Rattle.sat_base.specs.values.Literals.{negated}
use Rattle.sat_store.specs.clause.Buffer.{lits_at}
use Rattle.sat_parts.specs.declared.prop.watch.Watch.{Watch}
use Rattle.sat_parts.specs.declared.prop.graph.Conflict.{Conflict}
use Rattle.sat_parts.specs.declared.prop.graph.Conflict.TheVariants.{Long}
use Rattle.sat_parts.specs.declared.prop.long.Visit.{Visit}
use Rattle.sat_parts.specs.declared.prop.long.Visit.TheVariants.{Stale, Moved, Keep, Propagates, Falsified}
use Rattle.sat_parts.specs.clause.Stored.{AreLongClauses, lit_of, size_of}
use Rattle.sat_parts.specs.prop.Values.{Values, IsTrueLit, IsFalseLit, IsUnassignedLit}
use Rattle.sat_parts.specs.prop.Binaries.{implied_by}
use Rattle.sat_parts.specs.prop.WatchLists.{WatchState, no_watch, watch_on, watches_of, lists_with_watch}
use Rattle.sat_parts.specs.prop.State.{PropagationState, level, current_level, HasLeftQueue, StateIsConsistent, IsQueueCurrent, IsSatisfied}
use Rattle.sat_parts.specs.prop.Reasons.{PropagationEffect}
use Rattle.sat_parts.specs.prop.Ready.{IsSoundWatch, HasWatch, LongPropagationInvariant, AreAllFalse, IsConflict}

-- `HasWatchOutside xs kept at o` holds if a watch of `xs` before position `kept`, or from position `at` on, is on the
-- clause at `o`.
abbrev pub HasWatchOutside : List Watch → ℕ → ℕ → ℕ → Type 0
HasWatchOutside xs kept at o = (p : ℕ) × ((p < length xs) × ((p < kept) ⊎ (at ≤ p)) × ((get_or xs p no_watch).cref ≡ o))

-- `HasWatchFrom xs at o` holds if a watch of `xs` from position `at` on is on the clause at `o`.
abbrev pub HasWatchFrom : List Watch → ℕ → ℕ → Type 0
HasWatchFrom xs at o = (p : ℕ) × ((p < length xs) × (at ≤ p) × ((get_or xs p no_watch).cref ≡ o))

-- `AreWatchedDuringWalk words live lists list lit kept at count` holds if `AreWatched` holds during the walk through
-- the watches of `lit`: these were taken out as `list`, of which the first `kept` stay and those from `at` on are not
-- yet visited; both parts count as watches of `lit`.
pub record AreWatchedDuringWalk (words live : List ℕ) (lists : List (List Watch)) (list : List Watch) (lit kept at count : ℕ) : Type 0 where
  pub room : length lists ≡ 2 * count
  pub good : (l p : ℕ) → p < length (watches_of lists l) → IsSoundWatch words live (get_or (watches_of lists l) p no_watch)
  pub mine : (p : ℕ) → p < length list → IsSoundWatch words live (get_or list p no_watch)
  pub gap : kept ≤ at
  pub within : at ≤ length list
  pub both : (o i : ℕ) → Contains live o → i < 2 →
      ((negated (lit_of words o i) ≡ lit) × HasWatchOutside list kept at o)
      ⊎ ((negated (lit_of words o i) ≢ lit) × HasWatch (watches_of lists (negated (lit_of words o i))) o)

-- `WalkInvariant words live s lists list lit kept at` holds during the walk through the watches of `lit`, taken out as
-- `list`, if state and watches are consistent, and every live clause that is not propagated yet for a literal that has
-- left the queue has a watch in `list` from position `at` on.
pub record WalkInvariant (words live : List ℕ) (s : PropagationState) (lists : List (List Watch)) (list : List Watch) (lit kept at : ℕ) : Type 0 where
  pub clauses : AreLongClauses words live (length s.values)
  pub agrees : StateIsConsistent s
  pub queue : IsQueueCurrent s
  pub left : HasLeftQueue s lit
  pub top : level s lit ≡ current_level s
  pub walked : AreWatchedDuringWalk words live lists list lit kept at (length s.values)
  pub settled : (o i : ℕ) → Contains live o → i < 2 → HasLeftQueue s (negated (lit_of words o i)) →
      IsSatisfied s (lits_at words o) (level s (negated (lit_of words o i)))
      ⊎ ((negated (lit_of words o i) ≡ lit) × HasWatchFrom list at o)

-- `PutsOtherWatchFirst w v o fl` holds if `fl` was one of the first two literals, which are watched, of the clause at
-- `o` in `w`, and the other of these is first in `v`.
abbrev pub PutsOtherWatchFirst : List ℕ → List ℕ → ℕ → ℕ → Type 0
PutsOtherWatchFirst w v o fl = ((lit_of w o 1 ≡ fl) × (lit_of v o 0 ≡ lit_of w o 0)) ⊎ ((lit_of w o 0 ≡ fl) × (lit_of v o 0 ≡ lit_of w o 1))

-- `PutsFalseLitSecond w v o fl` holds if `fl` was one of the first two literals of the clause at `o` in `w`; in `v`
-- the other of these is first, and `fl` is second.
pub record PutsFalseLitSecond (w v : List ℕ) (o fl : ℕ) : Type 0 where
  pub other : PutsOtherWatchFirst w v o fl
  pub second : lit_of v o 1 ≡ fl

-- `Visited w v a lists lists' o fl visit` holds if the visit to the clause at `o`, whose watched literal `fl` is false,
-- had the result `visit` (stale watch, other literal watched, satisfied, unit or falsified) and changed the buffer from
-- `w` to `v` and the other watch lists from `lists` to `lists'`.
abbrev pub Visited : (w v : List ℕ) (a : List (Option Bool)) (lists lists' : List (List Watch)) (o fl : ℕ) → Visit → Type 0
Visited w v a lists lists' o fl Stale = (lit_of w o 0 ≢ fl) × (lit_of w o 1 ≢ fl) × (v ≡ w) × (lists' ≡ lists)
Visited w v a lists lists' o fl Moved =
    PutsOtherWatchFirst w v o fl
    × (IsFalseLit a (lit_of v o 1) → ⊥)
    × (lists' ≡ lists_with_watch (negated (lit_of v o 1)) (watch_on o (lit_of v o 0)) lists)
Visited w v a lists lists' o fl (Keep n) = PutsFalseLitSecond w v o fl × (n ≡ lit_of v o 0) × (lists' ≡ lists) × IsTrueLit a (lit_of v o 0)
Visited w v a lists lists' o fl (Propagates n) =
    PutsFalseLitSecond w v o fl
    × (n ≡ lit_of v o 0)
    × (lists' ≡ lists)
    × ((k : ℕ) → 1 ≤ k → k < size_of v o → IsFalseLit a (lit_of v o k))
    × IsUnassignedLit a (lit_of v o 0)
Visited w v a lists lists' o fl (Falsified n) =
    PutsFalseLitSecond w v o fl
    × (n ≡ lit_of v o 0)
    × (lists' ≡ lists)
    × ((k : ℕ) → k < size_of v o → IsFalseLit a (lit_of v o k))

-- `VisitedIn w v a lists lists' o fl r` holds if `Visited` holds for the result `r`, with the current values of the
-- assignment `a` and the lists of `lists` and `lists'`.
abbrev pub VisitedIn : (w v : List ℕ) (a : Values) (lists lists' : WatchState) (o fl : ℕ) → Visit → Type 0
VisitedIn w v a lists lists' o fl r = Visited w v a.current lists.lists lists'.lists o fl r

-- `IsDueAfterWalk found s l` holds if the literal `l` is due after a walk: any literal or, if a clause was falsified, a
-- literal below the current level.
abbrev pub IsDueAfterWalk : Option ℕ → PropagationState → ℕ → Type 0
IsDueAfterWalk found s l = MatchOption found (Unit {0}) (λ _. level s l < current_level s)

-- `WatchWalkEffect live words s words' s' lists found` holds if a walk through one literal's watches has led from
-- `words` and `s` to `words'` and `s'`, with the watch lists `lists` afterwards. Literals that have left the queue are
-- propagated over long clauses; if a falsified clause was `found`, only those below the current level.
pub record WatchWalkEffect (live : List ℕ) (words : List ℕ) (s : PropagationState) (words' : List ℕ) (s' : PropagationState) (lists : List (List Watch)) (found : Option ℕ) : Type 0 where
  pub moves : (implied : List (List ℕ)) → PropagationEffect live implied words s words' s'
  pub head : s'.trail.head ≡ s.trail.head
  pub ready : LongPropagationInvariant words' live lists s' (IsDueAfterWalk found s')
  pub conflict : MatchOption found (Unit {0}) (λ o. Contains live o × AreAllFalse s'.values (lits_at words' o))

-- `LongWalkEffect live words s words' s' lists r` holds if `WatchWalkEffect` holds for a walk over long clauses with
-- the result `r`, whose conflict is the falsified clause.
abbrev pub LongWalkEffect : (live : List ℕ) (words : List ℕ) (s : PropagationState) (words' : List ℕ) (s' : PropagationState) (lists : List (List Watch)) → Result (Unit {0}) Conflict → Type 0
LongWalkEffect live words s words' s' lists r =
    MatchResult r (λ _. WatchWalkEffect live words s words' s' lists None) (λ e. (o : ℕ) × ((e ≡ Long o) × WatchWalkEffect live words s words' s' lists (Some o)))

-- `BinaryWalkInvariant implied lit s s' at` holds if the walk through the literals that `lit` implies has led from `s`
-- to `s'`, and those before position `at` are true.
pub record BinaryWalkInvariant (implied : List (List ℕ)) (lit : ℕ) (s s' : PropagationState) (at : ℕ) : Type 0 where
  pub agrees : StateIsConsistent s'
  pub queue : IsQueueCurrent s'
  pub left : HasLeftQueue s' lit
  pub top : level s' lit ≡ current_level s'
  pub moves : (words live : List ℕ) → PropagationEffect live implied words s words s'
  pub head : s'.trail.head ≡ s.trail.head
  pub done : (k : ℕ) → k < at → k < length (implied_by implied lit) →
      IsTrueLit s'.values (get_or (implied_by implied lit) k 0) × (level s' (get_or (implied_by implied lit) k 0) ≤ level s' lit)

-- `BinaryWalkEffect implied lit s s' r` holds if propagation of `lit` over binary clauses has led from `s` to `s'`. If
-- `r` is `Ok`, all literals that `lit` implies are true; otherwise `r` names a falsified binary clause.
abbrev pub BinaryWalkEffect : (implied : List (List ℕ)) (lit : ℕ) (s s' : PropagationState) → Result (Unit {0}) Conflict → Type 0
BinaryWalkEffect implied lit s s' r =
    MatchResult r (λ _. BinaryWalkInvariant implied lit s s' (length (implied_by implied lit))) (λ e. BinaryWalkInvariant implied lit s s' 0 × IsConflict [] [] implied s'.values e)
