-- What unit propagation requires and ensures for clauses, watch lists and the state of a search.
use Rattle.std.specs.Prelude.{ℕ, ◌≡◌, ◌≢◌, ◌+◌, ◌*◌, ◌<◌, ◌≤◌, Bool, Option, List, length, slice_index_or as get_or, Result, MatchResult}
use Rattle.std.specs.List.{Contains}
use Rattle.sat_base.specs.values.Literals.{negated}
use Rattle.sat_store.specs.clause.Buffer.{lits_at}
use Rattle.sat_parts.specs.declared.prop.watch.Watch.{Watch}
use Rattle.sat_parts.specs.declared.prop.graph.ImplNode.{ImplNode}
use Rattle.sat_parts.specs.declared.prop.graph.Conflict.{Conflict}
use Rattle.sat_parts.specs.declared.prop.graph.Conflict.TheVariants.{Binary, Long}
use Rattle.sat_parts.specs.clause.Stored.{AreLongClauses, lit_of, size_of}
use Rattle.sat_parts.specs.prop.Values.{Values, IsTrueLit, IsFalseLit, IsUnassignedLit}
use Rattle.sat_parts.specs.prop.Trails.{TrailState}
use Rattle.sat_parts.specs.prop.Binaries.{implied_by}
use Rattle.sat_parts.specs.prop.WatchLists.{no_watch, watches_of}
use Rattle.sat_parts.specs.prop.State.{PropagationState, level, current_level, HasLeftQueue, StateIsConsistent, IsQueueCurrent, IsSatisfied}
use Rattle.sat_parts.specs.prop.Reasons.{TrailReasonsHaveLitFirst, PropagationEffect}

-- the state with these values, nodes and trail
abbrev pub state_of : Values → List ImplNode → TrailState → PropagationState
state_of a g t = record { values = a.current; nodes = g; trail = t }

-- `HasLit words o l` holds if `l` is a literal of the clause at `o`.
abbrev pub HasLit : List ℕ → ℕ → ℕ → Type 0
HasLit words o l = (k : ℕ) × ((k < size_of words o) × (lit_of words o k ≡ l))

-- `IsSoundWatch words live x` holds if the watch `x` is on a live clause, and its blocking literal is a literal of that
-- clause.
abbrev pub IsSoundWatch : List ℕ → List ℕ → Watch → Type 0
IsSoundWatch words live x = Contains live x.cref × HasLit words x.cref x.blocking

-- `HasWatch xs o` holds if a watch of `xs` is on the clause at `o`.
abbrev pub HasWatch : List Watch → ℕ → Type 0
HasWatch xs o = (p : ℕ) × ((p < length xs) × ((get_or xs p no_watch).cref ≡ o))

-- `AreWatched words live lists count` holds if there are watch lists for all literals of `count` variables, every live
-- clause has a watch in the lists of the negations of its first two literals, and every watch is on a live clause, with
-- a blocking literal from it.
pub record AreWatched (words live : List ℕ) (lists : List (List Watch)) (count : ℕ) : Type 0 where
  pub room : length lists ≡ 2 * count
  pub good : (l p : ℕ) → p < length (watches_of lists l) → IsSoundWatch words live (get_or (watches_of lists l) p no_watch)
  pub both : (o i : ℕ) → Contains live o → i < 2 → HasWatch (watches_of lists (negated (lit_of words o i))) o

-- `LongClausesArePropagated words live s due` holds if no live long clause awaits propagation: if one of its first two
-- literals is false, and its negation has left the queue and is `due`, then the clause has a true literal that was
-- assigned at the level of the false one or lower.
abbrev pub LongClausesArePropagated : (words live : List ℕ) (s : PropagationState) (due : ℕ → Type 0) → Type 0
LongClausesArePropagated words live s due =
    (o i : ℕ) → Contains live o → i < 2 → HasLeftQueue s (negated (lit_of words o i)) → due (negated (lit_of words o i)) →
    IsSatisfied s (lits_at words o) (level s (negated (lit_of words o i)))

-- `BinariesArePropagated implied s due` holds if, for every literal that has left the queue and is `due`, all literals
-- that it implies by binary clauses are true and were assigned at its level or lower.
abbrev pub BinariesArePropagated : (implied : List (List ℕ)) (s : PropagationState) (due : ℕ → Type 0) → Type 0
BinariesArePropagated implied s due =
    (l k : ℕ) → HasLeftQueue s l → due l → k < length (implied_by implied l) →
    IsTrueLit s.values (get_or (implied_by implied l) k 0) × (level s (get_or (implied_by implied l) k 0) ≤ level s l)

-- `LongPropagationInvariant words live lists s due` holds if the long clauses, their watch lists and the state are
-- consistent, and the due literals that have left the queue are propagated over long clauses.
pub record LongPropagationInvariant (words live : List ℕ) (lists : List (List Watch)) (s : PropagationState) (due : ℕ → Type 0) : Type 0 where
  pub clauses : AreLongClauses words live (length s.values)
  pub watches : AreWatched words live lists (length s.values)
  pub agrees : StateIsConsistent s
  pub queue : IsQueueCurrent s
  pub settled : LongClausesArePropagated words live s due

-- `AreImpliedLists implied count` holds if there is a list of implied literals for each literal of `count` variables,
-- and all implied literals are of these variables.
pub record AreImpliedLists (implied : List (List ℕ)) (count : ℕ) : Type 0 where
  pub room : length implied ≡ 2 * count
  pub below : (l k : ℕ) → k < length (implied_by implied l) → get_or (implied_by implied l) k 0 < 2 * count

-- `WatchedPropagationInvariant words live lists implied s top` holds if clauses, watch lists and state are consistent,
-- and the literals at levels below `top` that have left the queue are propagated. With `top` one above the current
-- level, propagation can continue; with `top` the current level, it can once that level is undone.
pub record WatchedPropagationInvariant (words live : List ℕ) (lists : List (List Watch)) (implied : List (List ℕ)) (s : PropagationState) (top : ℕ) : Type 0 where
  pub long : LongPropagationInvariant words live lists s (λ l. level s l < top)
  pub ranges : AreImpliedLists implied (length s.values)
  pub binary : BinariesArePropagated implied s (λ l. level s l < top)
  pub firsts : TrailReasonsHaveLitFirst words live s

-- `IsReadyToPropagate words live lists implied s` holds if clauses, watch lists and state are consistent, and all
-- literals that have left the queue are propagated: `WatchedPropagationInvariant` for the literals of all levels.
abbrev pub IsReadyToPropagate : (words live : List ℕ) (lists : List (List Watch)) (implied : List (List ℕ)) (s : PropagationState) → Type 0
IsReadyToPropagate words live lists implied s = WatchedPropagationInvariant words live lists implied s (current_level s + 1)

-- `AreAllFalse values ls` holds if all literals of `ls` are false.
abbrev pub AreAllFalse : List (Option Bool) → List ℕ → Type 0
AreAllFalse values ls = (k : ℕ) → k < length ls → IsFalseLit values (get_or ls k 0)

-- `IsUnitAt values ls k` holds if the literal at position `k` is unassigned, and the others of `ls` are false.
abbrev pub IsUnitAt : List (Option Bool) → List ℕ → ℕ → Type 0
IsUnitAt values ls k = IsUnassignedLit values (get_or ls k 0) × ((j : ℕ) → j < length ls → j ≢ k → IsFalseLit values (get_or ls j 0))

-- `IsUnitFixpoint words live implied values` holds if no clause is falsified or unit.
pub record IsUnitFixpoint (words live : List ℕ) (implied : List (List ℕ)) (values : List (Option Bool)) : Type 0 where
  pub not_falsified : (o : ℕ) → Contains live o → AreAllFalse values (lits_at words o) → ⊥
  pub not_unit : (o k : ℕ) → Contains live o → k < size_of words o → IsUnitAt values (lits_at words o) k → ⊥
  pub binary : (l k : ℕ) → k < length (implied_by implied l) → IsTrueLit values l → IsTrueLit values (get_or (implied_by implied l) k 0)

-- `IsConflict words live implied values conflict` holds if `conflict` names a clause, and all literals of this clause
-- are false.
abbrev pub IsConflict : (words live : List ℕ) (implied : List (List ℕ)) (values : List (Option Bool)) → Conflict → Type 0
IsConflict words live implied values (Binary ls) =
    Contains (implied_by implied (negated (get_or ls 1 0))) (get_or ls 0 0)
    × IsFalseLit values (get_or ls 0 0)
    × IsFalseLit values (get_or ls 1 0)
IsConflict words live implied values (Long o) = Contains live o × AreAllFalse values (lits_at words o)

-- `WatchedPropagationResult live implied words s words' s' lists r` holds if propagation with the result `r` has led
-- from `words` and `s` to `words'` and `s'`. The literals that it assigned have reasons. Without a conflict, its
-- precondition holds again, with an empty queue and no unit or falsified clause. After a conflict, a clause is
-- falsified, and the precondition holds once the current level is undone.
pub record WatchedPropagationResult (live : List ℕ) (implied : List (List ℕ)) (words : List ℕ) (s : PropagationState) (words' : List ℕ) (s' : PropagationState) (lists : List (List Watch)) (r : Result (Unit {0}) Conflict) : Type 0 where
  pub moves : PropagationEffect live implied words s words' s'
  pub outcome : MatchResult r
      (λ _. IsReadyToPropagate words' live lists implied s' × (s'.trail.head ≡ length s'.trail.lits) × IsUnitFixpoint words' live implied s'.values)
      (λ e. WatchedPropagationInvariant words' live lists implied s' (current_level s') × IsConflict words' live implied s'.values e)
