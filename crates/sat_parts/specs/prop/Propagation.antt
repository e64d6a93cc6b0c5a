-- The precondition and the result of propagation, for all parts together.
use Rattle.std.specs.Prelude.{ℕ, ◌≡◌, ◌+◌, ◌*◌, ◌<◌, ◌≤◌, ◌⊎◌, true, List, length, slice_index_or as get_or, Result, MatchResult}
use Rattle.std.specs.List.{Contains}
use Rattle.sat_base.specs.values.Literals.{negated}
use Rattle.sat_store.specs.clause.Buffer.{HoldsClauses, lits_at}
use Rattle.sat_parts.specs.declared.prop.graph.Reason.{Reason}
use Rattle.sat_parts.specs.declared.prop.graph.Reason.TheVariants.{Unit as NoCause, Binary, Long}
use Rattle.sat_parts.specs.declared.prop.graph.Conflict.{Conflict}
use Rattle.sat_parts.specs.clause.Db.{live_refs}
use Rattle.sat_parts.specs.clause.Stored.{AreLongClauses, lit_of}
use Rattle.sat_parts.specs.prop.WatchLists.{WatchState}
use Rattle.sat_parts.specs.prop.Binaries.{implied_by}
use Rattle.sat_parts.specs.prop.Values.{IsTrueLit}
use Rattle.sat_parts.specs.prop.State.{PropagationState, level, current_level, HasLeftQueue, StateIsConsistent, IsQueueCurrent, IsSatisfied}
use Rattle.sat_parts.specs.prop.Reasons.{TrailReasonsHaveLitFirst, PropagationEffect}
use Rattle.sat_parts.specs.prop.Ready.{AreWatched, LongClausesArePropagated, BinariesArePropagated, AreImpliedLists, IsUnitFixpoint, IsConflict}

-- `PropagationInvariant words refs w implied s top` holds if the parts are consistent, and the literals at levels below
-- `top` that have left the queue are propagated. No two clauses share words, and the live clauses contain only existing
-- variables. Enabled watch lists watch the first two literals of every live clause; disabled watch lists may have any
-- content. Values, nodes and trail agree, and literals in the queue are at the current level. A long clause that is a
-- reason has its literal first. If one of the first two literals of a live clause is false by a literal that has left
-- the queue, at a level below `top`, the clause has a true literal at the same level or lower. Binary clauses are
-- propagated in the same way.
pub record PropagationInvariant (words refs : List ℕ) (w : WatchState) (implied : List (List ℕ)) (s : PropagationState) (top : ℕ) : Type 0 where
  pub holds_clauses : HoldsClauses words refs
  pub clauses : AreLongClauses words (live_refs words refs) (length s.values)
  pub room : length w.lists ≡ 2 * length s.values
  pub watches : w.enabled ≡ true → AreWatched words (live_refs words refs) w.lists (length s.values)
  pub agrees : StateIsConsistent s
  pub queue : IsQueueCurrent s
  pub firsts : TrailReasonsHaveLitFirst words (live_refs words refs) s
  pub settled : LongClausesArePropagated words (live_refs words refs) s (λ l. level s l < top)
  pub ranges : AreImpliedLists implied (length s.values)
  pub binary : BinariesArePropagated implied s (λ l. level s l < top)

-- `IsLongReason reason o` holds if `reason` is the long clause at offset `o`.
abbrev pub IsLongReason : Reason → ℕ → Type 0
IsLongReason NoCause o = ⊥
IsLongReason (Binary ls) o = ⊥
IsLongReason (Long p) o = p ≡ o

-- `IsBinaryReason reason lit l m` holds if `reason`, which makes `lit` true, is the binary clause by which `l` implies
-- `m`.
abbrev pub IsBinaryReason : Reason → (lit l m : ℕ) → Type 0
IsBinaryReason NoCause lit l m = ⊥
IsBinaryReason (Binary ls) lit l m = (m ≡ lit) × (negated (get_or ls 0 0) ≡ l)
IsBinaryReason (Long o) lit l m = ⊥

-- `EnqueuePrecondition lit reason words refs w implied s top` holds if the invariant of propagation holds before the
-- unassigned literal `lit` becomes true by `reason`, except that the clause of the reason may be new and not propagated
-- yet, if its false watched literals are at the current level.
pub record EnqueuePrecondition (lit : ℕ) (reason : Reason) (words refs : List ℕ) (w : WatchState) (implied : List (List ℕ)) (s : PropagationState) (top : ℕ) : Type 0 where
  pub holds_clauses : HoldsClauses words refs
  pub clauses : AreLongClauses words (live_refs words refs) (length s.values)
  pub room : length w.lists ≡ 2 * length s.values
  pub watches : w.enabled ≡ true → AreWatched words (live_refs words refs) w.lists (length s.values)
  pub agrees : StateIsConsistent s
  pub queue : IsQueueCurrent s
  pub firsts : TrailReasonsHaveLitFirst words (live_refs words refs) s
  pub settled : (o i : ℕ) → Contains (live_refs words refs) o → i < 2 → HasLeftQueue s (negated (lit_of words o i)) → level s (negated (lit_of words o i)) < top →
      IsSatisfied s (lits_at words o) (level s (negated (lit_of words o i)))
      ⊎ (IsLongReason reason o × (current_level s ≤ level s (negated (lit_of words o i))))
  pub ranges : AreImpliedLists implied (length s.values)
  pub binary : (l k : ℕ) → HasLeftQueue s l → level s l < top → k < length (implied_by implied l) →
      (IsTrueLit s.values (get_or (implied_by implied l) k 0) × (level s (get_or (implied_by implied l) k 0) ≤ level s l))
      ⊎ (IsBinaryReason reason lit l (get_or (implied_by implied l) k 0) × (current_level s ≤ level s l))

-- `PropagationPrecondition words refs w implied s` holds if propagation can start: clauses, watch lists and state are
-- consistent, and all literals that have left the queue are propagated (`PropagationInvariant` for all levels).
abbrev pub PropagationPrecondition : (words refs : List ℕ) (w : WatchState) (implied : List (List ℕ)) (s : PropagationState) → Type 0
PropagationPrecondition words refs w implied s = PropagationInvariant words refs w implied s (current_level s + 1)

-- `PropagationResult refs implied words s words' s' w r` holds if propagation with the result `r` has led from `words`
-- and `s` to `words'` and `s'`. The literals that it assigned have reasons. Without a conflict, the invariant holds,
-- with an empty queue and no unit or falsified clause. After a conflict, a clause is falsified, and the invariant holds
-- once the current level is undone.
pub record PropagationResult (refs : List ℕ) (implied : List (List ℕ)) (words : List ℕ) (s : PropagationState) (words' : List ℕ) (s' : PropagationState) (w : WatchState) (r : Result (Unit {0}) Conflict) : Type 0 where
  pub moves : PropagationEffect (live_refs words refs) implied words s words' s'
  pub live : live_refs words' refs ≡ live_refs words refs
  pub outcome : MatchResult r
      (λ _. PropagationPrecondition words' refs w implied s' × (s'.trail.head ≡ length s'.trail.lits) × IsUnitFixpoint words' (live_refs words' refs) implied s'.values)
      (λ e. PropagationInvariant words' refs w implied s' (current_level s') × IsConflict words' (live_refs words' refs) implied s'.values e)
