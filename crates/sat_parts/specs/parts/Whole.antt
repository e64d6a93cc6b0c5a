-- The invariant of the struct of parts, and properties of the parts that callers use.
use Rattle.std.specs.Prelude.{ℕ, ◌≡◌, ◌<◌, None, List, length, slice_index_or as get_or}
use Rattle.std.specs.List.{Contains}
use Rattle.sat_parts.specs.clause.Stored.{lit_of, size_of}
use Rattle.sat_parts.specs.prop.Binaries.{implied_by}
use Rattle.sat_store.specs.heap.Vsids.{Queue}
use Rattle.sat_parts.specs.prop.State.{PropagationState}
use Rattle.sat_parts.specs.prop.Ready.{state_of}
use Rattle.sat_parts.specs.declared.parts.SearchState.{SearchState}
use Rattle.sat_parts.specs.parts.Round.{IsInNoClause, UnitsHaveNoReason, LevelZeroInvariant, KeepsPickable, PartsInvariantBelow, RoundInvariant}
use Rattle.sat_parts.specs.declared.prop.graph.Conflict.{Conflict}
use Rattle.sat_parts.specs.clause.Db.{live_refs}
use Rattle.sat_parts.specs.prop.Values.{value_of, IsTrueLit}
use Rattle.sat_parts.specs.prop.Ready.{IsConflict}

-- the values, nodes and trail of the search `p`
abbrev pub state : SearchState → PropagationState
state p = state_of p.assignment p.graph p.trail

-- `HasLongClause p o` holds if `p` has a live long clause at `o`.
abbrev pub HasLongClause : SearchState → ℕ → Type 0
HasLongClause p o = Contains (live_refs p.clauses p.db.refs) o

-- `HasLongClauses p os` holds if `p` has a live long clause at every offset of `os`.
abbrev pub HasLongClauses : SearchState → List ℕ → Type 0
HasLongClauses p os = (k : ℕ) → k < length os → HasLongClause p (get_or os k 0)

-- `InNoClause p v` holds if the variable `v` is in no clause of `p`.
abbrev pub InNoClause : SearchState → ℕ → Type 0
InNoClause p v = IsInNoClause p.clauses (live_refs p.clauses p.db.refs) p.binary.implied v

-- `SearchStateInvariant p` holds if the parts of the search `p` are as between rounds: consistent, and propagated as
-- far as literals have left the propagation queue (`RoundInvariant`).
abbrev pub SearchStateInvariant : SearchState → Type 0
SearchStateInvariant p = RoundInvariant p.clauses p.db p.watchlists p.binary p.assignment p.graph p.trail p.vsids

-- `SearchStateInvariantWith q p` holds if the invariant between rounds holds for `p` with the queue of variables `q`
-- instead of its own.
abbrev pub SearchStateInvariantWith : Queue → SearchState → Type 0
SearchStateInvariantWith q p = RoundInvariant p.clauses p.db p.watchlists p.binary p.assignment p.graph p.trail q

-- `IsPicked p v` holds if the unassigned variable `v` was just picked: `SearchStateInvariant` holds for `p` with an
-- earlier decision queue in place of its own, and no other unassigned variable has since lost its place there.
pub record IsPicked (p : SearchState) (v : ℕ) : Type 0 where
  pub before : Queue
  pub holds : SearchStateInvariantWith before p
  pub picks : KeepsPickable p.assignment.current before p.vsids v
  pub size : length p.vsids.available ≡ length before.available
  pub there : v < length p.assignment.current
  pub unset : value_of p.assignment.current v ≡ None

-- `SearchStateInvariantBelow top p` holds if the parts of `p` are consistent, and the literals at levels below `top`
-- that have left the queue are propagated (`PartsInvariantBelow`).
abbrev pub SearchStateInvariantBelow : ℕ → SearchState → Type 0
SearchStateInvariantBelow top p = PartsInvariantBelow p.clauses p.db p.watchlists p.binary p.assignment p.graph p.trail p.vsids top

-- `IsFullyPropagated p` holds if the queue is empty: every literal on the trail was propagated.
abbrev pub IsFullyPropagated : SearchState → Type 0
IsFullyPropagated p = p.trail.head ≡ length p.trail.lits

-- `AllAssigned p` holds if every unassigned variable is in no clause.
abbrev pub AllAssigned : SearchState → Type 0
AllAssigned p = (u : ℕ) → u < length p.assignment.current → value_of p.assignment.current u ≡ None → InNoClause p u

-- `HasConflict p e` holds if the conflict `e` names a falsified clause, and the invariant between rounds holds again
-- once the current level is undone.
abbrev pub HasConflict : SearchState → Conflict → Type 0
HasConflict p e =
    SearchStateInvariantBelow (length p.trail.starts) p
    × IsConflict p.clauses (live_refs p.clauses p.db.refs) p.binary.implied p.assignment.current e
    × (0 < length p.trail.starts → UnitsHaveNoReason (state p) × LevelZeroInvariant p.trail)

-- `ClausesAreSatisfied p` holds if every live long clause has a true literal, and every literal that a true literal
-- implies is true.
pub record ClausesAreSatisfied (p : SearchState) : Type 0 where
  pub long : (o : ℕ) → Contains (live_refs p.clauses p.db.refs) o → (k : ℕ) × ((k < size_of p.clauses o) × IsTrueLit p.assignment.current (lit_of p.clauses o k))
  pub binary : (l k : ℕ) → k < length (implied_by p.binary.implied l) → IsTrueLit p.assignment.current l → IsTrueLit p.assignment.current (get_or (implied_by p.binary.implied l) k 0)
