-- The invariant of the parts of a search between rounds.
use Rattle.std.specs.Prelude.{ℕ, ◌≡◌, ◌≢◌, ◌+◌, ◌<◌, ◌⊎◌, Bool, true, Option, None, List, length, slice_index_or as get_or}
use Rattle.std.specs.List.{Contains}
use Rattle.sat_base.specs.values.Literals.{variable}
use Rattle.sat_store.specs.heap.Vsids.{Queue, is_available}
use Rattle.sat_parts.specs.declared.prop.graph.ImplNode.{ImplNode}
use Rattle.sat_parts.specs.declared.prop.graph.Reason.TheVariants.{Unit as NoCause}
use Rattle.sat_parts.specs.clause.Db.{Db, DbMatchesBuffer, live_refs}
use Rattle.sat_parts.specs.clause.Stored.{lit_of, size_of}
use Rattle.sat_parts.specs.prop.Binaries.{Binaries, implied_by}
use Rattle.sat_parts.specs.prop.Values.{Values, value_of}
use Rattle.sat_parts.specs.prop.Trails.{TrailState}
use Rattle.sat_parts.specs.prop.WatchLists.{WatchState}
use Rattle.sat_parts.specs.prop.State.{PropagationState, node, level, lit_at}
use Rattle.sat_parts.specs.prop.Reasons.{ReasonsAreUnit}
use Rattle.sat_parts.specs.prop.Ready.{state_of}
use Rattle.sat_parts.specs.prop.Propagation.{PropagationInvariant}
use Rattle.sat_parts.specs.prop.TrailWord.{LevelsBeginWithDecisions}

-- `IsInNoClause words live implied v` holds if no clause contains the variable `v`.
pub record IsInNoClause (words live : List ℕ) (implied : List (List ℕ)) (v : ℕ) : Type 0 where
  pub long : (o k : ℕ) → Contains live o → k < size_of words o → variable (lit_of words o k) ≢ v
  pub binary : (l k : ℕ) → k < length (implied_by implied l) → (variable l ≢ v) × (variable (get_or (implied_by implied l) k 0) ≢ v)

-- `UnassignedArePickable words live implied values q` holds if every unassigned variable may be picked, unless no
-- clause contains it.
abbrev pub UnassignedArePickable : (words live : List ℕ) (implied : List (List ℕ)) (values : List (Option Bool)) (q : Queue) → Type 0
UnassignedArePickable words live implied values q = (v : ℕ) → v < length values → value_of values v ≡ None → (is_available q v ≡ true) ⊎ IsInNoClause words live implied v

-- `KeepsPickable values q q' v` holds if every unassigned variable that could be picked in `q` can be picked in `q'`,
-- except possibly `v`.
abbrev pub KeepsPickable : (values : List (Option Bool)) (q q' : Queue) (v : ℕ) → Type 0
KeepsPickable values q q' v = (u : ℕ) → u ≢ v → value_of values u ≡ None → is_available q u ≡ true → is_available q' u ≡ true

-- `UnitsHaveNoReason s` holds if the literals on the trail at level 0 have no clause as their reason.
abbrev pub UnitsHaveNoReason : PropagationState → Type 0
UnitsHaveNoReason s = (i : ℕ) → i < length s.trail.lits → level s (lit_at s i) ≡ 0 → (node s (lit_at s i)).reason ≡ NoCause

-- `PartsInvariantBelow words db w b a g t q top` holds if clauses, watch lists, values, nodes, trail and decision queue
-- are consistent, the literals at levels below `top` that have left the propagation queue are propagated, reasons are
-- unit, and unassigned variables in clauses may be picked.
pub record PartsInvariantBelow (words : List ℕ) (db : Db) (w : WatchState) (b : Binaries) (a : Values) (g : List ImplNode) (t : TrailState) (q : Queue) (top : ℕ) : Type 0 where
  pub db_matches : DbMatchesBuffer words db
  pub propagation : PropagationInvariant words db.refs w b.implied (state_of a g t) top
  pub reasons : ReasonsAreUnit words (live_refs words db.refs) b.implied (state_of a g t) 0
  pub levelled : LevelsBeginWithDecisions (state_of a g t)
  pub queue : length q.available ≡ length a.current
  pub ready : UnassignedArePickable words (live_refs words db.refs) b.implied a.current q

-- `LevelZeroInvariant t` holds if the trail has no literals of level 0 if the current level is above 0, and otherwise
-- all its literals are in the queue.
pub record LevelZeroInvariant (t : TrailState) : Type 0 where
  pub above : 0 < length t.starts → get_or t.starts 0 0 ≡ 0
  pub bottom : length t.starts ≡ 0 → t.head ≡ 0

-- `RoundInvariant words db w b a g t q` holds if the parts are as they are between rounds: `PartsInvariantBelow` for
-- all levels, no unit has a clause as its reason, and `LevelZeroInvariant`.
pub record RoundInvariant (words : List ℕ) (db : Db) (w : WatchState) (b : Binaries) (a : Values) (g : List ImplNode) (t : TrailState) (q : Queue) : Type 0 where
  pub below : PartsInvariantBelow words db w b a g t q (length t.starts + 1)
  pub units : UnitsHaveNoReason (state_of a g t)
  pub base : LevelZeroInvariant t
