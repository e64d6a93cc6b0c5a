-- Values, nodes and trail of a search, and how they agree.
use Rattle.std.specs.Prelude.{ℕ, ◌≡◌, ◌+◌, ◌<◌, ◌≤◌, ◌⊎◌, Bool, Option, Some, List, length, slice_index_or as get_or, slice_set as set}
use Rattle.sat_base.specs.values.Literals.{variable, is_positive}
use Rattle.sat_parts.specs.declared.prop.graph.ImplNode.{ImplNode}
use Rattle.sat_parts.specs.declared.prop.graph.Reason.{Reason}
use Rattle.sat_parts.specs.prop.Values.{IsTrueLit}
use Rattle.sat_parts.specs.prop.Trails.{TrailState, IsTrail, IsAtLevel, with_lit}
use Rattle.sat_parts.specs.prop.Graphs.{node_of, enqueued_node, with_node}

-- the state of a search: which literals are true, why, and in which order they became true
pub record PropagationState : Type 0 where
  pub values : List (Option Bool)
  pub nodes : List ImplNode
  pub trail : TrailState

-- the implication graph node (reason, level and depth) of the variable of the literal `l`
abbrev pub node : PropagationState → ℕ → ImplNode
node s l = node_of s.nodes (variable l)

-- the level of a literal and of its negation
abbrev pub level : PropagationState → ℕ → ℕ
level s l = (node s l).level

-- the current decision level: the number of levels above 0
abbrev pub current_level : PropagationState → ℕ
current_level s = length s.trail.starts

-- the literal at position `i` of the trail, or 0 past its end
abbrev pub lit_at : PropagationState → ℕ → ℕ
lit_at s i = get_or s.trail.lits i 0

-- `IsRemovedUnit s l` holds if the literal `l` is a unit, true at level 0, that was taken off the trail.
pub record IsRemovedUnit (s : PropagationState) (l : ℕ) : Type 0 where
  pub holds : IsTrueLit s.values l
  pub depth : (node s l).depth ≡ 4294967295
  pub bottom : level s l ≡ 0

-- `IsOnTrailBefore s bound l` holds if the literal `l` is on the trail before position `bound`.
pub record IsOnTrailBefore (s : PropagationState) (bound l : ℕ) : Type 0 where
  pub place : ℕ
  pub before : place < bound
  pub within : place < length s.trail.lits
  pub there : lit_at s place ≡ l

-- `HasLeftQueue s l` holds if the literal `l` has left the queue: it was propagated, or taken off the trail as a unit.
abbrev pub HasLeftQueue : PropagationState → ℕ → Type 0
HasLeftQueue s l = IsOnTrailBefore s s.trail.head l ⊎ IsRemovedUnit s l

-- `StateIsConsistent s` holds if values, nodes and trail agree. The literals on the trail are true, and their nodes
-- have their positions and levels. Every other true literal was taken off the trail as a unit.
pub record StateIsConsistent (s : PropagationState) : Type 0 where
  pub trail : IsTrail s.trail
  pub nodes : length s.nodes ≡ length s.values
  pub room : length s.values ≤ s.trail.room
  pub holds : (i : ℕ) → i < length s.trail.lits → IsTrueLit s.values (lit_at s i)
  pub depths : (i : ℕ) → i < length s.trail.lits → (node s (lit_at s i)).depth ≡ i + 1
  pub levels : (i : ℕ) → i < length s.trail.lits → IsAtLevel s.trail.starts i (level s (lit_at s i))
  pub known : (l : ℕ) → IsTrueLit s.values l → IsOnTrailBefore s (length s.trail.lits) l ⊎ IsRemovedUnit s l

-- `IsQueueCurrent s` holds if every literal in the queue is at the current level.
abbrev pub IsQueueCurrent : PropagationState → Type 0
IsQueueCurrent s = (i : ℕ) → s.trail.head ≤ i → i < length s.trail.lits → level s (lit_at s i) ≡ current_level s

-- the state after an unassigned literal became true and was appended to the trail
abbrev pub enqueued : ℕ → Reason → PropagationState → PropagationState
enqueued l reason s = record {
  values = set s.values (variable l) (Some (is_positive l));
  nodes = with_node (variable l) (enqueued_node s.trail reason) s.nodes;
  trail = with_lit l s.trail;
}

-- `TrailGrows old new` holds if the trail of `new` is that of `old` with zero or more literals appended: true literals
-- stay true with the same nodes, levels begin at the same positions, the variables are the same, and no unit was taken
-- off the trail.
pub record TrailGrows (old new : PropagationState) : Type 0 where
  pub size : length new.values ≡ length old.values
  pub starts : new.trail.starts ≡ old.trail.starts
  pub cleared : new.trail.cleared ≡ old.trail.cleared
  pub room : new.trail.room ≡ old.trail.room
  pub longer : length old.trail.lits ≤ length new.trail.lits
  pub front : (i : ℕ) → i < length old.trail.lits → lit_at new i ≡ lit_at old i
  pub kept : (l : ℕ) → IsTrueLit old.values l → IsTrueLit new.values l
  pub nodes : (l : ℕ) → IsTrueLit old.values l → node new l ≡ node old l
  pub removed : (l : ℕ) → IsRemovedUnit new l → IsRemovedUnit old l

-- `IsSatisfied s ls bound` holds if some literal of `ls` is true at level `bound` or lower.
pub record IsSatisfied (s : PropagationState) (ls : List ℕ) (bound : ℕ) : Type 0 where
  pub place : ℕ
  pub within : place < length ls
  pub holds : IsTrueLit s.values (get_or ls place 0)
  pub low : level s (get_or ls place 0) ≤ bound
