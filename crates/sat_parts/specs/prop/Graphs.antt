-- The nodes of the implication graph, indexed by variable.
use Rattle.std.specs.Prelude.{ℕ, ◌≡◌, ◌+◌, ◌-◌, Bool, true, false, List, ◌++◌, take, replicate, length, slice_index_or as get_or, slice_set as set}
use Rattle.sat_parts.specs.prop.Trails.{TrailState}
use Rattle.sat_parts.specs.declared.prop.graph.ImplNode.{ImplNode}
use Rattle.sat_parts.specs.declared.prop.graph.Reason.{Reason}
use Rattle.sat_parts.specs.declared.prop.graph.Reason.TheVariants.{Unit as NoCause, Binary, Long}

-- `has_no_clause reason` is true if `reason` is not a clause: the literal is a unit, a decision or an assumption.
abbrev pub has_no_clause : Reason → Bool
has_no_clause NoCause = true
has_no_clause (Binary _) = false
has_no_clause (Long _) = false

-- the node of a new variable: no reason, level 0, depth 0
abbrev pub new_node : ImplNode
new_node = record { reason = NoCause; level = 0; depth = 0 }

-- the node of a variable, or a new node if it has none
abbrev pub node_of : List ImplNode → ℕ → ImplNode
node_of nodes v = get_or nodes v new_node

-- the node of a literal that is appended to the trail `t` with this reason: its level is the current one, and its depth
-- is its position on the trail, counted from 1
abbrev pub enqueued_node : TrailState → Reason → ImplNode
enqueued_node t reason = record { reason = reason; level = length t.starts; depth = length t.lits + 1 }

-- the nodes with the node of a variable replaced
abbrev pub with_node : ℕ → ImplNode → List ImplNode → List ImplNode
with_node v node nodes = set nodes v node

-- the nodes with the reason of a variable replaced
abbrev pub with_reason : ℕ → Reason → List ImplNode → List ImplNode
with_reason v reason nodes = with_node v (record (node_of nodes v) { reason = reason }) nodes

-- the nodes of `count` variables: nodes are cut off or new nodes are added
abbrev pub with_nodes : ℕ → List ImplNode → List ImplNode
with_nodes count nodes = take count nodes ++ replicate (count - length nodes) new_node

-- the node of a unit that was taken off the trail: no reason, level 0, and the depth 2^32 - 1 as a mark
abbrev pub removed_node : ImplNode
removed_node = record { reason = NoCause; level = 0; depth = 4294967295 }

-- `HasReason nodes v o` holds if the reason for the value of the variable `v` is the long clause at offset `o`.
abbrev pub HasReason : List ImplNode → (v o : ℕ) → Type 0
HasReason nodes v o = (node_of nodes v).reason ≡ Long o
