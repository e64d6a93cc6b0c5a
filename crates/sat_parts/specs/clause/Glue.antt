-- The levels of the literals of a clause.
use Rattle.std.specs.Prelude.{ℕ, ◌≡◌, ◌<◌, ◌==◌, nat_eq, Bool, false, List, length, map, slice_index_or as get_or}
use Rattle.std.specs.List.{list_any}
use Rattle.std.specs.Set.{distinct_count}
use Rattle.sat_base.specs.values.Literals.{variable}
use Rattle.sat_parts.specs.declared.prop.graph.ImplNode.{ImplNode}
use Rattle.sat_parts.specs.prop.Graphs.{node_of}

-- the decision levels of the literals `ls`, in order, as their variables' nodes record them
abbrev pub levels_of : List ImplNode → List ℕ → List ℕ
levels_of nodes ls = map (λ l. (node_of nodes (variable l)).level) ls

-- the number of different numbers in a list
abbrev pub count_distinct : List ℕ → ℕ
count_distinct xs = distinct_count nat_eq xs

-- `VariablesBelow ls n` holds if the variables of the literals are less than `n`.
abbrev pub VariablesBelow : List ℕ → ℕ → Type 0
VariablesBelow ls n = (k : ℕ) → k < length ls → variable (get_or ls k 0) < n

-- `LitsHaveNodes nodes ls` holds if the variable of every literal of `ls` has a node in `nodes`.
abbrev pub LitsHaveNodes : List ImplNode → List ℕ → Type 0
LitsHaveNodes nodes ls = VariablesBelow ls (length nodes)

-- `LevelsHaveFlags nodes flags ls` holds if the level of every literal of `ls` has a flag in `flags`.
abbrev pub LevelsHaveFlags : List ImplNode → List Bool → List ℕ → Type 0
LevelsHaveFlags nodes flags ls = (k : ℕ) → k < length ls → (node_of nodes (variable (get_or ls k 0))).level < length flags

-- `FlagsAreClear flags` holds if all flags are false.
abbrev pub FlagsAreClear : List Bool → Type 0
FlagsAreClear flags = (k : ℕ) → get_or flags k false ≡ false

-- `FlagsMarkLevels flags levels` holds if a flag is true exactly if its index is one of `levels`.
abbrev pub FlagsMarkLevels : List Bool → List ℕ → Type 0
FlagsMarkLevels flags levels = (k : ℕ) → k < length flags → get_or flags k false ≡ list_any (λ x. k == x) levels
