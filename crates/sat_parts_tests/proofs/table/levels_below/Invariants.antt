use Rattle.std.proofs.Common.{ℕ, ◌<◌, length, slice_index}
use Rattle.sat_base.specs.values.Literals.{variable}
use Rattle.sat_parts.specs.prop.Graphs.{node_of}
use Rattle.sat_parts_tests.proofs.table.levels_below.Given as goal

abbrev pub invariant-loop-at : goal.invariant-loop-at
invariant-loop-at l =
    ((k : ℕ) → k < l.at → k < length l.lits → variable (slice_index l.lits k) < length l.graph)
    × ((k : ℕ) → k < l.at → k < length l.lits → (node_of l.graph (variable (slice_index l.lits k))).level < l.bound)
