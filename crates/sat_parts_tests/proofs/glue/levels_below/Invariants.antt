use Rattle.std.proofs.Common.{ℕ, ◌<◌, length, slice_index}
use Rattle.sat_base.specs.values.Literals.{variable}
use Rattle.sat_store.specs.clause.Buffer.{lits_at}
use Rattle.sat_parts.specs.prop.Graphs.{node_of}
use Rattle.sat_parts_tests.proofs.glue.levels_below.Given as goal

abbrev pub invariant-loop-at : goal.invariant-loop-at
invariant-loop-at l =
    ((k : ℕ) → k < l.at → k < length (lits_at l.clauses l.cref) → variable (slice_index (lits_at l.clauses l.cref) k) < length l.graph)
    × ((k : ℕ) → k < l.at → k < length (lits_at l.clauses l.cref) → (node_of l.graph (variable (slice_index (lits_at l.clauses l.cref) k))).level < l.bound)
