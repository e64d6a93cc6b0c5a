use Rattle.std.proofs.Common.{◌≤◌, ◌/◌, ◌+◌}
use Rattle.sat_store.specs.heap.Heap.{rank_at, IsHeapOrdered, PermutesEntries}
use Rattle.sat_store.proofs.vsids.heap.heapify.Given as goal

abbrev pub invariant-loop-low : goal.invariant-loop-low
invariant-loop-low l = record {
  few : l.low ≤ (l.available + 2) / 4;
  same : PermutesEntries l.available l.fn.heap.items l.fn.positions.items l.heap.items l.positions.items;
  ordered : IsHeapOrdered (rank_at l.heap.items) l.available l.low;
}

abbrev pub decreases-loop-low : goal.decreases-loop-low
decreases-loop-low l = l.low
