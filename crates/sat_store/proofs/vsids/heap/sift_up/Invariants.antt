use Rattle.std.proofs.Common.{◌≡◌, ◌<◌, ℕ, length, set}
use Rattle.sat_store.specs.heap.Heap.{var_at, rank_at, OrderedExceptAt, PermutesEntries}
use Rattle.sat_store.proofs.vsids.heap.sift_up.Given as goal

abbrev pub invariant-loop-above : goal.invariant-loop-above
invariant-loop-above l = record {
  within : l.hole < l.available;
  count : length l.heap.items ≡ length l.fn.heap.items;
  counts : length l.positions.items ≡ length l.fn.heap.items;
  var : l.entry.var < length l.heap.items;
  listed : (k : ℕ) → k < length l.heap.items → var_at l.heap.items k < length l.heap.items;
  same : PermutesEntries l.available l.fn.heap.items l.fn.positions.items (set l.heap.items l.hole l.entry) (set l.positions.items l.entry.var l.hole);
  up : OrderedExceptAt (rank_at (set l.heap.items l.hole l.entry)) l.available l.hole;
}

abbrev pub decreases-loop-above : goal.decreases-loop-above
decreases-loop-above l = l.hole
