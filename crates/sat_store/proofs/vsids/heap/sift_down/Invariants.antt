use Rattle.std.proofs.Common.{◌≡◌, ◌<◌, ◌≤◌, ◌-◌, ℕ, length, set}
use Rattle.sat_store.specs.heap.Heap.{var_at, rank_at, OrderedExceptBelow, PermutesEntries}
use Rattle.sat_store.proofs.vsids.heap.sift_down.Given as goal

abbrev pub invariant-loop-child : goal.invariant-loop-child
invariant-loop-child l = record {
  within : l.hole < l.available;
  following : l.at ≤ l.hole;
  count : length l.heap.items ≡ length l.fn.heap.items;
  counts : length l.positions.items ≡ length l.fn.heap.items;
  var : l.entry.var < length l.heap.items;
  listed : (k : ℕ) → k < length l.heap.items → var_at l.heap.items k < length l.heap.items;
  same : PermutesEntries l.available l.fn.heap.items l.fn.positions.items (set l.heap.items l.hole l.entry) (set l.positions.items l.entry.var l.hole);
  down : (low : ℕ) → low ≤ l.at → OrderedExceptBelow (rank_at l.fn.heap.items) l.available low l.at → OrderedExceptBelow (rank_at (set l.heap.items l.hole l.entry)) l.available low l.hole;
}

abbrev pub decreases-loop-child : goal.decreases-loop-child
decreases-loop-child l = l.available - l.hole
