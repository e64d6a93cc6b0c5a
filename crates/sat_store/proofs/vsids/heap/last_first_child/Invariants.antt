use Rattle.std.proofs.Common.{◌≡◌, ◌<◌, ◌≤◌, ◌+◌, ◌*◌, ℕ, get_or}
use Rattle.sat_store.specs.heap.Heap.{no_entry, rank_at, parent}
use Rattle.sat_store.proofs.vsids.heap.last_first_child.Given as goal

abbrev pub invariant-loop-next : goal.invariant-loop-next
invariant-loop-next l = record {
  child : parent l.child ≡ l.at;
  positive : 0 < l.child;
  within : l.child < l.available;
  best : l.best ≡ get_or l.heap l.child no_entry;
  first : (k : ℕ) → 4 * l.at + 1 ≤ k → k < l.next → rank_at l.heap k ≤ rank_at l.heap l.child;
}
