use Rattle.std.proofs.Common.{◌≡◌, ◌<◌, ◌≤◌, ℕ, get_or}
use Rattle.sat_store.specs.heap.Heap.{no_entry, with_rescaled_key}
use Rattle.sat_store.proofs.vsids.rescale.Given as goal

abbrev pub invariant-loop-entry : goal.invariant-loop-entry
invariant-loop-entry l = record {
  done : (k : ℕ) → k < l.entry-index → get_or l.entry-items k no_entry ≡ with_rescaled_key (get_or l.fn.heap.items k no_entry);
  left : (k : ℕ) → l.entry-index ≤ k → get_or l.entry-items k no_entry ≡ get_or l.fn.heap.items k no_entry;
}
