use Rattle.std.proofs.Common.{◌≡◌, ℕ, length, vec_capacity}
use Rattle.sat_store.specs.heap.Heap.{PositionsMatch, IsHeap, AddsHeapVars}
use Rattle.sat_store.proofs.vsids.heap.add_variables.Given as goal

abbrev pub invariant-loop-index : goal.invariant-loop-index
invariant-loop-index l = record {
  heap : (m : ℕ) → IsHeap l.fn.heap.items l.fn.positions.items m → IsHeap l.heap.items l.positions.items m;
  placed : PositionsMatch l.heap.items l.positions.items;
  adds : AddsHeapVars l.index l.fn.heap.items l.fn.positions.items l.heap.items l.positions.items;
  count : length l.heap.items ≡ l.index;
  counts : length l.positions.items ≡ l.index;
  heap_room : vec_capacity l.heap ≡ vec_capacity l.fn.heap;
  positions_room : vec_capacity l.positions ≡ vec_capacity l.fn.positions;
}
