use Rattle.std.proofs.Common.{ℕ, ◌≡◌, ◌<◌, true}
use Rattle.sat_store.specs.heap.Vsids.{is_available}
use Rattle.sat_parts.specs.parts.Whole.{SearchStateInvariant}
use Rattle.sat_parts_tests.proofs.loading.use_all.Given as goal

abbrev pub invariant-loop-index : goal.invariant-loop-index
invariant-loop-index l =
    SearchStateInvariant l.parts
    × (l.parts.trail ≡ l.fn.parts.trail)
    × (l.parts.assignment ≡ l.fn.parts.assignment)
    × ((v : ℕ) → v < l.index → is_available l.parts.vsids v ≡ true)
