use Rattle.std.proofs.Common.{ℕ, ◌*◌, ◌<◌, slice_index_or}
use Rattle.sat_parts_tests.proofs.loading.are_below.Given as goal

abbrev pub invariant-loop-lit : goal.invariant-loop-lit
invariant-loop-lit l = (k : ℕ) → k < l.lit-index → slice_index_or l.lits k 0 < 2 * l.count
