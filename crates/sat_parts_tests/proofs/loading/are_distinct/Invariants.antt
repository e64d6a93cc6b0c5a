use Rattle.std.proofs.Common.{ℕ, ◌≢◌, ◌<◌, length, slice_index_or}
use Rattle.sat_parts_tests.proofs.loading.are_distinct.Given as goal

abbrev pub invariant-loop-at : goal.invariant-loop-at
invariant-loop-at l = (j k : ℕ) → j < l.at → j < k → k < length l.lits → slice_index_or l.lits k 0 ≢ slice_index_or l.lits j 0
