use Rattle.std.proofs.Common.{ℕ, ◌≢◌, ◌<◌, ◌≤◌, slice_index_or}
use Rattle.sat_parts_tests.proofs.loading.stands_from.Given as goal

abbrev pub invariant-loop-at : goal.invariant-loop-at
invariant-loop-at l = (k : ℕ) → l.from ≤ k → k < l.at → slice_index_or l.lits k 0 ≢ l.lit
