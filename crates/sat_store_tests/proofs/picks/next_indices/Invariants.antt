use Rattle.std.proofs.Common.{◌≡◌, length}
use Rattle.sat_store_tests.proofs.picks.next_indices.Given as goal

abbrev pub invariant-loop-place : goal.invariant-loop-place
invariant-loop-place l = length l.vsids.available ≡ 8
