use Rattle.std.proofs.Common.{◌≡◌, length}
use Rattle.sat_store_tests.proofs.scales.picked.Given as goal

abbrev pub invariant-loop-index : goal.invariant-loop-index
invariant-loop-index l = length l.vsids.available ≡ 4

abbrev pub invariant-loop-place : goal.invariant-loop-place
invariant-loop-place l = length l.vsids.available ≡ 4
