use Rattle.std.proofs.Common.{◌≡◌, length}
use Rattle.sat_store_tests.proofs.picks.make_each.Given as goal

abbrev pub invariant-loop-index : goal.invariant-loop-index
invariant-loop-index l = length l.vsids.available ≡ 8
