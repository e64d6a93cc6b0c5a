use Rattle.std.proofs.Common.{◌≡◌, ◌-◌, ◌≤◌}
use Rattle.std.specs.Fn.{iterate}
use Rattle.sat_store.specs.heap.Vsids.{decayed}
use Rattle.sat_store_tests.proofs.scales.decay_times.Given as goal

abbrev pub invariant-loop : goal.invariant-loop
invariant-loop l = (l.counter ≤ l.fn.times) × (iterate decayed (l.fn.times - l.counter) l.vsids ≡ iterate decayed l.fn.times l.fn.vsids)
    × (l.vsids.available ≡ l.fn.vsids.available)
