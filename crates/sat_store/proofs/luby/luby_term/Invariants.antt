use Rattle.std.proofs.Common.{◌≡◌, ◌^◌, ◌<◌, ◌≤◌}
use Rattle.sat_store.specs.schedule.Luby.{luby, luby_below}
use Rattle.sat_store.proofs.luby.luby_term.Given as goal

abbrev pub invariant-loop-bits : goal.invariant-loop-bits
invariant-loop-bits l = (0 < l.rest) × (l.rest < 2 ^ l.bits) × (l.bits ≤ 64) × (luby_below l.bits l.rest ≡ luby l.number)

abbrev pub decreases-loop-bits : goal.decreases-loop-bits
decreases-loop-bits l = l.bits
