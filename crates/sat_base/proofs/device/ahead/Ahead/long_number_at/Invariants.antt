use Rattle.std.proofs.Common.{◌-◌}
use Rattle.sat_base.specs.device.ConsumedAhead.{buffered_from}
use Rattle.sat_base.proofs.lemmas.steps.NumbersAhead.{LookedAt}
use Rattle.sat_base.proofs.device.ahead.Ahead.long_number_at.Given as goal

abbrev pub invariant-loop-at : goal.invariant-loop-at
invariant-loop-at l = LookedAt l.value l.place (buffered_from l.from l.self) (buffered_from l.at l.self)

abbrev pub decreases-loop-at : goal.decreases-loop-at
decreases-loop-at l = l.self.end - l.at
