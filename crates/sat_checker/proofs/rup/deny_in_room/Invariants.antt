use Rattle.std.proofs.Common.{◌≡◌, take}
use Rattle.sat_checker.specs.inner.WalkResults.{AssumesMore}
use Rattle.sat_checker.specs.inner.AssumedRoom.{NegationsAssumedInRoom, signed}
use Rattle.sat_checker.proofs.rup.deny_in_room.Given as goal

abbrev pub invariant-loop-literal : goal.invariant-loop-literal
invariant-loop-literal l = record {
  denied : NegationsAssumedInRoom l.fn.assigned (signed l.negate (take l.literal-index l.literals)) l.assigned;
  room : l.assigned.room ≡ l.fn.assigned.room;
  extends : AssumesMore l.fn.assigned l.assigned;
}
