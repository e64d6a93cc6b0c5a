use Rattle.std.proofs.Common.{◌≡◌, drop}
use Rattle.sat_checker.specs.Accepts.{VariablesDistinct}
use Rattle.sat_checker.specs.inner.AssumedRoom.{RoomIsKept}
use Rattle.sat_checker.proofs.units.valuation.assume_apart.Given as goal

-- the literals from the place on are assumed
abbrev pub invariant-loop-place : goal.invariant-loop-place
invariant-loop-place l = record {
  set : l.assigned.literals ≡ drop l.place l.literals;
  apart : VariablesDistinct (drop l.place l.literals);
  stays : RoomIsKept l.fn.assigned.room l.assigned.room;
}
