use Rattle.std.proofs.Common.{◌≡◌, take}
use Rattle.sat_checker.specs.inner.AssumedRoom.{AgreeWithinRoom, signed}
use Rattle.sat_hints.proofs.propagating.assume_roomy.Given as goal

abbrev pub invariant-loop-literal : goal.invariant-loop-literal
invariant-loop-literal l = record {
  agrees : AgreeWithinRoom l.fn.assumed.room l.assumed.literals (take l.literal-index (signed l.negate l.literals));
  room : l.assumed.room ≡ l.fn.assumed.room;
}
