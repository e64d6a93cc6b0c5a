use Rattle.sat_checker.specs.inner.AssumedRoom.{RoomIsKept, signed}
use Rattle.sat_hints.proofs.lemmas.Signs.{AssumesFirst}
use Rattle.sat_hints.proofs.propagating.assume_all.Given as goal

abbrev pub invariant-loop-literal : goal.invariant-loop-literal
invariant-loop-literal l = record {
  first : AssumesFirst (signed l.negate l.literals) l.literal-index l.assumed.literals;
  stays : RoomIsKept l.fn.assumed.room l.assumed.room;
}
