use Rattle.std.proofs.Common.{ℕ, ◌≡◌, List, drop}
use Rattle.sat_checker.specs.inner.AssumedRoom.{HasClauseRoom, RoomIsKept}
use Rattle.sat_checker.proofs.units.assigned.make_room_for.Given as goal

-- once there is room for the remaining literals, there is room for the entire clause
abbrev pub invariant-loop-lit : goal.invariant-loop-lit
invariant-loop-lit l = record {
  room : (room : List ℕ) → RoomIsKept l.assigned.room room → HasClauseRoom room (drop l.lit-index l.clause) → HasClauseRoom room l.clause;
  literals : l.assigned.literals ≡ l.fn.assigned.literals;
  stays : RoomIsKept l.fn.assigned.room l.assigned.room;
}
