use Rattle.std.proofs.Common.{ℕ, List, drop}
use Rattle.sat_checker.specs.Stored.{Stored}
use Rattle.sat_checker.specs.inner.AssumedRoom.{HasClauseRoom, RoomIsKept}
use Rattle.sat_checker.specs.inner.FormulaView.{RepresentsFormula, DiffersInNotesAndRoom}
use Rattle.sat_checker.proofs.formula.Formula.make_room.Given as goal

-- once there is room for the remaining literals, there is room for the entire clause
abbrev pub invariant-loop-lit : goal.invariant-loop-lit
invariant-loop-lit l = record {
  units : (f : Stored) → RepresentsFormula l.fn.self f → (room : List ℕ) → RoomIsKept l.self.units.room room → HasClauseRoom room (drop l.lit-index l.literals) → HasClauseRoom room l.literals;
  marks : (f : Stored) → RepresentsFormula l.fn.self f → (room : List ℕ) → RoomIsKept l.self.marks.room room → HasClauseRoom room (drop l.lit-index l.literals) → HasClauseRoom room l.literals;
  rest : DiffersInNotesAndRoom l.fn.self l.self;
}
