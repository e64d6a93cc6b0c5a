use Rattle.std.proofs.Common.{◌≡◌, ◌<◌, ◌≤◌, ◌+◌}
use Rattle.std.specs.Prelude.{vec_len, vec_capacity}
use Rattle.sat_base.specs.steps.StepText.{SpellsLiteral}
use Rattle.sat_base.specs.device.ReadRoom.{unread_in}
use Rattle.sat_base.specs.device.Reading.{source_of}
use Rattle.sat_base.proofs.lemmas.steps.FormatReads.{Counted}
use Rattle.sat_base.proofs.device.input.Input.literal_items.Given as goal

abbrev pub invariant-loop-left : goal.invariant-loop-left
invariant-loop-left g l = record {
  counted : Counted SpellsLiteral l.count l.left l.lits.items (source_of g.R.CountedRead.seen l.fn.self) (source_of g.R.CountedRead.seen l.self);
  list : vec_len l.lits + unread_in l.self ≤ vec_capacity l.lits;
  capacity : vec_capacity l.fn.lits ≤ vec_capacity l.lits;
  within : unread_in l.self < l.fn.self.room;
  room : l.self.room ≡ l.fn.self.room;
}

abbrev pub decreases-loop-left : goal.decreases-loop-left
decreases-loop-left g l = l.left
