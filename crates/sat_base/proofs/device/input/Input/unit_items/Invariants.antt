use Rattle.std.proofs.Common.{◌≡◌, ◌<◌, ◌≤◌, ◌+◌, ◌-◌}
use Rattle.std.specs.Prelude.{vec_len, vec_capacity}
use Rattle.sat_base.specs.steps.Formats.{Both}
use Rattle.sat_base.specs.steps.StepText.{SpellsLiteral, SpellsHash}
use Rattle.sat_base.specs.device.ReadRoom.{unread_in}
use Rattle.sat_base.specs.device.Reading.{source_of}
use Rattle.sat_base.proofs.lemmas.steps.FormatReads.{Counted}
use Rattle.sat_base.proofs.device.input.Input.unit_items.Given as goal

abbrev pub invariant-loop : goal.invariant-loop
invariant-loop g l = record {
  counted : Counted (Both SpellsLiteral SpellsHash) l.count (l.count - l.counter) l.units.items (source_of g.R.CountedRead.seen l.fn.self) (source_of g.R.CountedRead.seen l.self);
  list : vec_len l.units + unread_in l.self ≤ vec_capacity l.units;
  capacity : vec_capacity l.fn.units ≤ vec_capacity l.units;
  within : unread_in l.self < l.fn.self.room;
  room : l.self.room ≡ l.fn.self.room;
}
