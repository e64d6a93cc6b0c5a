use Rattle.std.proofs.Common.{◌≡◌, ◌+◌, ◌*◌, ◌<◌, ◌≤◌}
use Rattle.sat_base.specs.device.ReadRoom.{HasReadRoom}
use Rattle.sat_base.specs.device.Reading.{source_of}
use Rattle.sat_base.proofs.lemmas.device.ReadLemmas.{Groups}
use Rattle.sat_base.proofs.device.input.Input.number_by_bytes.Given as goal

abbrev pub invariant-loop-byte : goal.invariant-loop-byte
invariant-loop-byte g l = record {
  groups : Groups (l.largest + 1) l.value l.place (source_of g.R.CountedRead.seen l.fn.self) (source_of g.R.CountedRead.seen l.self);
  low : l.value + l.place * l.room ≤ l.largest;
  high : l.largest < l.value + l.place * (l.room + 1);
  read : HasReadRoom l.self;
  same : l.self.room ≡ l.fn.self.room;
}

abbrev pub decreases-loop-byte : goal.decreases-loop-byte
decreases-loop-byte g l = l.room
