use Rattle.std.proofs.Common.{◌-◌, ◌<◌}
use Rattle.sat_base.specs.device.Device.{max_reads}
use Rattle.sat_base.specs.device.Reading.{ConsumesBytes}
use Rattle.certify.specs.confirm.Lines.{HasNoLf}
use Rattle.certify.specs.script.LastPiece.{source_in}
use Rattle.certify.proofs.confirm.lines.Lines.next.Given as goal

abbrev pub invariant-loop-wanted : goal.invariant-loop-wanted
invariant-loop-wanted g l = record {
  limit : 0 < l.limit;
  none : HasNoLf l.self.line.items;
  passes : ConsumesBytes (source_in g.A.CountedRead.seen l.fn.answers l.fn.self.ahead) (source_in g.A.CountedRead.seen l.answers l.self.ahead) l.self.line.items;
}

abbrev pub decreases-loop-wanted : goal.decreases-loop-wanted
decreases-loop-wanted g l = max_reads - l.self.ahead.reads
