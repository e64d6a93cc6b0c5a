use Rattle.std.proofs.Common.{length, ◌-◌, ◌≤◌, take}
use Rattle.sat_base.specs.device.Device.{WriterAccepts}
use Rattle.sat_base.proofs.device.CountedWrite.write_all_counted.Given as goal

abbrev pub invariant-loop-written : goal.invariant-loop-written
invariant-loop-written g l = record {
  within : l.written ≤ length l.piece;
  takes : WriterAccepts (g.Self.CountedWrite.seen l.fn.self) (g.Self.CountedWrite.seen l.self) (take l.written l.piece);
}

abbrev pub decreases-loop-written : goal.decreases-loop-written
decreases-loop-written g l = length l.piece - l.written
