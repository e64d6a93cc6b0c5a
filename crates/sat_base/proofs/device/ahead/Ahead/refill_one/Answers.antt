use Rattle.std.proofs.Common.{arith}
use Rattle.sat_base.proofs.lemmas.device.ReadLemmas.{faults_now, none_waits}
use Rattle.sat_base.proofs.device.ahead.Ahead.refill_one.Goals as goal

pub returns-in-Err-clause-bytes : goal.returns-in-Err-clause-bytes
returns-in-Err-clause-bytes g c names =
    let a = c.args.self.now in
    faults_now _ (g.R.CountedRead.seen c.args.reader.now) (g.R.CountedRead.seen c.read_counted.new.self) _ _ c.read_counted.new.buf names a.reads c.in-Err.ensures.once (none_waits a.at a.end a.piece c.requires.over) (none_waits 0 0 c.read_counted.new.buf (omega arith))
