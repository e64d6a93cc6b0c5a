use Rattle.sat_base.specs.device.Reading.{source, with_borrows}
use Rattle.sat_base.proofs.lemmas.device.ReadLemmas.{faults_spent, none_waits}
use Rattle.sat_base.proofs.device.ahead.Ahead.refill.Goals as goal

pub returns-then-self-ge-MAX_READS-clause-bytes : goal.returns-then-self-ge-MAX_READS-clause-bytes
returns-then-self-ge-MAX_READS-clause-bytes g c names =
    let a = c.args.self.now in faults_spent (with_borrows names (source g.R.CountedRead.seen c.args.reader.now a)) (none_waits a.at a.end a.piece c.requires.over) c.if-self-ge-MAX_READS.true
