use Rattle.std.proofs.Common.{[], refl}
use Rattle.sat_base.proofs.lemmas.device.Given.{not_ended}
use Rattle.sat_base.proofs.lemmas.device.ReadLemmas.{faults_now, faults_spent}
use Rattle.certify.specs.script.LastPiece.{source_in}
use Rattle.certify.proofs.script.ahead.LastPiece.refill.Goals as goal

pub returns-then-self-ge-MAX_READS-clause-bytes : goal.returns-then-self-ge-MAX_READS-clause-bytes
returns-then-self-ge-MAX_READS-clause-bytes g c = faults_spent (source_in g.R.CountedRead.seen c.args.reader.now c.args.self.now) c.requires c.if-self-ge-MAX_READS.true

pub returns-in-Err-clause-bytes : goal.returns-in-Err-clause-bytes
returns-in-Err-clause-bytes g c =
    let S = g.R.CountedRead.seen in
    faults_now _ (S c.args.reader.now) (S c.read_counted.new.self) _ _ c.read_counted.new.buf [] c.args.self.now.reads c.in-Err.ensures.once c.requires refl

pub returns-in-Ok-clause-last : goal.returns-in-Ok-clause-last
returns-in-Ok-clause-last g c some called =
    let S = g.R.CountedRead.seen in
    let once = c.in-Ok.ensures.once in
    (once.failures.1, not_ended (S c.args.reader.now) (S c.read_counted.new.self) c.in-Ok.count c.read_counted.new.buf once some)
