use Rattle.std.proofs.lemmas.Result.{err_from_is_err_and}
use Rattle.sat_base.specs.declared.device.whole.ReadError.{ReadError}
use Rattle.certify.specs.script.LastPiece.{source_in}
use Rattle.certify.proofs.lemmas.script.LastChunks.{reads_then_err, reads_then_next, reads_then_on}
use Rattle.certify.proofs.lemmas.script.Streaming.{arrives_then, brings_then, follows_more}
use Rattle.certify.proofs.script.stream.CommandStream.next.Goals as goal

pub returns-in_err-next : goal.returns-in_err-next
returns-in_err-next g c =
    let l = c.loop-next in
    let a = source_in g.S.CountedRead.seen c.args.script.now c.args.self.now.ahead in
    let b = source_in g.S.CountedRead.seen l.script l.self.ahead in
    let d = source_in g.S.CountedRead.seen c.advance.new.script c.advance.new.self.ahead in
    let p = err_from_is_err_and c.from_residual.result c.from_residual.ensures.1 in
    rw (p.1, p.2) (record {
      arrives = brings_then a b d c.args.self.now.reader l.self.reader c.advance.new.self.reader l.invariant.0 c.requires l.invariant.1 l.invariant.2 c.in_err-next.field-0.0 c.in_err-next.ensures.brings;
      stops = reads_then_err a b d c.args.self.now.reader l.self.reader c.advance.new.self.reader l.invariant.3 c.in_err-next.field-0.0 c.in_err-next.ensures.stops;
    })

pub returns-in-Some : goal.returns-in-Some
returns-in-Some g c =
    let l = c.loop-next in
    let a = source_in g.S.CountedRead.seen c.args.script.now c.args.self.now.ahead in
    let b = source_in g.S.CountedRead.seen l.script l.self.ahead in
    let d = source_in g.S.CountedRead.seen c.advance.new.script c.advance.new.self.ahead in
    record {
      arrives = arrives_then a b d c.args.self.now.reader l.self.reader c.advance.new.self.reader l.invariant.0 c.requires l.invariant.1 l.invariant.2 c.in-Some.next (rw c.in-Some.is at c.in_ok-next.ensures.brings);
      stops = reads_then_next a b d c.args.self.now.reader l.self.reader c.advance.new.self.reader l.invariant.3 ReadError c.in-Some.next (rw c.in-Some.is at c.in_ok-next.ensures.stops);
    }

pub loop-next-preserved : goal.loop-next-preserved
loop-next-preserved g c =
    let l = c.loop-next in
    let a = source_in g.S.CountedRead.seen c.args.script.now c.args.self.now.ahead in
    let b = source_in g.S.CountedRead.seen l.script l.self.ahead in
    let d = source_in g.S.CountedRead.seen c.advance.new.script c.advance.new.self.ahead in
    let p = follows_more a b d c.args.self.now.reader l.self.reader c.advance.new.self.reader l.invariant.0 c.requires l.invariant.1 l.invariant.2 (rw c.in_default.is at c.in_ok-next.ensures.brings) in
    (p.0, p.1, p.2, reads_then_on a b d c.args.self.now.reader l.self.reader c.advance.new.self.reader l.invariant.3 ReadError (rw c.in_default.is at c.in_ok-next.ensures.stops))
