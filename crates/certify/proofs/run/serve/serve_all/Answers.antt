use Rattle.std.proofs.Common.{true}
use Rattle.std.proofs.lemmas.Result.{err_from_is_err_and}
use Rattle.sat_base.specs.script.Language.{plain_reading, reading}
use Rattle.sat_base.specs.script.ScriptState.{initial_state}
use Rattle.certify.specs.script.LastPiece.{source_in}
use Rattle.certify.proofs.lemmas.confirm.Streams.{passes_fewer}
use Rattle.certify.proofs.lemmas.confirm.Joining.{took_open}
use Rattle.certify.proofs.lemmas.run.ServedThrough.{ends_last, ends_so, one_more, stops, through_none, unread}
use Rattle.certify.proofs.lemmas.script.LastChunks.{keeps_any, valid_account}
use Rattle.certify.proofs.run.serve.serve_all.Goals as goal

pub loop-next-init : goal.loop-next-init
loop-next-init g c =
    let a = source_in g.S.CountedRead.seen c.args.script.now c.args.stream.now.ahead in
    record {
      script_open = c.requires.open_yet;
      through = through_none initial_state reading plain_reading a c.args.stream.now.reader c.args.session.now (g.A.CountedWrite.seen c.args.answers.now) c.requires.means c.requires.counts c.requires.goes_on c.requires.at;
      stops = λ start h. h;
    }

pub returns-in-Err-clause-serves : goal.returns-in-Err-clause-serves
returns-in-Err-clause-serves g c =
    rw c.script_read_fault.ensures (unread _ _ _ _ _ _ c.next.new.self.reader _ _ _ _ c.loop-next.invariant.through c.requires.open_yet c.in-Err.error (source_in g.S.CountedRead.seen c.next.new.script c.next.new.self.ahead) c.in-Err.ensures.arrives)

pub serve_next-requires-clause-whole : goal.serve_next-requires-clause-whole
serve_next-requires-clause-whole g c =
    let k = (rw c.in-Command.is at c.in-Ok.ensures.arrives).3 true c.loop-next.invariant.through.left c.loop-next.invariant.through.means in
    (k.command, c.command.ensures k.command k.whole)

pub returns-in_err-serve_next-in-Command-clause-serves : goal.returns-in_err-serve_next-in-Command-clause-serves
returns-in_err-serve_next-in-Command-clause-serves g c =
    let p = err_from_is_err_and c.from_residual.result c.from_residual.ensures.1 in
    rw (p.1, p.2) (stops _ _ _ _ _ _ c.next.new.self.reader _ _ _ _ c.loop-next.invariant.through c.requires.open_yet
    (source_in g.S.CountedRead.seen c.next.new.script c.next.new.self.ahead) c.serve_next.new.session (g.A.CountedWrite.seen c.serve_next.new.answers) (rw c.in-Command.is at c.in-Ok.ensures.arrives) c.in_err-serve_next-in-Command.field-0.0
    c.in_err-serve_next-in-Command.ensures.written (λ x is. c.in_err-serve_next-in-Command.ensures.stops x (c.command.ensures x is)) (λ x is. c.in_err-serve_next-in-Command.ensures.cause x (c.command.ensures x is)))

pub loop-next-preserved : goal.loop-next-preserved
loop-next-preserved g c =
    let l = c.loop-next in
    let d = source_in g.S.CountedRead.seen c.next.new.script c.next.new.self.ahead in
    let came = rw c.in-Command.is at c.in-Ok.ensures.arrives in
    record {
      script_open = took_open (source_in g.S.CountedRead.seen l.script l.stream.ahead) d l.invariant.script_open (came.0, came.1);
      through = one_more _ _ _ _ _ _ c.next.new.self.reader _ _ _ _ l.invariant.through c.requires.open_yet d c.serve_next.new.session (g.A.CountedWrite.seen c.serve_next.new.answers) came (λ x is. c.in_ok-serve_next-in-Command.ensures.served x (c.command.ensures x is));
      stops = λ start h. rw c.in-Command.is at (c.in-Ok.ensures.stops start (l.invariant.stops start h));
    }

pub loop-next-smaller : goal.loop-next-smaller
loop-next-smaller g c =
    let S = g.S.CountedRead.seen in
    let came = rw c.in-Command.is at c.in-Ok.ensures.arrives in
    passes_fewer (source_in S c.loop-next.script c.loop-next.stream.ahead) (source_in S c.next.new.script c.next.new.self.ahead) came.0 c.next.new.self.ahead.bounded came.1 came.2

pub serve_last-requires-clause-whole : goal.serve_last-requires-clause-whole
serve_last-requires-clause-whole g c =
    let k = (rw c.in-Last.is at c.in-Ok.ensures.arrives).2 true c.loop-next.invariant.through.left c.loop-next.invariant.through.means in
    (k.0, c.command-in-Last.ensures k.0 k.1)

pub returns-in-Last-clause-serves : goal.returns-in-Last-clause-serves
returns-in-Last-clause-serves g c =
    ends_last _ _ _ _ _ _ c.next.new.self.reader _ _ _ _ c.loop-next.invariant.through c.requires.open_yet (source_in g.S.CountedRead.seen c.next.new.script c.next.new.self.ahead) c.serve_last.new.session (g.A.CountedWrite.seen c.serve_last.new.answers)
    c.in-Last.end c.serve_last.result (rw c.in-Last.is at c.in-Ok.ensures.arrives) c.serve_last.ensures.ready (λ x is. c.serve_last.ensures.serves x (c.command-in-Last.ensures x is)) c.serve_last.ensures.written
    (λ x is. c.serve_last.ensures.stops x (c.command-in-Last.ensures x is)) (λ x is. c.serve_last.ensures.cause x (c.command-in-Last.ensures x is))

pub returns-in-End-clause-serves : goal.returns-in-End-clause-serves
returns-in-End-clause-serves g c =
    ends_so _ _ _ _ _ _ c.next.new.self.reader _ _ _ _ c.loop-next.invariant.through c.requires.open_yet (source_in g.S.CountedRead.seen c.next.new.script c.next.new.self.ahead) c.serve_end.new.session (g.A.CountedWrite.seen c.serve_end.new.answers)
    c.in-End.end c.serve_end.result (rw c.in-End.is at c.in-Ok.ensures.arrives) c.serve_end.ensures.ready c.serve_end.ensures.serves c.serve_end.ensures.written c.serve_end.ensures.stops c.serve_end.ensures.cause

pub returns-in-Err-clause-stops : goal.returns-in-Err-clause-stops
returns-in-Err-clause-stops g c start h = c.in-Err.ensures.stops start (c.loop-next.invariant.stops start h)

pub returns-in_err-serve_next-in-Command-clause-stops : goal.returns-in_err-serve_next-in-Command-clause-stops
returns-in_err-serve_next-in-Command-clause-stops g c =
    let S = g.S.CountedRead.seen in
    keeps_any c.from_residual.result (source_in S c.args.script.now c.args.stream.now.ahead) (source_in S c.next.new.script c.next.new.self.ahead) c.args.stream.now.reader c.next.new.self.reader (λ start h. valid_account start (source_in S c.next.new.script c.next.new.self.ahead) c.next.new.self.reader (rw c.in-Command.is at (c.in-Ok.ensures.stops start (c.loop-next.invariant.stops start h))))

pub returns-in-Last-clause-stops : goal.returns-in-Last-clause-stops
returns-in-Last-clause-stops g c =
    let S = g.S.CountedRead.seen in
    keeps_any c.serve_last.result (source_in S c.args.script.now c.args.stream.now.ahead) (source_in S c.next.new.script c.next.new.self.ahead) c.args.stream.now.reader c.next.new.self.reader (λ start h. rw c.in-Last.is at (c.in-Ok.ensures.stops start (c.loop-next.invariant.stops start h)))

pub returns-in-End-clause-stops : goal.returns-in-End-clause-stops
returns-in-End-clause-stops g c =
    let S = g.S.CountedRead.seen in
    keeps_any c.serve_end.result (source_in S c.args.script.now c.args.stream.now.ahead) (source_in S c.next.new.script c.next.new.self.ahead) c.args.stream.now.reader c.next.new.self.reader (λ start h. rw c.in-End.is at (c.in-Ok.ensures.stops start (c.loop-next.invariant.stops start h)))
