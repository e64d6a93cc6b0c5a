use Rattle.std.proofs.Common.{Some, None, Ok, [], arith}
use Rattle.std.proofs.lemmas.Result.{err_from_is_err_and}
use Rattle.sat_hints.specs.inner.Holding.{ChecksNextChunk}
use Rattle.sat_hints.proofs.lemmas.Chunks.{still_read, reads_none_yet, goes_on, verdict_enough, err_enough, err_stops, limit_enough, limit_stops}
use Rattle.sat_hints.proofs.checking.Checking.check_text.Goals as goal

pub loop-init : goal.loop-init
loop-init g c =
    let f = c.first_room-most.ensures in
    record {
      ready = rw f.checker c.requires.ready;
      room = f.room;
      least = f.least;
      most = f.most;
      reads = reads_none_yet (g.R.CountedRead.seen c.args.text.now) c.first_room-most.new.self (still_read c.args.self.now c.first_room-most.new.self [] f.checker f.place f.held c.requires.fresh);
    }

pub loop-preserved : goal.loop-preserved
loop-preserved g c =
    let S = g.R.CountedRead.seen in
    let i = c.loop.invariant in
    let t : ChecksNextChunk (Ok None) (S c.loop.text) (S c.check_next.new.text) c.loop.self c.check_next.new.self = rw c.in-None.is at c.in_ok-verdict.ensures.checks in
    let k = goes_on (S c.args.text.now) (S c.loop.text) (S c.check_next.new.text) c.loop.self c.loop.counter i.reads c.check_next.ensures.calls c.check_next.new.self t in
    record { ready = k.ready; room = k.room; least = omega arith; most = omega arith; reads = k.reads }

pub returns-in_err-verdict-clause-given : goal.returns-in_err-verdict-clause-given
returns-in_err-verdict-clause-given g c =
    let S = g.R.CountedRead.seen in
    let p = err_from_is_err_and c.from_residual.result c.from_residual.ensures.1 in
    rw (p.1, p.2) (err_enough (S c.args.text.now) (S c.loop.text) (S c.check_next.new.text) c.loop.self c.loop.counter c.loop.invariant.reads c.check_next.ensures.calls c.check_next.new.self c.in_err-verdict.field-0.0 c.in_err-verdict.ensures.checks)

pub returns-in_err-verdict-clause-stops : goal.returns-in_err-verdict-clause-stops
returns-in_err-verdict-clause-stops g c =
    let S = g.R.CountedRead.seen in
    let p = err_from_is_err_and c.from_residual.result c.from_residual.ensures.1 in
    rw (p.1, p.2) (err_stops (S c.args.text.now) (S c.loop.text) (S c.check_next.new.text) c.loop.self c.loop.counter c.loop.invariant.reads c.check_next.ensures.calls c.check_next.new.self c.in_err-verdict.field-0.0 c.in_err-verdict.ensures.checks)

pub returns-in-Some-clause-given : goal.returns-in-Some-clause-given
returns-in-Some-clause-given g c =
    let S = g.R.CountedRead.seen in
    let t : ChecksNextChunk (Ok (Some c.in-Some.verdict)) (S c.loop.text) (S c.check_next.new.text) c.loop.self c.check_next.new.self = rw c.in-Some.is at c.in_ok-verdict.ensures.checks in
    verdict_enough (S c.args.text.now) (S c.loop.text) (S c.check_next.new.text) c.loop.self c.loop.counter c.loop.invariant.reads c.check_next.ensures.calls c.in-Some.verdict t

pub returns-clause-given : goal.returns-clause-given
returns-clause-given g c = let S = g.R.CountedRead.seen in limit_enough (S c.args.text.now) (S c.loop.text) c.loop.self c.loop.counter c.loop.invariant.reads (omega arith)

pub returns-clause-stops : goal.returns-clause-stops
returns-clause-stops g c = let S = g.R.CountedRead.seen in limit_stops (S c.args.text.now) (S c.loop.text) c.loop.self c.loop.counter c.loop.invariant.reads (omega arith)
