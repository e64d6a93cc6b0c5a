use Rattle.std.proofs.lemmas.Result.{err_from_is_err_and}
use Rattle.sat_checker.specs.CheckerView.{kernel_of}
use Rattle.certify.specs.confirm.Streams.{stream_of}
use Rattle.certify.proofs.lemmas.confirm.Awaiting.{settled_goes, settled_stops}
use Rattle.certify.proofs.confirm.ordered.await_ordered.Goals as goal

pub returns-in_err-settle-clause-confirms : goal.returns-in_err-settle-clause-confirms
returns-in_err-settle-clause-confirms g c names =
    let S = g.R.CountedRead.seen in
    let p = err_from_is_err_and c.from_residual-in_err-settle.result c.from_residual-in_err-settle.ensures.1 in
    rw (p.1, p.2) (settled_stops names (stream_of S c.args.steps.now (kernel_of c.args.checker.now)) (stream_of S c.find_ordered.new.steps (kernel_of c.find_ordered.new.checker)) c.in_ok-awaited.awaited (c.in_ok-awaited.ensures.confirms names) (kernel_of c.settle.new.checker) c.in_err-settle.field-0.0 c.requires.open_yet c.in_err-settle.ensures)

pub returns-clause-confirms : goal.returns-clause-confirms
returns-clause-confirms g c names =
    let S = g.R.CountedRead.seen in
    settled_goes names (stream_of S c.args.steps.now (kernel_of c.args.checker.now)) (stream_of S c.find_ordered.new.steps (kernel_of c.find_ordered.new.checker)) c.in_ok-awaited.awaited (c.in_ok-awaited.ensures.confirms names) (kernel_of c.settle.new.checker) c.in_ok-settle.ensures
