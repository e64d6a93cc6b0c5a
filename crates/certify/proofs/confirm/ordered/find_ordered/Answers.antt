use Rattle.std.proofs.Common.{Ok, ◌∙◌, subst}
use Rattle.std.proofs.lemmas.Result.{err_from_is_err_and}
use Rattle.sat_checker.specs.CheckerView.{kernel_of}
use Rattle.certify.specs.confirm.Stepping.{is_fed_so_far}
use Rattle.certify.specs.confirm.Awaiting.{AwaitsByOneStep}
use Rattle.certify.specs.confirm.Streams.{CallReturns, stream_of}
use Rattle.certify.proofs.lemmas.confirm.Awaiting.{rounds_more, rounds_end, rounds_stop}
use Rattle.certify.proofs.confirm.ordered.find_ordered.Goals as goal

pub returns-in_err-awaited-clause-confirms : goal.returns-in_err-awaited-clause-confirms
returns-in_err-awaited-clause-confirms g c names =
    let S = g.R.CountedRead.seen in
    let p = err_from_is_err_and c.from_residual.result c.from_residual.ensures.1 in
    rw (p.1, p.2) (rounds_stop names (stream_of S c.args.steps.now (kernel_of c.args.checker.now)) (stream_of S c.loop-awaited.steps (kernel_of c.loop-awaited.checker)) (stream_of S c.advance.new.steps (kernel_of c.advance.new.checker)) c.requires.open_yet (c.loop-awaited.invariant.passed names)
    c.in_err-awaited.field-0.0 (c.in_err-awaited.ensures.confirms names))

pub returns-in-Some-clause-confirms : goal.returns-in-Some-clause-confirms
returns-in-Some-clause-confirms g c names =
    let S = g.R.CountedRead.seen in
    let b = stream_of S c.loop-awaited.steps (kernel_of c.loop-awaited.checker) in
    let d = stream_of S c.advance.new.steps (kernel_of c.advance.new.checker) in
    rounds_end names (stream_of S c.args.steps.now (kernel_of c.args.checker.now)) b d c.requires.open_yet (c.loop-awaited.invariant.passed names) c.in-Some.awaited
    (subst (λ x. CallReturns is_fed_so_far (Ok x) b d (AwaitsByOneStep names)) c.in-Some.is (c.in_ok-awaited.ensures.confirms names))

pub loop-awaited-preserved : goal.loop-awaited-preserved
loop-awaited-preserved g c =
    let S = g.R.CountedRead.seen in
    let b = stream_of S c.loop-awaited.steps (kernel_of c.loop-awaited.checker) in
    let d = stream_of S c.advance.new.steps (kernel_of c.advance.new.checker) in
    record {
      same = c.in_ok-awaited.ensures.same ∙ c.loop-awaited.invariant.same;
      goes_on = c.in_ok-awaited.ensures.goes_on;
      passed = λ names. rounds_more names (stream_of S c.args.steps.now (kernel_of c.args.checker.now)) b d c.requires.open_yet (c.loop-awaited.invariant.passed names) (subst (λ x. CallReturns is_fed_so_far (Ok x) b d (AwaitsByOneStep names)) c.in_default.is (c.in_ok-awaited.ensures.confirms names));
    }
