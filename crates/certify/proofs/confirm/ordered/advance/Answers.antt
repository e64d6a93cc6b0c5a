use Rattle.std.proofs.Common.{arith}
use Rattle.std.proofs.lemmas.Grind.{common_steps}
use Rattle.std.proofs.Common.{refl, true, false}
use Rattle.std.proofs.lemmas.Result.{err_from_is_err_and}
use Rattle.sat_checker.specs.CheckerView.{kernel_of}
use Rattle.certify.specs.confirm.Streams.{stream_of}
use Rattle.certify.proofs.lemmas.confirm.StepTags.{ordered_by_tag}
use Rattle.certify.proofs.lemmas.confirm.Awaiting.{steps_none, steps_step, steps_passed, steps_refused}
use Rattle.certify.proofs.confirm.ordered.advance.Goals as goal

pub returns-in_err-read_next : goal.returns-in_err-read_next
returns-in_err-read_next g c = grind (arith, common_steps, err_from_is_err_and, steps_none)

pub returns-then-is_ordered : goal.returns-then-is_ordered
returns-then-is_ordered g c =
    let S = g.R.CountedRead.seen in
    let old = kernel_of c.args.checker.now in
    record {
      same = c.read_next.ensures.same;
      bound = c.read_next.ensures.bound;
      goes_on = c.in_ok-read_next.ensures.goes_on;
      takes = tt;
      confirms = λ names. steps_step names (stream_of S c.args.steps.now old) c.unsat.result c.unsat.ensures (stream_of S c.read_next.new.steps old) c.requires.open_yet c.if-unsat.false
          (c.in_ok-read_next.ensures.reads old) refl (ordered_by_tag _ c.tag.result c.is_ordered.result true c.tag.ensures c.is_ordered.ensures c.if-is_ordered.true);
    }

pub returns-in_err-feed : goal.returns-in_err-feed
returns-in_err-feed g c =
    let S = g.R.CountedRead.seen in
    let old = kernel_of c.args.checker.now in
    let p = err_from_is_err_and c.from_residual-in_err-feed.result c.from_residual-in_err-feed.ensures.1 in
    record {
      same = c.read_next.ensures.same;
      bound = c.read_next.ensures.bound;
      goes_on = rw p.1 tt;
      takes = rw p.1 tt;
      confirms = λ names. rw (p.1, p.2) (steps_refused names (stream_of S c.args.steps.now old) c.unsat.result c.unsat.ensures (stream_of S c.read_next.new.steps old) c.requires.open_yet c.if-unsat.false
          (c.in_ok-read_next.ensures.reads old) refl c.in_err-feed.field-0.0 (kernel_of c.feed.new.checker) (ordered_by_tag _ c.tag.result c.is_ordered.result false c.tag.ensures c.is_ordered.ensures c.if-is_ordered.false)
          (rw c.step-step.ensures at c.in_err-feed.ensures.feeds) (rw c.step-step.ensures at c.in_err-feed.ensures.looks));
    }

pub returns : goal.returns
returns g c =
    let S = g.R.CountedRead.seen in
    let old = kernel_of c.args.checker.now in
    record {
      same = c.read_next.ensures.same;
      bound = c.read_next.ensures.bound;
      goes_on = c.in_ok-read_next.ensures.goes_on;
      takes = c.in_ok-read_next.ensures.takes;
      confirms = λ names. steps_passed names (stream_of S c.args.steps.now old) c.unsat.result c.unsat.ensures (stream_of S c.read_next.new.steps old) c.requires.open_yet c.if-unsat.false
          (c.in_ok-read_next.ensures.reads old) refl (kernel_of c.feed.new.checker) (ordered_by_tag _ c.tag.result c.is_ordered.result false c.tag.ensures c.is_ordered.ensures c.if-is_ordered.false)
          (rw c.step-step.ensures at c.in_ok-feed.ensures.feeds) (rw c.step-step.ensures at c.in_ok-feed.ensures.looks);
    }
