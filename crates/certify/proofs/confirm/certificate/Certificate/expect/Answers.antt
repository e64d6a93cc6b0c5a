use Rattle.std.proofs.Common.{arith}
use Rattle.std.proofs.lemmas.Grind.{common_steps}
use Rattle.std.proofs.lemmas.Result.{err_from_is_err_and}
use Rattle.sat_base.specs.steps.StepViews.{step_of}
use Rattle.sat_checker.specs.CheckerView.{kernel_of}
use Rattle.certify.specs.confirm.Streams.{Stream, stream_of}
use Rattle.certify.specs.confirm.Comparing.{due_of}
use Rattle.certify.proofs.lemmas.confirm.Met.{expects_stop, expects_cut, expects_short, expects_unfit, expects_refused, expects_crowded, expects_fed}
use Rattle.certify.proofs.confirm.certificate.Certificate.expect.Given.{Over}
use Rattle.certify.proofs.confirm.certificate.Certificate.expect.Goals as goal
use Rattle.certify.proofs.confirm.certificate.Certificate.expect.Goals.{After-await_ordered}

-- the certificate as the next ordered step is awaited, and then
module _ (g : Over) (c : After-await_ordered g) where
  abbrev old : Stream
  old = stream_of g.R.CountedRead.seen c.args.steps.now (kernel_of c.args.self.now.checker)

  abbrev new : Stream
  new = stream_of g.R.CountedRead.seen c.await_ordered.new.steps (kernel_of c.await_ordered.new.checker)

pub returns-in_err-await_ordered-clause-confirms : goal.returns-in_err-await_ordered-clause-confirms
returns-in_err-await_ordered-clause-confirms g c = grind (arith, common_steps, err_from_is_err_and, expects_stop)

pub returns-in-Cut-clause-confirms : goal.returns-in-Cut-clause-confirms
returns-in-Cut-clause-confirms g c =
    let x = (goal.at.returns-in-Cut-clause-confirms g c).After-await_ordered in
    let names = c.args.self.now.names in
    expects_cut (due_of c.args.expected.now) names (old g x) (new g x) c.requires.open_yet c.require_optional.result (rw c.in-Cut.is at (c.in_ok-await_ordered.ensures.confirms names)) c.require_optional.ensures

pub returns-in_err-why-clause-confirms : goal.returns-in_err-why-clause-confirms
returns-in_err-why-clause-confirms g c =
    let x = (goal.at.returns-in_err-why-clause-confirms g c).After-await_ordered in
    let names = c.args.self.now.names in
    let p = err_from_is_err_and c.from_residual-in_err-why.result c.from_residual-in_err-why.ensures.1 in
    rw (p.1, p.2) (expects_short (due_of c.args.expected.now) names names (old g x) (new g x) c.requires.open_yet (rw c.in-Step.is at (c.in_ok-await_ordered.ensures.confirms names)))

pub returns-in-Some-clause-confirms : goal.returns-in-Some-clause-confirms
returns-in-Some-clause-confirms g c =
    let x = (goal.at.returns-in-Some-clause-confirms g c).After-await_ordered in
    let names = c.args.self.now.names in
    let step = rw c.in-Step.is at (c.in_ok-await_ordered.ensures.confirms names) in
    let unfit = rw c.in-Some.is at c.in_ok-why.ensures in
    expects_unfit (due_of c.args.expected.now) names names (old g x) (new g x) c.requires.open_yet (step_of c.step-step.result) c.step-step.ensures step _ (λ earlier s. record { valid = s.taken.valid; goes_on = s.taken.goes_on; named = s.stand.named }) c.in-Some.why unfit

pub returns-in_err-feed-clause-confirms : goal.returns-in_err-feed-clause-confirms
returns-in_err-feed-clause-confirms g c =
    let x = (goal.at.returns-in_err-feed-clause-confirms g c).After-await_ordered in
    let names = c.args.self.now.names in
    let step = rw c.in-Step.is at (c.in_ok-await_ordered.ensures.confirms names) in
    let p = err_from_is_err_and c.from_residual-in_err-feed.result c.from_residual-in_err-feed.ensures.1 in
    rw (p.1, p.2) (expects_refused (due_of c.args.expected.now) names names (old g x) (new g x) c.requires.open_yet (step_of c.step-step.result) c.step-step.ensures step c.in_err-feed.field-0.0 (kernel_of c.feed.new.checker) c.in_err-feed.ensures.feeds c.in_err-feed.ensures.looks)

pub returns-in_err-follow-clause-confirms : goal.returns-in_err-follow-clause-confirms
returns-in_err-follow-clause-confirms g c =
    let x = (goal.at.returns-in_err-follow-clause-confirms g c).After-await_ordered in
    let names = c.args.self.now.names in
    let step = rw c.in-Step.is at (c.in_ok-await_ordered.ensures.confirms names) in
    let p = err_from_is_err_and c.from_residual-in_err-follow.result c.from_residual-in_err-follow.ensures.1 in
    rw (p.1, p.2) (expects_crowded (due_of c.args.expected.now) names c.follow.new.variables (old g x) (new g x) c.requires.open_yet (step_of c.step-step.result) c.step-step.ensures step (kernel_of c.feed.new.checker) c.in_ok-feed.ensures.feeds c.in_ok-feed.ensures.looks)

pub returns-clause-confirms : goal.returns-clause-confirms
returns-clause-confirms g c =
    let x = (goal.at.returns-clause-confirms g c).After-await_ordered in
    let names = c.args.self.now.names in
    let step = rw c.in-Step.is at (c.in_ok-await_ordered.ensures.confirms names) in
    let fit = rw c.in_default.is at c.in_ok-why.ensures in
    expects_fed (due_of c.args.expected.now) names c.follow.new.variables (old g x) (new g x) c.requires.open_yet (step_of c.step-step.result) c.step-step.ensures step _ (λ earlier s. record { valid = s.taken.valid; goes_on = s.taken.goes_on; named = s.stand.named })
    (kernel_of c.feed.new.checker) c.in_ok-feed.ensures.feeds c.in_ok-feed.ensures.looks fit c.in_ok-follow.ensures
