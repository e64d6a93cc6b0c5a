use Rattle.std.proofs.Common.{◌≡◌, ◌+◌, Ok, subst, ◌∙◌, arith}
use Rattle.std.proofs.lemmas.Result.{err_from_is_err_and}
use Rattle.sat_checker.specs.CheckerView.{kernel_of}
use Rattle.certify.specs.confirm.Streams.{CertificateCall, stream_of}
use Rattle.certify.specs.confirm.Naming.{MeetsAll}
use Rattle.certify.proofs.lemmas.confirm.Naming.{new_more, new_stop, news}
use Rattle.certify.proofs.confirm.names.expect_new.Goals as goal

pub returns-in_err-expect-clause-confirms : goal.returns-in_err-expect-clause-confirms
returns-in_err-expect-clause-confirms g c =
    let S = g.R.CountedRead.seen in
    let name : c.from_index-name.result + 1 ≡ c.args.new.first + 1 + c.loop-done.done = omega (arith, c.from_index-name.ensures) in
    let p = err_from_is_err_and c.from_residual.result c.from_residual.ensures.1 in
    rw (p.1, p.2) (new_stop c.args.new.count (c.args.new.first + 1) c.loop-done.done (c.from_index-name.result + 1) c.loop-done-test.true name c.args.certificate.now.names c.loop-done.certificate.names c.expect.new.self.names
    (stream_of S c.args.steps.now (kernel_of c.args.certificate.now.checker)) (stream_of S c.loop-done.steps (kernel_of c.loop-done.certificate.checker)) (stream_of S c.expect.new.steps (kernel_of c.expect.new.self.checker))
    c.requires.goes_on.open_yet c.loop-done.invariant.met c.in_err-expect.field-0.0 c.in_err-expect.ensures.confirms)

pub loop-done-preserved : goal.loop-done-preserved
loop-done-preserved g c =
    let S = g.R.CountedRead.seen in
    let name : c.from_index-name.result + 1 ≡ c.args.new.first + 1 + c.loop-done.done = omega (arith, c.from_index-name.ensures) in
    record {
      same = c.in_ok-expect.ensures.same ∙ c.loop-done.invariant.same;
      goes_on = c.in_ok-expect.ensures.goes_on;
      met = new_more c.args.new.count (c.args.new.first + 1) c.loop-done.done (c.from_index-name.result + 1) c.loop-done-test.true name c.args.certificate.now.names c.loop-done.certificate.names c.expect.new.self.names
          (stream_of S c.args.steps.now (kernel_of c.args.certificate.now.checker)) (stream_of S c.loop-done.steps (kernel_of c.loop-done.certificate.checker)) (stream_of S c.expect.new.steps (kernel_of c.expect.new.self.checker))
          c.requires.goes_on.open_yet c.loop-done.invariant.met c.in_ok-expect.ensures.confirms;
    }

pub returns-clause-confirms : goal.returns-clause-confirms
returns-clause-confirms g c =
    let S = g.R.CountedRead.seen in
    let all : c.loop-done.done ≡ c.args.new.count = omega arith in
    subst (λ n. CertificateCall (Ok tt) (stream_of S c.args.steps.now (kernel_of c.args.certificate.now.checker)) (stream_of S c.loop-done.steps (kernel_of c.loop-done.certificate.checker)) (MeetsAll (news n (c.args.new.first + 1)) c.args.certificate.now.names c.loop-done.certificate.names)) all c.loop-done.invariant.met
