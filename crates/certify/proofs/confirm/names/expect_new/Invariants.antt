use Rattle.std.proofs.Common.{◌≡◌, ◌+◌, Ok}
use Rattle.sat_base.specs.steps.StepReading.{reader_borrow}
use Rattle.sat_checker.specs.CheckerView.{kernel_of}
use Rattle.certify.specs.confirm.Streams.{CertificateCall, StepsGoOn, stream_of}
use Rattle.certify.specs.confirm.Naming.{MeetsAll}
use Rattle.certify.proofs.lemmas.confirm.Naming.{news}
use Rattle.certify.proofs.confirm.names.expect_new.Given as goal

abbrev pub invariant-loop-done : goal.invariant-loop-done
invariant-loop-done g l = record {
  same : reader_borrow l.steps ≡ reader_borrow l.fn.steps;
  goes_on : StepsGoOn g.R.CountedRead.seen l.steps;
  met : CertificateCall (Ok tt) (stream_of g.R.CountedRead.seen l.fn.steps (kernel_of l.fn.certificate.checker)) (stream_of g.R.CountedRead.seen l.steps (kernel_of l.certificate.checker)) (MeetsAll (news l.done (l.new.first + 1)) l.fn.certificate.names l.certificate.names);
}
