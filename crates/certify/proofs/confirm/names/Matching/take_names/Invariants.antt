use Rattle.std.proofs.Common.{◌≡◌, Ok, take}
use Rattle.sat_base.specs.steps.StepReading.{reader_borrow}
use Rattle.sat_checker.specs.CheckerView.{kernel_of}
use Rattle.certify.specs.confirm.Streams.{CertificateCall, StepsGoOn, stream_of}
use Rattle.certify.specs.confirm.Naming.{MeetsNames}
use Rattle.certify.specs.script.Commands.{kind_of}
use Rattle.certify.proofs.lemmas.confirm.NamesMet.{SoFar, listed}
use Rattle.certify.proofs.confirm.names.Matching.take_names.Given as goal

abbrev pub invariant-loop-lit : goal.invariant-loop-lit
invariant-loop-lit g l = record {
  same : reader_borrow l.steps ≡ reader_borrow l.fn.steps;
  goes_on : StepsGoOn g.R.CountedRead.seen l.steps;
  taken : SoFar (kind_of l.kind) l.literals l.lit-index l.fn.self.names l.self.names;
  met : CertificateCall (Ok tt) (stream_of g.R.CountedRead.seen l.fn.steps (kernel_of l.fn.self.certificate.checker)) (stream_of g.R.CountedRead.seen l.steps (kernel_of l.self.certificate.checker))
      (MeetsNames (kind_of l.kind) (listed (take l.lit-index l.literals)) l.fn.self.names l.fn.self.certificate.names l.self.certificate.names);
}
