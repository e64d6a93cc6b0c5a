use Rattle.std.proofs.Common.{◌≡◌, Ok}
use Rattle.sat_base.specs.steps.StepReading.{reader_borrow, reader_source}
use Rattle.sat_checker.specs.CheckerView.{kernel_of}
use Rattle.certify.specs.declared.confirm.variables.NamedVars.{NamedVars}
use Rattle.certify.specs.confirm.Awaiting.{PassesUnordered}
use Rattle.certify.specs.confirm.Streams.{CertificateCall, StepsGoOn, most_bytes_left, stream_of}
use Rattle.certify.proofs.confirm.ordered.find_ordered.Given as goal

abbrev pub invariant-loop-awaited : goal.invariant-loop-awaited
invariant-loop-awaited g l = record {
  same : reader_borrow l.steps ≡ reader_borrow l.fn.steps;
  goes_on : StepsGoOn g.R.CountedRead.seen l.steps;
  passed : (names : NamedVars) → CertificateCall (Ok tt) (stream_of g.R.CountedRead.seen l.fn.steps (kernel_of l.fn.checker)) (stream_of g.R.CountedRead.seen l.steps (kernel_of l.checker)) (PassesUnordered names);
}

abbrev pub decreases-loop-awaited : goal.decreases-loop-awaited
decreases-loop-awaited g l = most_bytes_left (reader_source g.R.CountedRead.seen l.steps)
