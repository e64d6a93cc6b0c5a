use Rattle.std.proofs.Common.{◌≡◌, ◌≤◌, false, List}
use Rattle.sat_base.specs.device.Device.{max_reads}
use Rattle.sat_base.specs.device.Reading.{AtEnd}
use Rattle.sat_base.specs.steps.Steps.{Step}
use Rattle.sat_base.specs.steps.StepReading.{reader_source, reader_borrow}
use Rattle.sat_base.specs.steps.StepReading.{has_reader_failed as is_stopped}
use Rattle.sat_checker.specs.CheckerView.{checker_has_failed, kernel_of, view_with, HasAccepted}
use Rattle.sat_checker.specs.KernelView.{kernel_looks}
use Rattle.sat_checker.specs.listeners.Receiving.{OwnReceivesFirst}
use Rattle.sat_checker.specs.listeners.ProcessingView.{EachListenerReceives}
use Rattle.sat_checker.specs.inner.ProofSteps.{CountsReads, AcceptsStepsBeforeEnd, at_source, bytes_left}
use Rattle.sat_checker.proofs.checker.Checker.check_steps.Given as goal

abbrev pub invariant-loop : goal.invariant-loop
invariant-loop g l = record {
  well : checker_has_failed (view_with l.own l.self) ≡ false;
  open_yet : is_stopped l.steps ≡ false;
  same : reader_borrow l.steps ≡ reader_borrow l.fn.steps;
  bound : (reader_source g.R.CountedRead.seen l.steps).reads ≤ max_reads;
  calls : CountsReads (reader_source g.R.CountedRead.seen l.fn.steps) (reader_source g.R.CountedRead.seen l.steps);
  unended : AtEnd (reader_source g.R.CountedRead.seen l.steps) → ⊥;
  rise : kernel_looks (kernel_of l.fn.self) ≤ kernel_looks (kernel_of l.self);
  passed : (before : _) (begun : _) (earlier : List Step) → HasAccepted (OwnReceivesFirst g.O.ProofProcessor.takes (EachListenerReceives g.P.ProofProcessor.takes g.T.ProofTranscriptProcessor.reads)) before begun (view_with l.fn.own l.fn.self) earlier
      → (steps : List Step) × AcceptsStepsBeforeEnd (OwnReceivesFirst g.O.ProofProcessor.takes (EachListenerReceives g.P.ProofProcessor.takes g.T.ProofTranscriptProcessor.reads)) before begun (at_source (view_with l.fn.own l.fn.self) (reader_source g.R.CountedRead.seen l.fn.steps)) (at_source (view_with l.own l.self) (reader_source g.R.CountedRead.seen l.steps)) earlier steps;
}

abbrev pub decreases-loop : goal.decreases-loop
decreases-loop g l = bytes_left (reader_source g.R.CountedRead.seen l.steps)
