-- What a reader of steps reads.
use Rattle.std.proofs.Common.{false, Ok, Err, refl, sym, ◌∙◌}
use Rattle.sat_base.specs.declared.steps.error.StepError.{StepError}
use Rattle.sat_base.specs.declared.steps.reader.Buffers.{Buffers}
use Rattle.sat_base.specs.declared.steps.reader.StepReader.{StepReader}
use Rattle.sat_base.specs.device.Device.{Reader}
use Rattle.sat_base.specs.device.Reading.{AnswersStepRead}
use Rattle.sat_base.specs.steps.StepReading.{AdvanceEffect, reader_source, last_step_in}
use Rattle.certify.specs.confirm.Stepping.{ReadsOneStep}
use Rattle.certify.specs.confirm.Streams.{StepsGoOn, stream_of, CallReturns, CertificateCall, stop_for_step}
use Rattle.sat_checker.specs.declared.kernel.Kernel.{Kernel}
use Rattle.certify.proofs.lemmas.confirm.Streams.{answered, step_came, none_came}

module _ {R : Type 0} (seen : R → Reader) (old new : StepReader R Buffers) (goes_on : StepsGoOn seen old) where
  came : AdvanceEffect seen old new (Ok (last_step_in new)) → AnswersStepRead (Ok (last_step_in new)) (reader_source seen old) (reader_source seen new)
  came n = answered (Ok (last_step_in new)) (reader_source seen old) (reader_source seen new) (sym n.was ∙ goes_on.well) n.answer

  -- a step that the reader gives is read from the bytes
  pub read_one : AdvanceEffect seen old new (Ok (last_step_in new)) → (checker : Kernel) → CallReturns {A = Unit {0}} (λ x. false) (Ok tt) (stream_of seen old checker) (stream_of seen new checker) ReadsOneStep
  read_one n checker = step_came (last_step_in new) (stream_of seen old checker) (stream_of seen new checker) refl refl (came n)

  -- if the reader gives no step, the bytes begin with none, or the error says why
  pub read_none : (e : StepError) → AdvanceEffect seen old new (Err e) → (checker : Kernel) → CertificateCall {A = Unit {0}} (Err (stop_for_step e)) (stream_of seen old checker) (stream_of seen new checker) ReadsOneStep
  read_none e n checker = none_came e (stream_of seen old checker) (stream_of seen new checker) ReadsOneStep goes_on.open_yet refl
      (answered (Err e) (reader_source seen old) (reader_source seen new) (sym n.was ∙ goes_on.well) n.answer) (λ total why none. none)
