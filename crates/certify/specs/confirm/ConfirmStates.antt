-- The effect of calls that confirm a command on the answers and the certificate.
use Rattle.std.specs.Prelude.{ℕ, ◌≡◌, ◌≤◌, Bool, List, Result, OnOk}
use Rattle.sat_base.specs.declared.steps.reader.Buffers.{Buffers}
use Rattle.sat_base.specs.declared.steps.reader.StepReader.{StepReader}
use Rattle.sat_base.specs.device.Device.{Reader, max_reads}
use Rattle.sat_base.specs.device.Reading.{Source}
use Rattle.sat_base.specs.steps.StepReading.{reader_borrow, reader_source}
use Rattle.sat_checker.specs.CheckerView.{kernel_of}
use Rattle.certify.specs.confirm.Streams.{StepsGoOn, Stream, stream_of}
use Rattle.certify.specs.confirm.CertificateStates.{CertificateState}
use Rattle.certify.specs.confirm.CallResults.{AnswersAndCertificateCall}
use Rattle.certify.specs.confirm.Lines.{answers_source}
use Rattle.certify.specs.declared.confirm.stop.Stop.{Stop}
use Rattle.certify.specs.declared.confirm.names.Matching.{Matching}
use Rattle.certify.specs.declared.confirm.commands.ConfirmState.{ConfirmState}
use Rattle.certify.specs.declared.verdict.Why.{Why}

-- the answers' reader, and the bytes read ahead from it
abbrev pub answers_source_in : {A : Type 0} → (A → Reader) → A → ConfirmState → Source
answers_source_in seen answers s = answers_source seen answers s.answers

-- the stream of a certificate: what its reader of steps has read, and the checker that is fed these steps
abbrev pub stream_in : {C : Type 0} → (C → Reader) → StepReader C Buffers → Matching → Stream
stream_in seen steps m = stream_of seen steps (kernel_of m.certificate.checker)

-- `CommandCall M goes result seen steps_seen old_answers new_answers old new before after P` holds if `P` says what the
-- result of a call that confirms a command means for answers and certificate (`AnswersAndCertificateCall`). The
-- certificate's reader stays the same borrow and, after `Ok`, can be read further. With `TooMany`, `M` holds.
pub record CommandCall {A C T : Type 0} (M : Type 0) (goes : Bool) (result : Result T Stop)
    (seen : A → Reader) (steps_seen : C → Reader) (old_answers new_answers : A)
    (old new : StepReader C Buffers) (before after : ConfirmState) (P : List ℕ → List ℕ → CertificateState → CertificateState → Result T Why → Type 0) : Type 0 where
  pub same : reader_borrow new ≡ reader_borrow old
  pub bound : (reader_source steps_seen new).reads ≤ max_reads
  pub goes_on : OnOk result (StepsGoOn steps_seen new)
  pub joins : AnswersAndCertificateCall M goes result (answers_source_in seen old_answers before) (answers_source_in seen new_answers after)
      (stream_in steps_seen old before.matching) (stream_in steps_seen new after.matching) P
