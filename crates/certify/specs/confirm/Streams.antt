-- A certificate that is read step by step, whatever bytes could follow.
use Rattle.std.specs.Prelude.{◌≡◌, ◌+◌, ◌-◌, ◌*◌, ◌≤◌, ℕ, Bool, true, false, List, [], ◌++◌, drop, length, Result, Ok, Err, OnOk}
use Rattle.std.specs.Io.KnownBytes.{IsAtEnd}
use Rattle.sat_base.specs.declared.steps.error.StepError.{StepError}
use Rattle.sat_base.specs.declared.steps.error.StepError.TheVariants as errors
use Rattle.sat_base.specs.device.Reading.{Source, AtEnd, ConsumesWithReads, ConsumesBytes, ConsumesAndFails}
use Rattle.sat_base.specs.declared.steps.reader.Buffers.{Buffers}
use Rattle.sat_base.specs.declared.steps.reader.StepReader.{StepReader}
use Rattle.sat_base.specs.device.Device.{Reader, max_reads, max_read_size}
use Rattle.sat_base.specs.steps.StepReading.{reader_borrow, reader_source, has_reader_failed, last_step_in}
use Rattle.sat_base.specs.steps.Steps.{Step}
use Rattle.certify.specs.confirm.CertificateStates.{CertificateState}
use Rattle.certify.specs.confirm.FedSteps.{FeedsLastIf, FeedsSomeSteps, LeadsToCounterEnd}
use Rattle.sat_checker.specs.declared.kernel.Kernel.{Kernel}
use Rattle.certify.specs.declared.confirm.stop.Stop.{Stop}
use Rattle.certify.specs.declared.confirm.stop.Stop.TheVariants as stop
use Rattle.certify.specs.declared.verdict.Why.{Why}
use Rattle.certify.specs.declared.verdict.Why.TheVariants.{CertificateEnds, StepRefused}

-- a certificate that is read: the source of its steps, the checker that is fed them, and the step that was read last
pub record Stream : Type 0 where
  pub source : Source
  pub checker : Kernel
  pub step : Step

-- the stream of a reader of steps and the checker that is fed the steps
abbrev pub stream_of : {R : Type 0} → (R → Reader) → StepReader R Buffers → Kernel → Stream
stream_of seen r checker = record { source = reader_source seen r; checker = checker; step = last_step_in r }

-- `StepsGoOn seen r` holds if the reader of steps can be read further: it has not failed, is not at its end, and was
-- read at most `max_reads` times.
pub record StepsGoOn {R : Type 0} (seen : R → Reader) (r : StepReader R Buffers) : Type 0 where
  pub well : has_reader_failed r ≡ false
  pub open_yet : AtEnd (reader_source seen r) → ⊥
  pub bound : (reader_source seen r).reads ≤ max_reads

-- `SameLoan old new` holds if the reader of steps uses the same borrow of the certificate's reader as before.
abbrev pub SameLoan : {R : Type 0} → StepReader R Buffers → StepReader R Buffers → Type 0
SameLoan old new = reader_borrow new ≡ reader_borrow old

-- `StepReadsAreFew seen r` holds if the reader of steps made at most `max_reads` (2^48) reads.
abbrev pub StepReadsAreFew : {R : Type 0} → (R → Reader) → StepReader R Buffers → Type 0
StepReadsAreFew seen r = (reader_source seen r).reads ≤ max_reads

-- `StepsGoOnIf result seen r` holds if `result` is an `Err`, or the reader of steps can be read further (`StepsGoOn`).
abbrev pub StepsGoOnIf : {R T E : Type 0} → Result T E → (R → Reader) → StepReader R Buffers → Type 0
StepsGoOnIf result seen r = OnOk result (StepsGoOn seen r)

-- an upper limit on the bytes still to be consumed: those waiting, and 4096 for each read that is left of 2^48
abbrev pub most_bytes_left : Source → ℕ
most_bytes_left s = max_read_size * (max_reads - s.reads) + length s.waiting

-- the bytes that are still to be consumed, if `total` is everything that the reader will ever have given: those
-- waiting, and those not given yet
abbrev pub rest_in : List ℕ → Source → List ℕ
rest_in total s = s.waiting ++ drop (length s.reader.given) total

-- the state of the certificate, if `total` is everything that its reader will ever have given
abbrev pub certificate_state_in : List ℕ → Stream → CertificateState
certificate_state_in total s = record { checker = s.checker; step = s.step; rest = rest_in total s.source }

-- `CanBeTotal s total` holds if `total` can be everything that the reader of `s` will ever have given: nothing more if
-- it is at its end.
pub record CanBeTotal (s : Source) (total : List ℕ) : Type 0 where
  pub later : List ℕ
  pub whole : total ≡ s.reader.given ++ later
  pub none : AtEnd s → later ≡ []

-- `HoldsWhateverFollows old new P` holds if `P` holds of the certificate's states at `old` and `new`, whatever bytes
-- its reader could still give after `new`.
abbrev pub HoldsWhateverFollows : Stream → Stream → (CertificateState → CertificateState → Type 0) → Type 0
HoldsWhateverFollows old new P = (total : List ℕ) → CanBeTotal new.source total → P (certificate_state_in total old) (certificate_state_in total new)

-- `ConsumesStreamBytes old new` holds if some bytes of the certificate were consumed, possibly none, and the end was
-- not found.
abbrev pub ConsumesStreamBytes : Stream → Stream → Type 0
ConsumesStreamBytes old new = (text : List ℕ) × ConsumesBytes old.source new.source text

-- `ConsumesStreamOrEnds old new` holds if some bytes were consumed, possibly none, and then the end may have been
-- found.
abbrev pub ConsumesStreamOrEnds : Stream → Stream → Type 0
ConsumesStreamOrEnds old new = ((text : List ℕ) × ConsumesWithReads 1 old.source new.source text) × (AtEnd new.source → IsAtEnd new.source.reader.to_come)

-- `CallSucceeds fed old new P` holds if a call succeeded: bytes were consumed, possibly none, and `P` holds of the
-- states before and after, whatever bytes could follow. The checker was fed all steps that were read or, if `fed` is
-- false, all except the last.
abbrev pub CallSucceeds : Bool → Stream → Stream → (CertificateState → CertificateState → Type 0) → Type 0
CallSucceeds fed old new P = ConsumesStreamBytes old new × HoldsWhateverFollows old new P × HoldsWhateverFollows old new (FeedsLastIf fed)

-- `CallStops stop old new P` holds if a call stopped for this reason, whatever bytes could follow, and `P` says what a
-- `No` means for the states before and after. Whatever the reason, the looks are those of the steps that the checker
-- was fed.
abbrev pub CallStops : Stop → Stream → Stream → (CertificateState → CertificateState → Why → Type 0) → Type 0
CallStops (stop.No why) old new P = ConsumesStreamOrEnds old new × HoldsWhateverFollows old new (λ a b. P a b why) × HoldsWhateverFollows old new FeedsSomeSteps
CallStops stop.CertificateRead old new P = ((text : List ℕ) × ConsumesAndFails old.source new.source text) × HoldsWhateverFollows old new FeedsSomeSteps
CallStops stop.OutOfMemory old new P = ConsumesStreamOrEnds old new × HoldsWhateverFollows old new FeedsSomeSteps
CallStops stop.CounterEnd old new P = ConsumesStreamOrEnds old new × HoldsWhateverFollows old new LeadsToCounterEnd × HoldsWhateverFollows old new FeedsSomeSteps
CallStops stop.ScriptRead old new P = ⊥
CallStops stop.AnswersRead old new P = ⊥
CallStops stop.TooMany old new P = ⊥

-- `CallReturns fed result old new P` holds if a call succeeded or stopped, and `P` says what `Ok` or `No` means for the
-- states before and after. `fed` says for each value of `Ok` whether the checker was fed the last step, too.
abbrev pub CallReturns : {A : Type 0} → (A → Bool) → Result A Stop → Stream → Stream → (CertificateState → CertificateState → Result A Why → Type 0) → Type 0
CallReturns fed (Ok x) old new P = CallSucceeds (fed x) old new (λ a b. P a b (Ok x))
CallReturns fed (Err e) old new P = CallStops e old new (λ a b why. P a b (Err why))

-- `CertificateCall r old new P` holds if a call that feeds the checker every step that it reads succeeded or stopped,
-- as in `CallReturns`.
abbrev pub CertificateCall : {A : Type 0} → Result A Stop → Stream → Stream → (CertificateState → CertificateState → Result A Why → Type 0) → Type 0
CertificateCall r old new P = CallReturns (λ x. true) r old new P

-- `CallWithoutReading result P` holds if the result of a call that reads nothing is `Ok` or `No`, and `P` holds of it;
-- or if the error is `OutOfMemory`.
abbrev pub CallWithoutReading : {A : Type 0} → Result A Stop → (Result A Why → Type 0) → Type 0
CallWithoutReading (Ok x) P = P (Ok x)
CallWithoutReading (Err (stop.No why)) P = P (Err why)
CallWithoutReading (Err stop.CertificateRead) P = ⊥
CallWithoutReading (Err stop.OutOfMemory) P = Unit {0}
CallWithoutReading (Err stop.CounterEnd) P = ⊥
CallWithoutReading (Err stop.ScriptRead) P = ⊥
CallWithoutReading (Err stop.AnswersRead) P = ⊥
CallWithoutReading (Err stop.TooMany) P = ⊥

-- the error of a call if no step can be read: a `No` if the bytes have ended or encode no step, otherwise
-- `CertificateRead` or `OutOfMemory`
abbrev pub stop_for_step : StepError → Stop
stop_for_step errors.Ends = stop.No CertificateEnds
stop_for_step errors.Cut = stop.No CertificateEnds
stop_for_step errors.BadByte = stop.No StepRefused
stop_for_step errors.Read = stop.CertificateRead
stop_for_step errors.OutOfMemory = stop.OutOfMemory
stop_for_step errors.HasFailed = stop.CertificateRead
