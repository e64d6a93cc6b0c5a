-- What the result means when the lines of a certificate are appended to pending bytes.
use Rattle.std.specs.Prelude.{ℕ, ◌≡◌, ◌⊎◌, false, List, [], ◌∷◌, ◌++◌, Result, Ok, Err}
use Rattle.sat_base.specs.device.Device.{Reader, ReadFails}
use Rattle.sat_base.specs.device.Sink.{AddsToSink, SinkFails}
use Rattle.sat_base.specs.steps.Formats.{IsProperPrefix}
use Rattle.sat_base.specs.steps.Steps.{Step, End}
use Rattle.sat_base.specs.steps.StepText.{SpellsStep}
use Rattle.sat_checker.specs.Accepts.{Accepts, ready_after}
use Rattle.sat_checker.specs.ProofView.{steps_after, NoReadFailed, FoundNoEnd}
use Rattle.sat_checker.specs.declared.error.CheckerError.{CheckerError}
use Rattle.sat_checker.specs.declared.error.CheckerError.TheVariants as errors
use Rattle.sat_hints.specs.Conversion.{hint_text, hint_verdict}
use Rattle.sat_hints.specs.Checks.{VerdictHolds}
use Rattle.sat_hints.specs.Converts.{GaveAcceptedSteps, GaveAcceptedAndNext, GaveAcceptedProof, RefusesCertificateBy}
use Rattle.sat_hints.specs.declared.error.HintError.{HintError}
use Rattle.sat_hints.specs.declared.error.HintError.TheVariants.{Refused, HasDeleteVar, Read, Write, OutOfMemory}
use Rattle.sat_hints.specs.inner.LineWriting.{Outlet}

-- the error of a conversion for an error of its checker
abbrev pub hint_error_of : CheckerError → HintError
hint_error_of errors.IoError = Read
hint_error_of errors.OutOfMemory = OutOfMemory
hint_error_of (errors.ProofProcessorError cause) = Write
hint_error_of errors.ProofIncomplete = Refused errors.ProofIncomplete
hint_error_of errors.ParseError = Refused errors.ParseError
hint_error_of errors.CheckFailed = Refused errors.CheckFailed
hint_error_of errors.CounterEnd = Refused errors.CounterEnd
hint_error_of errors.HasFailed = Refused errors.HasFailed

-- `SentAll old new text` holds if the text was appended to the pending bytes, and no write failed.
pub record SentAll (old new : Outlet) (text : List ℕ) : Type 0 where
  pub well : new.failed ≡ false
  pub sent : AddsToSink old.sink new.sink text

-- `SentPrefix old new text` holds if a prefix of the text was appended to the pending bytes, and no write failed.
pub record SentPrefix (old new : Outlet) (text : List ℕ) : Type 0 where
  pub front : List ℕ
  pub following : List ℕ
  pub whole : text ≡ front ++ following
  pub sent : SentAll old new front

-- `SendFailsAfter old new step steps` holds if a write failed while the hint text of the accepted steps, the newest
-- first, was appended, or that of these and `step`, if it is accepted.
abbrev pub SendFailsAfter : Outlet → Outlet → Step → List Step → Type 0
SendFailsAfter old new step steps = SinkFails old.sink new.sink (hint_text steps) ⊎ (Accepts (ready_after steps) step × SinkFails old.sink new.sink (hint_text (step ∷ steps)))

-- `SendsHintText result from to old new` holds if the result of reading a certificate and appending its hint text to
-- the pending bytes of an outlet is correct, as `Converts` says, except that these bytes need not be written yet.
abbrev pub SendsHintText : Result (Unit {0}) HintError → Reader → Reader → Outlet → Outlet → Type 0
SendsHintText (Ok x) from to old new = (passed : List Step) × (rest : List ℕ) × GaveAcceptedProof from to passed rest
    × VerdictHolds (hint_verdict (End ∷ steps_after passed [])) (hint_text (End ∷ steps_after passed []))
    × SentAll old new (hint_text (End ∷ steps_after passed []))
SendsHintText (Err HasDeleteVar) from to old new = ⊥
SendsHintText (Err (Refused e)) from to old new = (passed : List Step) × NoReadFailed from to × RefusesCertificateBy e from to passed
    × SentPrefix old new (hint_text (steps_after passed []))
SendsHintText (Err Read) from to old new = (passed : List Step) × (rest : List ℕ) × ReadFails from to × GaveAcceptedSteps from to passed [] rest × IsProperPrefix SpellsStep rest
    × SentPrefix old new (hint_text (steps_after passed []))
SendsHintText (Err Write) from to old new = (passed : List Step) × (step : Step) × (rest : List ℕ) × NoReadFailed from to × GaveAcceptedSteps from to passed (step ∷ []) rest
    × SendFailsAfter old new step (steps_after passed [])
SendsHintText (Err OutOfMemory) from to old new = (passed : List Step) × (rest : List ℕ) × NoReadFailed from to × FoundNoEnd from to × GaveAcceptedAndNext from to passed rest
    × SentPrefix old new (hint_text (steps_after passed []))
