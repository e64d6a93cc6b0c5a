-- What the program prints of hint texts.
use Rattle.std.specs.Prelude.{ℕ, ◌≡◌, ◌⊎◌, true, Bool, false, Option, None, Some, Result, Ok, Err, List, [], ◌∷◌, ◌++◌, codes, decimal}
use Rattle.sat_base.specs.device.Device.{Reader, Writer, GaveEnough, WriterFails}
use Rattle.sat_hints.specs.Checks.{VerdictHolds}
use Rattle.sat_hints.specs.Converts.{Converts}
use Rattle.sat_hints.specs.declared.error.HintError.{HintError}
use Rattle.sat_hints.specs.declared.error.HintError.TheVariants as error
use Rattle.sat_hints.specs.declared.answer.HintVerdict.{HintVerdict}
use Rattle.sat_hints.specs.declared.answer.HintVerdict.TheVariants.{Proved, Bad}
use Rattle.sat_hints.specs.declared.answer.HintWhy.{HintWhy}
use Rattle.sat_hints.specs.declared.answer.HintWhy.TheVariants as why
use Rattle.certify.specs.program.Failures.{NoReadFailed}
use Rattle.certify.specs.program.Printing.{PrintsLine}

-- the word that the program prints for the reason why a hint text is rejected, such as `UnknownId`
abbrev pub hint_why_text : HintWhy → List ℕ
hint_why_text why.Syntax = codes "Syntax"
hint_why_text why.IdOrder = codes "IdOrder"
hint_why_text why.UnknownId = codes "UnknownId"
hint_why_text why.NotUnit = codes "NotUnit"
hint_why_text why.NotFalsified = codes "NotFalsified"
hint_why_text why.VarInUse = codes "VarInUse"

-- the text `1` if the empty clause was derived, or `0` if it was not
abbrev pub digit_of : Bool → List ℕ
digit_of true = codes "1"
digit_of false = codes "0"

-- the line `proved empty=E cores=K lines=L`, with LF: E is 1 if the hint text derives an empty clause and otherwise 0,
-- K is its number of cores, and L that of its lines
abbrev pub proved_text : Bool → ℕ → ℕ → List ℕ
proved_text empty cores lines =
    codes "proved empty=" ++ digit_of empty ++ codes " cores=" ++ decimal cores ++ codes " lines=" ++ decimal lines ++ 10 ∷ []

-- the line `bad LINE WHY`, with LF: the number of the first line at fault, and the reason
abbrev pub bad_text : ℕ → HintWhy → List ℕ
bad_text line cause = codes "bad " ++ decimal line ++ 32 ∷ [] ++ hint_why_text cause ++ 10 ∷ []

-- the line that is printed for the verdict on a hint text: `proved ...` or `bad ...`
abbrev pub hint_verdict_text : HintVerdict → List ℕ
hint_verdict_text (Proved empty cores lines) = proved_text empty cores lines
hint_verdict_text (Bad line cause) = bad_text line cause

-- `is_proved verdict` is true if the verdict says that the hint text is a proof.
abbrev pub is_proved : HintVerdict → Bool
is_proved (Proved empty cores lines) = true
is_proved (Bad line cause) = false

-- `PrintsHintVerdict status input output` holds if the verdict on the text that the reader gave was printed, whatever
-- bytes could follow, and no read failed. The status is 0 exactly when the verdict is that the text is a proof.
pub record PrintsHintVerdict (status : ℕ) (input : Reader × Reader) (output : Writer × Writer) : Type 0 where
  pub verdict : HintVerdict
  pub judges : GaveEnough input.0 input.1 (VerdictHolds verdict)
  pub printed : PrintsLine status (hint_verdict_text verdict) (is_proved verdict ≡ true) output.0 output.1
  pub read : NoReadFailed input

-- `PrintsHintVerdictPrefix input output` holds if no read failed, and writing the line for a correct verdict failed
-- after a prefix.
pub record PrintsHintVerdictPrefix (input : Reader × Reader) (output : Writer × Writer) : Type 0 where
  pub verdict : HintVerdict
  pub judges : GaveEnough input.0 input.1 (VerdictHolds verdict)
  pub printed : WriterFails output.0 output.1 (hint_verdict_text verdict)
  pub read : NoReadFailed input

-- the exit status for a result of `convert`: 0 if it wrote a hint text, 1 if the certificate is refused or deletes a
-- variable, and `None` for a device or allocation failure
abbrev pub status_after : Result (Unit {0}) HintError → Option ℕ
status_after (Ok x) = Some 0
status_after (Err (error.Refused e)) = Some 1
status_after (Err error.HasDeleteVar) = Some 1
status_after (Err error.Read) = None
status_after (Err error.Write) = None
status_after (Err error.OutOfMemory) = None

-- `WritesHints status certificate hints` holds if the status is 0, and the certificate's hint text was written and
-- flushed; or if it is 1, and the certificate has no hint text because it is refused or deletes a variable.
pub record WritesHints (status : ℕ) (certificate : Reader × Reader) (hints : Writer × Writer) : Type 0 where
  pub answer : Result (Unit {0}) HintError
  pub converts : Converts answer certificate.0 certificate.1 hints.0 hints.1
  pub following : status_after answer ≡ Some status
  pub flushed : status ≡ 0 → hints.1.flushed ≡ true

-- `WritesHintsPrefix certificate hints` holds if a read, a write or an allocation failed while the certificate was
-- converted, or 2^48 reads were made; or if its hint text was written, and the flush failed.
abbrev pub WritesHintsPrefix : Reader × Reader → Writer × Writer → Type 0
WritesHintsPrefix certificate hints =
    ((answer : Result (Unit {0}) HintError) × Converts answer certificate.0 certificate.1 hints.0 hints.1 × (status_after answer ≡ None))
    ⊎ ((written : Writer) × Converts (Ok tt) certificate.0 certificate.1 hints.0 written × WriterFails written hints.1 [])
