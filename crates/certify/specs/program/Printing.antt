-- What the program prints.
use Rattle.std.specs.Prelude.{ℕ, ◌≡◌, ◌<◌, ◌^◌, ◌↔◌, ◌⊎◌, true, Bool, false, None, is_some, List, ◌∷◌, ◌++◌, codes, decimal, length, []}
use Rattle.sat_base.specs.device.Device.{Reader, Writer, GaveEnough, WriterAccepts, WriterFails}
use Rattle.sat_base.specs.script.Script.{ScriptEnding, Clean, Malformed}
use Rattle.certify.specs.confirm.VerdictPromises.{VerdictIsExact}
use Rattle.certify.specs.program.Failures.{NoReadFailed}
use Rattle.sat_base.specs.script.Language.{reading}
use Rattle.certify.specs.run.FinishedRun.{CertificateGuarantee, ReceivedCertificate}
use Rattle.certify.specs.run.RoundsLeft.{most_rounds}
use Rattle.certify.specs.declared.summary.Summary.{Summary}
use Rattle.certify.specs.declared.verdict.Verdict.{Verdict}
use Rattle.certify.specs.declared.verdict.Verdict.TheVariants.{Yes, No}
use Rattle.certify.specs.declared.verdict.Why.{Why}
use Rattle.certify.specs.declared.verdict.Why.TheVariants as why
use Rattle.certify.specs.declared.verdict.ConfirmFault.{ConfirmFault}
use Rattle.certify.specs.declared.verdict.ConfirmFault.TheVariants as confirm_fault
use Rattle.certify.specs.declared.fault.RunFault.{RunFault}
use Rattle.certify.specs.declared.fault.RunFault.TheVariants as run_fault
use Rattle.certify.specs.declared.headline.Written.{Written}
use Rattle.certify.specs.declared.program.fault.ProgramFault.{ProgramFault}
use Rattle.certify.specs.declared.program.fault.ProgramFault.TheVariants as fault
use Rattle.certify.specs.declared.program.fault.HintCallFault.{HintCallFault}
use Rattle.certify.specs.declared.program.fault.HintCallFault.TheVariants as hints_fault

-- the word that the program prints for the reason of a `No`, such as `StepRefused`
abbrev pub why_text : Why → List ℕ
why_text why.AnswerMissing = codes "AnswerMissing"
why_text why.AnswerExtra = codes "AnswerExtra"
why_text why.AnswerText = codes "AnswerText"
why_text why.ClauseDiffers = codes "ClauseDiffers"
why_text why.NameDiffers = codes "NameDiffers"
why_text why.NameNotFresh = codes "NameNotFresh"
why_text why.AskDiffers = codes "AskDiffers"
why_text why.AnswerDiffers = codes "AnswerDiffers"
why_text why.StepRefused = codes "StepRefused"
why_text why.CertificateEnds = codes "CertificateEnds"
why_text why.StepOutOfPlace = codes "StepOutOfPlace"

-- the word that the program prints for a fault of `run`, such as `StoreFull`
abbrev pub run_fault_text : RunFault → List ℕ
run_fault_text run_fault.ScriptRead = codes "ScriptRead"
run_fault_text run_fault.AnswersWrite = codes "AnswersWrite"
run_fault_text run_fault.CertificateWrite = codes "CertificateWrite"
run_fault_text run_fault.OutOfMemory = codes "OutOfMemory"
run_fault_text run_fault.StoreFull = codes "StoreFull"
run_fault_text run_fault.CounterEnd = codes "CounterEnd"

-- the word that the program prints for a fault of `confirm`, such as `CertificateRead`
abbrev pub confirm_fault_text : ConfirmFault → List ℕ
confirm_fault_text confirm_fault.ScriptRead = codes "ScriptRead"
confirm_fault_text confirm_fault.AnswersRead = codes "AnswersRead"
confirm_fault_text confirm_fault.CertificateRead = codes "CertificateRead"
confirm_fault_text confirm_fault.OutOfMemory = codes "OutOfMemory"
confirm_fault_text confirm_fault.CounterEnd = codes "CounterEnd"

-- the word that the program prints for a fault of writing or checking a hint text
abbrev pub hints_fault_text : HintCallFault → List ℕ
hints_fault_text hints_fault.Read = codes "Read"
hints_fault_text hints_fault.Write = codes "Write"
hints_fault_text hints_fault.OutOfMemory = codes "OutOfMemory"

-- the word that the program prints for a fault; standard input that fails counts as `ScriptRead`, and standard output
-- that fails as `AnswersWrite`
abbrev pub fault_text : ProgramFault → List ℕ
fault_text (fault.Run f) = run_fault_text f
fault_text (fault.Confirm f) = confirm_fault_text f
fault_text (fault.Hints f) = hints_fault_text f
fault_text (fault.Input error) = codes "ScriptRead"
fault_text (fault.Output error) = codes "AnswersWrite"

-- the text `ASK WHY`, with LF: the number of an ask in decimal digits, and the reason of a `No`
abbrev pub no_verdict_text : ℕ → Why → List ℕ
no_verdict_text ask why = decimal ask ++ 32 ∷ [] ++ why_text why ++ 10 ∷ []

-- the line `c confirmed` for `Yes`, or `c not confirmed ASK WHY` for `No`, with LF
abbrev pub verdict_text : Verdict → List ℕ
verdict_text Yes = codes "c confirmed" ++ 10 ∷ []
verdict_text (No ask why) = codes "c not confirmed " ++ no_verdict_text ask why

-- the line `yes` for `Yes`, or `no ASK WHY` for `No`, with LF
abbrev pub yes_or_no_text : Verdict → List ℕ
yes_or_no_text Yes = codes "yes" ++ 10 ∷ []
yes_or_no_text (No ask why) = codes "no " ++ no_verdict_text ask why

-- `is_malformed ending` is true if the script ends because it is malformed.
abbrev pub is_malformed : ScriptEnding → Bool
is_malformed Clean = false
is_malformed Malformed = true

-- A finished run of the script `text` with at most `budget` rounds for each ask: its summary, answers and certificate,
-- for which `CertificateGuarantee` holds. The certificate has fewer than 2^63 bytes.
pub record RunOf (text : List ℕ) (budget : ℕ) : Type 0 where
  pub summary : Summary
  pub answers : List ℕ
  pub certificate : List ℕ
  pub fits : length certificate < 2 ^ 63
  pub guarantee : CertificateGuarantee text budget summary answers certificate

-- `IsWritten text w` holds if `w` contains the summary, answers and certificate of a finished run of the script `text`,
-- with the largest budget, 2^64 - 1. `CertificateGuarantee` holds for them.
abbrev pub IsWritten : List ℕ → Written → Type 0
IsWritten text w = CertificateGuarantee text most_rounds w.summary w.answers.items w.certificate.items

-- `PrintsWritten status w old new` holds if the writer of standard output, between `old` and `new`, received the
-- answers of the finished run `w`, then `c confirmed`, and was flushed. The status is 0 exactly when the script is not
-- malformed.
pub record PrintsWritten (status : ℕ) (w : Written) (old new : Writer) : Type 0 where
  pub printed : WriterAccepts old new (w.answers.items ++ verdict_text Yes)
  pub flushed : new.flushed ≡ true
  pub done : (status ≡ 0) ↔ (is_some w.summary.malformed ≡ false)

-- `PrintsWrittenPrefix w old new` holds if, between `old` and `new`, the writer received exactly the answers of the
-- finished run `w`, or writing these and the line `c confirmed` failed after a prefix.
abbrev pub PrintsWrittenPrefix : Written → Writer → Writer → Type 0
PrintsWrittenPrefix w old new = WriterAccepts old new w.answers.items ⊎ WriterFails old new (w.answers.items ++ verdict_text Yes)

-- `PrintsRun status text old new` holds if, between `old` and `new`, the writer received the answers of a finished run
-- of the script `text`, then `c confirmed`, and was flushed. The status is 0 exactly when the text is not malformed.
pub record PrintsRun (status : ℕ) (text : List ℕ) (old new : Writer) : Type 0 where
  pub run : RunOf text most_rounds
  pub printed : WriterAccepts old new (run.answers ++ verdict_text Yes)
  pub flushed : new.flushed ≡ true
  pub done : (status ≡ 0) ↔ (is_malformed (reading text).1 ≡ false)

-- `Prints status input output` holds if `PrintsRun` holds for the text that the reader gave, whatever bytes could
-- follow, and no read failed.
pub record Prints (status : ℕ) (input : Reader × Reader) (output : Writer × Writer) : Type 0 where
  pub given : GaveEnough input.0 input.1 (λ text. PrintsRun status text output.0 output.1)
  pub read : NoReadFailed input

-- `PrintsRunPrefix text old new` holds if, between `old` and `new`, the writer received exactly the answers of a
-- finished run of the script `text`; or if writing these and the line `c confirmed` failed after a prefix.
pub record PrintsRunPrefix (text : List ℕ) (old new : Writer) : Type 0 where
  pub run : RunOf text most_rounds
  pub printed : WriterAccepts old new run.answers ⊎ WriterFails old new (run.answers ++ verdict_text Yes)

-- `PrintsPrefix input output` holds if `PrintsRunPrefix` holds for the text that the reader gave, whatever bytes could
-- follow, and no read failed.
pub record PrintsPrefix (input : Reader × Reader) (output : Writer × Writer) : Type 0 where
  pub given : GaveEnough input.0 input.1 (λ text. PrintsRunPrefix text output.0 output.1)
  pub read : NoReadFailed input

-- `PrintsLine status line IsSo old new` holds if the writer received exactly the line between `old` and `new`, and was
-- flushed last. The status is 0 exactly when `IsSo` holds.
pub record PrintsLine (status : ℕ) (line : List ℕ) (IsSo : Type 0) (old new : Writer) : Type 0 where
  pub printed : WriterAccepts old new line
  pub flushed : new.flushed ≡ true
  pub done : (status ≡ 0) ↔ IsSo

-- `PrintsYesOrNo status script answers certificate output` holds if the line was printed that says whether the texts
-- that the three readers gave match, whatever bytes could follow, and no read failed. The status is 0 exactly when they
-- do.
pub record PrintsYesOrNo (status : ℕ) (script answers certificate : Reader × Reader) (output : Writer × Writer) : Type 0 where
  pub verdict : Verdict
  pub exact : VerdictIsExact script answers certificate verdict
  pub printed : PrintsLine status (yes_or_no_text verdict) (verdict ≡ Yes) output.0 output.1
  pub read : NoReadFailed script × NoReadFailed answers × NoReadFailed certificate

-- `PrintsYesOrNoPrefix script answers certificate output` holds if no read failed, and writing the line for a correct
-- verdict failed after a prefix.
pub record PrintsYesOrNoPrefix (script answers certificate : Reader × Reader) (output : Writer × Writer) : Type 0 where
  pub verdict : Verdict
  pub exact : VerdictIsExact script answers certificate verdict
  pub printed : WriterFails output.0 output.1 (yes_or_no_text verdict)
  pub read : NoReadFailed script × NoReadFailed answers × NoReadFailed certificate

-- `WroteFinishedRun status budget script answers certificate` holds if the writers received the answers and the
-- certificate of a finished run of the text that the reader gave, and were flushed last. The status is 0 exactly when
-- the text is not malformed.
pub record WroteFinishedRun (status budget : ℕ) (script : Reader × Reader) (answers certificate : Writer × Writer) : Type 0 where
  pub summary : Summary
  pub guaranteed : ReceivedCertificate budget summary script answers certificate
  pub flushed : (answers.1.flushed ≡ true) × (certificate.1.flushed ≡ true)
  pub done : (status ≡ 0) ↔ (summary.malformed ≡ None)
  pub read : NoReadFailed script
