-- What can be seen of a call of the program, and what each call does.
use Rattle.std.specs.Prelude.{ℕ, ◌≡◌, ◌≤◌, ◌⊎◌}
use Rattle.std.specs.IoError.{error_kind}
use Rattle.std.specs.declared.io.Error.{Error}
use Rattle.std.specs.declared.io.ErrorKind.TheVariants.{OutOfMemory}
use Rattle.sat_base.specs.device.Device.{Reader, Writer}
use Rattle.certify.specs.script.Decided.{MakesNoReadOnceDecided}
use Rattle.certify.specs.program.Failures.{ReadsStopAtFailure, RunStopsAtFailure, ConfirmStopsAtFailure}
use Rattle.certify.specs.program.HintPrinting.{PrintsHintVerdict, PrintsHintVerdictPrefix, WritesHints, WritesHintsPrefix}
use Rattle.certify.specs.program.Printing.{Prints, PrintsPrefix, PrintsYesOrNo, PrintsYesOrNoPrefix, WroteFinishedRun}
use Rattle.certify.specs.run.Unfinished.{Stopped}

-- What can be seen of a call of the program, besides its files: its exit status, and its standard input and output,
-- each as the pair of its states before and after.
pub record Effect : Type 0 where
  pub status : ℕ
  pub input : Reader × Reader
  pub output : Writer × Writer

-- the effect with this status and these streams
abbrev pub effect : ℕ → Reader × Reader → Writer × Writer → Effect
effect status input output = record { status = status; input = input; output = output }

-- `ReadsNothing e` holds if nothing was read from standard input.
abbrev pub ReadsNothing : Effect → Type 0
ReadsNothing e = e.input.1 ≡ e.input.0

-- `PrintsNothing e` holds if nothing was written to standard output.
abbrev pub PrintsNothing : Effect → Type 0
PrintsNothing e = e.output.1 ≡ e.output.0

-- `LeavesStreams e` holds if nothing was read from standard input, or written to standard output.
abbrev pub LeavesStreams : Effect → Type 0
LeavesStreams e = ReadsNothing e × PrintsNothing e

-- `ByStatus status Done Cut` holds if the status is 0 or 1, and `Done` holds; or if it is 3, and `Cut` holds.
abbrev pub ByStatus : ℕ → (Done Cut : Type 0) → Type 0
ByStatus status Done Cut = ((status ≤ 1) × Done) ⊎ ((status ≡ 3) × Cut)

-- `StandardCall e` holds in two cases. With status 0 or 1, the answers to the bytes that were read from standard input
-- were printed, whatever bytes could follow, and then `c confirmed`. With status 3, nothing was printed, or the answers
-- alone, or a write failed after a prefix of what is due. In both, `ReadsStopAtFailure` and `MakesNoReadOnceDecided` hold
-- of standard input.
abbrev pub StandardCall : Effect → Type 0
StandardCall e = ReadsStopAtFailure e.input × MakesNoReadOnceDecided e.input.0 e.input.1 × ByStatus e.status
    (Prints e.status e.input e.output)
    (PrintsNothing e ⊎ PrintsPrefix e.input e.output)

-- `RunCall budget script answers certificate e` holds in two cases. With status 0 or 1, the answers and the certificate
-- of a finished run were written. With status 3, a prefix of correct answers and a prefix of accepted steps were
-- written. In both, standard input and output are left alone, and `RunStopsAtFailure` and `MakesNoReadOnceDecided` hold.
abbrev pub RunCall : (budget : ℕ) → Reader × Reader → (answers certificate : Writer × Writer) → Effect → Type 0
RunCall budget script answers certificate e = LeavesStreams e × RunStopsAtFailure script answers certificate × MakesNoReadOnceDecided script.0 script.1 × ByStatus e.status
    (WroteFinishedRun e.status budget script answers certificate)
    (Stopped budget script answers certificate)

-- `ConfirmCall script answers certificate e` holds in two cases. With status 0 or 1, the line was printed that says
-- whether the three texts match. With status 3, nothing was printed, or writing a correct line failed after a prefix.
-- In both, standard input is not read, and `ConfirmStopsAtFailure` and `MakesNoReadOnceDecided` hold.
abbrev pub ConfirmCall : (script answers certificate : Reader × Reader) → Effect → Type 0
ConfirmCall script answers certificate e = ReadsNothing e × ConfirmStopsAtFailure script answers certificate × MakesNoReadOnceDecided script.0 script.1 × ByStatus e.status
    (PrintsYesOrNo e.status script answers certificate e.output)
    (PrintsNothing e ⊎ PrintsYesOrNoPrefix script answers certificate e.output)

-- `HintsCall certificate hints e` holds in two cases. With status 0 or 1, the hint text of the certificate was written,
-- or the certificate has none. With status 3, a prefix of a hint text was written. In both, standard input and output
-- are left alone.
abbrev pub HintsCall : (certificate : Reader × Reader) → (hints : Writer × Writer) → Effect → Type 0
HintsCall certificate hints e = LeavesStreams e × ByStatus e.status
    (WritesHints e.status certificate hints)
    (WritesHintsPrefix certificate hints)

-- `CheckCall hints e` holds in two cases. With status 0 or 1, the line for the verdict on the hint text was printed.
-- With status 3, nothing was printed, or writing a correct line failed after a prefix. In both, standard input is not
-- read, and `ReadsStopAtFailure` holds.
abbrev pub CheckCall : (hints : Reader × Reader) → Effect → Type 0
CheckCall hints e = ReadsNothing e × ReadsStopAtFailure hints × ByStatus e.status
    (PrintsHintVerdict e.status hints e.output)
    (PrintsNothing e ⊎ PrintsHintVerdictPrefix hints e.output)

-- `Misuse e` holds if the status is 2, nothing was read from standard input, and nothing was written to standard
-- output.
abbrev pub Misuse : Effect → Type 0
Misuse e = (e.status ≡ 2) × LeavesStreams e

-- `Unread error e` holds if nothing was read from standard input or written to standard output, and the status is 3 if
-- the error is that memory ran out, and otherwise 2.
abbrev pub Unread : Error → Effect → Type 0
Unread error e = LeavesStreams e
    × (((error_kind error ≡ OutOfMemory) × (e.status ≡ 3)) ⊎ ((error_kind error ≡ OutOfMemory → ⊥) × (e.status ≡ 2)))
