-- How a script is confirmed while it is read, whatever bytes could follow in the three texts.
use Rattle.std.specs.Prelude.{ℕ, ◌+◌, ◌-◌, ◌^◌, ◌<◌, ◌≡◌, min, true, false, List, Result, Ok, Err}
use Rattle.sat_base.specs.declared.steps.reader.Buffers.{Buffers}
use Rattle.sat_base.specs.declared.steps.reader.StepReader.{StepReader}
use Rattle.sat_base.specs.device.Device.{Reader}
use Rattle.sat_base.specs.device.Reading.{Source}
use Rattle.sat_base.specs.script.Language.{Reading}
use Rattle.certify.specs.confirm.Streams.{Stream, CertificateCall, CanBeTotal, rest_in}
use Rattle.certify.specs.confirm.VerdictPromises.{command_count}
use Rattle.certify.specs.confirm.Confirming.{ConfirmsRest, NameTable, ConfirmsUpTo, name_table_of}
use Rattle.certify.specs.confirm.CallResults.{Unconstrained, AnswersAndCertificateCall}
use Rattle.certify.specs.confirm.ConfirmStates.{answers_source_in, stream_in}
use Rattle.certify.specs.script.LastPiece.{ReadFailsAhead, NoReadFailedAhead, ConsumesSome, source_in}
use Rattle.certify.specs.script.Commands.{ReaderMeans}
use Rattle.certify.specs.declared.confirm.stop.Stop.TheVariants as stop
use Rattle.certify.specs.declared.confirm.stop.Stop.{Stop}
use Rattle.certify.specs.declared.confirm.confirmation.Confirmation.{Confirmation}
use Rattle.certify.specs.declared.script.reader.ScriptReader.{ScriptReader}
use Rattle.certify.specs.declared.verdict.ConfirmFault.{ConfirmFault}
use Rattle.certify.specs.declared.verdict.ConfirmFault.TheVariants as fault
use Rattle.certify.specs.declared.verdict.Verdict.{Verdict}
use Rattle.certify.specs.declared.verdict.Verdict.TheVariants.{Yes, No}

-- A place between two commands of a script that is being confirmed: how far script, answers and certificate were read,
-- the number of the next command, and the table of names.
pub record ConfirmPlace : Type 0 where
  pub script : Source
  pub answers : Source
  pub certificate : Stream
  pub number : ℕ
  pub table : NameTable

-- the script's reader, and the bytes read ahead from it
abbrev pub script_source : {S : Type 0} → (S → Reader) → S → Confirmation → Source
script_source seen script c = source_in seen script c.script.ahead

-- the place between two commands, read off the three readers and the state of the code, `c`
abbrev pub confirm_place : {S A C : Type 0} → (S → Reader) → (A → Reader) → (C → Reader) → S → A → StepReader C Buffers → Confirmation → ConfirmPlace
confirm_place script_seen seen steps_seen script answers steps c = record {
  script = script_source script_seen script c;
  answers = answers_source_in seen answers c.session;
  certificate = stream_in steps_seen steps c.session.matching;
  number = c.session.number + 1;
  table = name_table_of c.session.matching;
}

-- `ConfirmsUpToPlace text old new reader` holds if the commands between the places `old` and `new` were confirmed.
-- `text` gives the commands of the script from `old` on; those left at `new` are what `reader` still reads, whatever
-- bytes follow.
pub record ConfirmsUpToPlace (text : List ℕ → Reading) (old new : ConfirmPlace) (reader : ScriptReader) : Type 0 where
  pub left : List ℕ → Reading
  pub means : ReaderMeans reader left
  pub took : ConsumesSome true old.script new.script
  pub counted : (total : List ℕ) → CanBeTotal new.script total
      → old.number + command_count (text (rest_in total old.script)) ≡ new.number + command_count (left (rest_in total new.script))
  pub joins : (total : List ℕ) → CanBeTotal new.script total → AnswersAndCertificateCall ⊥ true (Ok tt) old.answers new.answers old.certificate new.certificate
      (ConfirmsUpTo old.number (text (rest_in total old.script)) old.table new.number (left (rest_in total new.script)) new.table)

-- `ConfirmsReading r script old new` holds if the commands and the ending `script`, from `old` on, are confirmed to
-- their end or, with `No`, cannot be; other errors mean what they mean in `AnswersAndCertificateCall`.
abbrev pub ConfirmsReading : Result (Unit {0}) Stop → Reading → ConfirmPlace → ConfirmPlace → Type 0
ConfirmsReading r script old new = AnswersAndCertificateCall ⊥ false r old.answers new.answers old.certificate new.certificate
    (λ before following u v. ConfirmsRest old.number script old.table before u)

-- `StopsElsewhere old new` holds if a call from `old` to `new` stopped for a reason that lies in neither answers nor
-- certificate, and no read of either failed.
abbrev pub StopsElsewhere : ConfirmPlace → ConfirmPlace → Type 0
StopsElsewhere old new = NoReadFailedAhead old.answers new.answers × CertificateCall {A = Unit {0}} (Err stop.OutOfMemory) old.certificate new.certificate Unconstrained

-- `ConfirmsScript text result old new` holds if `result` is that of confirming the script from `old` on, whose commands
-- `text` gives: confirmed to its end (`Ok`), or impossible to confirm (`No`). Otherwise a text cannot be read, memory
-- runs out, a number does not fit into 64 bits, or there are 2^64 commands or more.
abbrev pub ConfirmsScript : (List ℕ → Reading) → Result (Unit {0}) Stop → ConfirmPlace → ConfirmPlace → Type 0
ConfirmsScript text (Ok x) old new = ConsumesSome false old.script new.script
    × ((total : List ℕ) → CanBeTotal new.script total → ConfirmsReading (Ok x) (text (rest_in total old.script)) old new)
ConfirmsScript text (Err (stop.No why)) old new = ConsumesSome false old.script new.script
    × ((total : List ℕ) → CanBeTotal new.script total → ConfirmsReading (Err (stop.No why)) (text (rest_in total old.script)) old new)
ConfirmsScript text (Err stop.OutOfMemory) old new = NoReadFailedAhead old.script new.script × StopsElsewhere old new
ConfirmsScript text (Err stop.CertificateRead) old new = NoReadFailedAhead old.script new.script
    × (NoReadFailedAhead old.answers new.answers × CertificateCall {A = Unit {0}} (Err stop.CertificateRead) old.certificate new.certificate Unconstrained)
ConfirmsScript text (Err stop.CounterEnd) old new = NoReadFailedAhead old.script new.script
    × (NoReadFailedAhead old.answers new.answers × CertificateCall {A = Unit {0}} (Err stop.CounterEnd) old.certificate new.certificate Unconstrained)
ConfirmsScript text (Err stop.AnswersRead) old new = NoReadFailedAhead old.script new.script
    × (ReadFailsAhead old.answers new.answers × CertificateCall {A = Unit {0}} (Err stop.OutOfMemory) old.certificate new.certificate Unconstrained)
ConfirmsScript text (Err stop.ScriptRead) old new = ReadFailsAhead old.script new.script × StopsElsewhere old new
ConfirmsScript text (Err stop.TooMany) old new = ConsumesSome false old.script new.script
    × ((total : List ℕ) → CanBeTotal new.script total → 2 ^ 64 < old.number + command_count (text (rest_in total old.script)))
    × StopsElsewhere old new

-- the result of `confirm` when reading stops with `r` after `asks` confirmed asks; a `No` has the number of the next
-- ask, which saturates at 2^64-1
abbrev pub confirm_result : Result (Unit {0}) Stop → ℕ → Result Verdict ConfirmFault
confirm_result (Ok x) asks = Ok Yes
confirm_result (Err (stop.No why)) asks = Ok (No (min (asks + 1) (2 ^ 64 - 1)) why)
confirm_result (Err stop.OutOfMemory) asks = Err fault.OutOfMemory
confirm_result (Err stop.CertificateRead) asks = Err fault.CertificateRead
confirm_result (Err stop.CounterEnd) asks = Err fault.CounterEnd
confirm_result (Err stop.AnswersRead) asks = Err fault.AnswersRead
confirm_result (Err stop.ScriptRead) asks = Err fault.ScriptRead
confirm_result (Err stop.TooMany) asks = Err fault.CounterEnd
