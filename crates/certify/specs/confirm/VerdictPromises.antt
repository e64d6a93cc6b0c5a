-- What a verdict guarantees about the texts that three readers gave.
use Rattle.std.specs.Prelude.{ℕ, ◌+◌, ◌*◌, ◌^◌, ◌≤◌, ◌≡◌, ◌↔◌, ◌⊎◌, Result, Err, IfOk, List, ◌++◌, length, []}
use Rattle.sat_base.specs.device.Device.{Reader, GavePrefix, GaveAll, GaveEnough, CouldStillGive, ReadFails, max_reads}
use Rattle.certify.specs.Devices.{reader_before_after}
use Rattle.certify.specs.answers.AnswersText.{event_lines}
use Rattle.sat_checker.specs.matching.Expected.{Outcome}
use Rattle.certify.specs.answers.Events.{events_in, EachIsRight}
use Rattle.certify.specs.confirm.Matches.{TextsMatch}
use Rattle.certify.specs.confirm.FedSteps.{StepsAccountForLooks}
use Rattle.sat_base.specs.script.Script.{Clean, Malformed}
use Rattle.sat_base.specs.script.Language.{Reading}
use Rattle.certify.specs.declared.verdict.ConfirmFault.{ConfirmFault}
use Rattle.certify.specs.declared.verdict.ConfirmFault.TheVariants as fault
use Rattle.certify.specs.declared.verdict.Verdict.{Verdict}
use Rattle.certify.specs.declared.verdict.Verdict.TheVariants.{Yes}

-- `GaveTextWith r IsSo` holds if the bytes that a reader gave between `r.0` and `r.1` are enough for `IsSo`: it holds
-- of them followed by any bytes that the reader could still give (`GaveEnough`).
abbrev pub GaveTextWith : Reader × Reader → (List ℕ → Type 0) → Type 0
GaveTextWith r IsSo = GaveEnough r.0 r.1 IsSo

-- `VerdictIsExact script answers certificate v` holds if `v` is `Yes` exactly when the three texts match
-- (`TextsMatch`): those that the readers gave between their two states, followed by any bytes that they could still
-- give.
abbrev pub VerdictIsExact : Reader × Reader → Reader × Reader → Reader × Reader → Verdict → Type 0
VerdictIsExact script answers certificate v =
    GaveTextWith script (λ s. GaveTextWith answers (λ a. GaveTextWith certificate (λ c. (v ≡ Yes) ↔ TextsMatch s a c)))

-- `ResultIsExact r script answers certificate old new` holds if `r` is an `Err`, or `VerdictIsExact` holds for the
-- three readers before and after the call.
abbrev pub ResultIsExact : {S A C E : Type 0} → Result Verdict E → (S → Reader) → (A → Reader) → (C → Reader)
    → S × A × C → S × A × C → Type 0
ResultIsExact r script answers certificate old new =
    IfOk r (VerdictIsExact (reader_before_after script old.0 new.0) (reader_before_after answers old.1 new.1) (reader_before_after certificate old.2 new.2))

-- `KeepsReadFailures seen old new` holds if no call of a reader failed between its states `old` and `new`. `seen` gives
-- the record in which failed calls are counted.
abbrev pub KeepsReadFailures : {R : Type 0} → (R → Reader) → R → R → Type 0
KeepsReadFailures seen old new = (seen new).failures ≡ (seen old).failures

-- `AreRightAnswers script answers` holds if the answers are correct for the script. They are, byte for byte, the lines
-- of the script's events: each refused command has one line, each accepted ask has the lines of one outcome, and a
-- malformed script has a last line. Every model and every core is correct. `Unknown` is correct for every ask, and a
-- refused clause does not count.
pub record AreRightAnswers (script answers : List ℕ) : Type 0 where
  pub outcomes : List Outcome
  pub lines : answers ≡ event_lines (events_in script) outcomes
  pub right : EachIsRight (events_in script) outcomes

-- `GaveRightAnswers script answers` holds if the answers were read to their end, and are correct for the script,
-- whatever bytes the script's reader could still give. Each argument is a reader before and after a call.
abbrev pub GaveRightAnswers : Reader × Reader → Reader × Reader → Type 0
GaveRightAnswers script answers =
    (a : List ℕ) × GaveAll answers.0 answers.1 a × GaveEnough script.0 script.1 (λ s. AreRightAnswers s a)

-- `IsSoundVerdict script answers v` holds if `v` is not `Yes`, or the answers were read to their end and are correct
-- for the script (`GaveRightAnswers`).
abbrev pub IsSoundVerdict : Reader × Reader → Reader × Reader → Verdict → Type 0
IsSoundVerdict script answers v = v ≡ Yes → GaveRightAnswers script answers

-- `LooksAreBounded old new from to` holds if the number of looks did not fall from `from` to `to`, and rose by at most
-- 16 (n + 1)^2, where n is the number of bytes that the reader gave between `old` and `new`. Steps at the beginning of
-- these bytes account for the rise (`StepsAccountForLooks`), whatever bytes could follow.
pub record LooksAreBounded (old new : Reader) (from to : ℕ) : Type 0 where
  pub text : List ℕ
  pub front : GavePrefix old new text
  pub rises : from ≤ to
  pub bound : to ≤ from + 16 * (length text + 1) ^ 2
  pub reached : (rest : List ℕ) → CouldStillGive old new rest → StepsAccountForLooks [] (text ++ rest) from to

-- the number of commands of a reading, including the one at which the text is malformed, and the ask that a header
-- added
abbrev pub command_count : Reading → ℕ
command_count (commands, Clean) = length commands
command_count (commands, Malformed) = length commands + 1

-- `ConfirmGuarantee r script answers certificate` holds if `r` is a result of `confirm` as guaranteed, except for the
-- looks: a verdict is exact and sound, a reader's fault means that its read failed, no other read failed, `CounterEnd`
-- is never returned, and at most `max_reads` reads are made of each text.
pub record ConfirmGuarantee (r : Result Verdict ConfirmFault) (script answers certificate : Reader × Reader) : Type 0 where
  pub exact : IfOk r (VerdictIsExact script answers certificate)
  pub sound : IfOk r (IsSoundVerdict script answers)
  pub script_read : r ≡ Err fault.ScriptRead → ReadFails script.0 script.1
  pub answers_read : r ≡ Err fault.AnswersRead → ReadFails answers.0 answers.1
  pub certificate_read : r ≡ Err fault.CertificateRead → ReadFails certificate.0 certificate.1
  pub counter_end : r ≡ Err fault.CounterEnd → ⊥
  pub kept_script : (r ≡ Err fault.ScriptRead) ⊎ (script.1.failures ≡ script.0.failures)
  pub kept_answers : (r ≡ Err fault.AnswersRead) ⊎ (answers.1.failures ≡ answers.0.failures)
  pub kept_certificate : (r ≡ Err fault.CertificateRead) ⊎ (certificate.1.failures ≡ certificate.0.failures)
  pub script_reads : script.1.calls ≤ script.0.calls + max_reads
  pub answers_reads : answers.1.calls ≤ answers.0.calls + max_reads
  pub certificate_reads : certificate.1.calls ≤ certificate.0.calls + max_reads
