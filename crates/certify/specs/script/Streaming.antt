-- How a script is read command by command, whatever bytes could follow.
use Rattle.std.specs.Prelude.{ℕ, ◌+◌, ◌-◌, ◌*◌, ◌<◌, ◌≡◌, Bool, true, false, Option, Some, None, List, [], ◌++◌, length, Result, Ok, Err}
use Rattle.sat_base.specs.device.Device.{max_reads, max_read_size}
use Rattle.sat_base.specs.device.Reading.{Source, ConsumesBytes, ConsumesToEnd}
use Rattle.sat_base.specs.script.Language.{Reading}
use Rattle.sat_base.specs.text.Chunks.{LeadsByBytes}
use Rattle.sat_base.specs.declared.device.whole.ReadError.{ReadError}
use Rattle.sat_base.specs.declared.device.whole.ReadError.TheVariants as errors
use Rattle.certify.specs.confirm.Streams.{CanBeTotal, rest_in}
use Rattle.certify.specs.script.LastChunk.{ConsumesText}
use Rattle.certify.specs.script.LastPiece.{ReadFailsAhead, ConsumesSome, waiting_bytes}
use Rattle.certify.specs.script.Commands.{EndsScript, ReaderMeansIf, ReceivesBytes, end_reading_if}
use Rattle.certify.specs.declared.script.ahead.LastPiece.{LastPiece}
use Rattle.certify.specs.declared.script.Reached.{Reached}
use Rattle.certify.specs.declared.script.Reached.TheVariants as reached
use Rattle.certify.specs.declared.script.reader.ScriptReader.{ScriptReader}
use Rattle.certify.specs.declared.script.stream.CommandStream.{CommandStream}
use Rattle.certify.specs.declared.script.stream.Next.{Next}
use Rattle.certify.specs.declared.script.stream.Next.TheVariants as next

-- `ConsumesWaiting result old new` holds if bytes that were read ahead were consumed, at least one if there were any,
-- and the result says what they led to (`ReceivesBytes`). Nothing was read. With an error, none were consumed.
abbrev pub ConsumesWaiting : {E : Type 0} → Result Reached E → CommandStream → CommandStream → Type 0
ConsumesWaiting (Ok r) old new = (text : List ℕ) × (waiting_bytes old.ahead ≡ text ++ waiting_bytes new.ahead) × (new.ahead.reads ≡ old.ahead.reads)
    × (0 < length (waiting_bytes old.ahead) → 0 < length text) × ReceivesBytes r old.reader text new.reader × ConsumesText r old.reader text new.reader
ConsumesWaiting (Err e) old new = new.ahead ≡ old.ahead

-- `FinishesText next old new` holds if `next` is what the end of the text led to, right after the position of `old`: a
-- last command, which is the draft of `new`, or the end without one.
abbrev pub FinishesText : Next → ScriptReader → ScriptReader → Type 0
FinishesText next.Command old new = ⊥
FinishesText (next.Last e) old new = (asks : Bool) (before : List ℕ → Reading) → ReaderMeansIf asks old before → EndsScript asks true e new (before [])
FinishesText (next.End e) old new = (asks : Bool) (before : List ℕ → Reading) → ReaderMeansIf asks old before → EndsScript asks false e new (before [])

-- `ReachesNext next a b old new` holds if, from `a` to `b`, a command was read and the text continues, or the last
-- command was read and the text has ended, or no command is left and the script has the end in `next`. A command is the
-- draft of `new`.
abbrev pub ReachesNext : Next → Source → Source → ScriptReader → ScriptReader → Type 0
ReachesNext next.Command a b old new = (text : List ℕ) × ConsumesBytes a b text × (0 < length text) × ReceivesBytes reached.Command old text new
ReachesNext (next.Last e) a b old new =
    (text : List ℕ) × ConsumesToEnd a b text
    × ((asks : Bool) (before : List ℕ → Reading) → ReaderMeansIf asks old before → EndsScript asks true e new (before text))
ReachesNext (next.End e) a b old new =
    ConsumesSome false a b × ((asks : Bool) (before : List ℕ → Reading) → ReaderMeansIf asks old before
    → (total : List ℕ) → CanBeTotal b total → before (rest_in total a) ≡ end_reading_if asks e)

-- `ReadsTowardsNext result a b old new` holds if `ReachesNext` holds, or the bytes read from `a` to `b` have not
-- completed a command (`None`). With an error, reading failed, 2^48 reads were made, or memory ran out.
abbrev pub ReadsTowardsNext : Result (Option Next) ReadError → Source → Source → ScriptReader → ScriptReader → Type 0
ReadsTowardsNext (Ok None) a b old new = (text : List ℕ) × ConsumesBytes a b text × ((asks : Bool) → LeadsByBytes (ReaderMeansIf asks) old text new)
ReadsTowardsNext (Ok (Some n)) a b old new = ReachesNext n a b old new
ReadsTowardsNext (Err errors.Failed) a b old new = ReadFailsAhead a b
ReadsTowardsNext (Err errors.OutOfMemory) a b old new = ConsumesSome true a b

-- `NextCommandResult result a b old new` holds if `ReachesNext` holds from `a` to `b` or, with an error, reading
-- failed, 2^48 reads were made, or memory ran out.
abbrev pub NextCommandResult : Result Next ReadError → Source → Source → ScriptReader → ScriptReader → Type 0
NextCommandResult (Ok n) a b old new = ReachesNext n a b old new
NextCommandResult (Err errors.Failed) a b old new = ReadFailsAhead a b
NextCommandResult (Err errors.OutOfMemory) a b old new = ConsumesSome true a b

-- an upper limit on how many more calls can consume bytes: one for each waiting byte, and 4097 for each read that is
-- left of 2^48
abbrev pub consuming_calls_left : LastPiece → ℕ
consuming_calls_left a = (max_read_size + 1) * (max_reads - a.reads) + length (waiting_bytes a)

-- `LeavesFewerCalls result old new` holds if `consuming_calls_left` decreased from `old` to `new`, or the result is a
-- value or an error, so that no further call is needed.
abbrev pub LeavesFewerCalls : {A E : Type 0} → Result (Option A) E → LastPiece → LastPiece → Type 0
LeavesFewerCalls (Ok None) old new = consuming_calls_left new < consuming_calls_left old
LeavesFewerCalls (Ok (Some x)) old new = Unit {0}
LeavesFewerCalls (Err e) old new = Unit {0}
