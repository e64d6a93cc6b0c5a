-- The results of reading values in a format, through a buffer that is read ahead.
use Rattle.std.specs.Prelude.{◌≡◌, ℕ, true, length, ◌+◌, ◌*◌, ◌<◌, ◌≤◌, ◌⊎◌, List, [], ◌∷◌, ◌++◌, Option, None, Some, Result, Ok, Err, nat_eq, if◌then◌else◌}
use Rattle.std.specs.Io.KnownBytes.{Consumes, IsAtEnd, prepend_known}
use Rattle.sat_base.specs.declared.device.ahead.Ahead.{Ahead}
use Rattle.sat_base.specs.declared.device.input.Input.{Input}
use Rattle.sat_base.specs.device.Waiting.{waiting}
use Rattle.sat_base.specs.declared.steps.error.StepError.{StepError}
use Rattle.sat_base.specs.declared.steps.error.StepError.TheVariants as errors
use Rattle.sat_base.specs.device.Device.{Reader, max_reads, max_read_size}
use Rattle.sat_base.specs.steps.Formats.{Format, IsPrefixOfText, IsProperPrefix}
use Rattle.sat_base.specs.steps.Steps.{Step}
use Rattle.sat_base.specs.steps.StepText.{tag_of, SpellsFields, SpellsStep}

-- what a reader of values reads from: a reader of bytes, the bytes read ahead and not yet consumed, and the number of
-- reads made
pub record Source : Type 0 where
  pub reader : Reader
  pub waiting : List ℕ  -- the last bytes that it gave, read and not yet consumed
  pub reads : ℕ  -- the reads by this reader of steps
  pub names : List ℕ  -- the borrows that hold it

-- the bytes still to be consumed, if they are known: those read ahead, and those that the reader has still to give
abbrev pub to_come : Source → Option (List ℕ)
to_come s = prepend_known s.waiting s.reader.to_come

-- the source of a reader before the first read
abbrev pub new_source : Reader → Source
new_source r = record { reader = r; waiting = []; reads = 0; names = [] }

-- the source made of the reader `r`, whose state `seen` gives, and the bytes read ahead in `a`, without the borrows
-- that hold them
abbrev pub source : {R : Type 0} → (R → Reader) → R → Ahead → Source
source seen r a = record { reader = seen r; waiting = waiting a; reads = a.reads; names = [] }

-- the source, held by the borrows `names`
abbrev pub with_borrows : List ℕ → Source → Source
with_borrows names s = record s { names = names }

-- the source that an input reads, held by its two borrows
abbrev pub source_of : {R : Type 0} → (R → Reader) → Input R → Source
source_of seen i = with_borrows (i.reader.ghost_name ∷ i.ahead.ghost_name ∷ []) (source seen i.reader.now i.ahead.now)

-- `AtEnd s` holds if a read was made for the source, and the reader's last read found the end.
abbrev pub AtEnd : Source → Type 0
AtEnd s = (0 < s.reads) × (s.reader.ended ≡ true)

-- `ConsumesWithReads more old new text` holds if the bytes `text` were consumed, and no read failed. The bytes that
-- were pending and those given since are the bytes consumed and those pending now. The reads gave at most 4,096 bytes
-- each, on average. There were at most `more` more reads than bytes given. If `more` is 0, the source is at its end
-- only if it was before.
pub record ConsumesWithReads (more : ℕ) (old new : Source) (text : List ℕ) : Type 0 where
  pub fresh : List ℕ
  pub gave : new.reader.given ≡ old.reader.given ++ fresh
  pub flows : old.waiting ++ fresh ≡ text ++ new.waiting
  pub bytes : Consumes (to_come old) (to_come new) text
  pub failures : new.reader.failures ≡ old.reader.failures
  pub calls : new.reader.calls + old.reads ≡ old.reader.calls + new.reads
  pub room : length fresh + max_read_size * old.reads ≤ max_read_size * new.reads
  pub few : new.reads ≤ old.reads + length fresh + more
  pub loans : new.reader.loans ≡ old.reader.loans
  pub names : new.names ≡ old.names
  pub going : more ≡ 0 → AtEnd new → AtEnd old

-- `ConsumesBytes old new text` holds if the bytes `text` were consumed, as the first of those pending in `old` and
-- given since, with at most one read for every byte given, none of which failed.
abbrev pub ConsumesBytes : Source → Source → List ℕ → Type 0
ConsumesBytes old new text = ConsumesWithReads 0 old new text

-- `IsFullyConsumed s` holds if all bytes are consumed: a read was made, the last one found the end of the reader, and
-- no bytes are pending.
pub record IsFullyConsumed (s : Source) : Type 0 where
  pub read : 0 < s.reads
  pub ended : s.reader.ended ≡ true
  pub waiting : s.waiting ≡ []
  pub over : IsAtEnd (to_come s)

-- `ConsumesAllGiven old new text` holds if the bytes `text` were consumed, and no others are pending or were given
-- since.
abbrev pub ConsumesAllGiven : Source → Source → List ℕ → Type 0
ConsumesAllGiven old new text = ConsumesBytes old new text × (new.waiting ≡ [])

-- `ConsumesToEnd old new text` holds if the bytes `text` were consumed, none remain, and there was at most one more
-- read than bytes given.
abbrev pub ConsumesToEnd : Source → Source → List ℕ → Type 0
ConsumesToEnd old new text = ConsumesWithReads 1 old new text × IsFullyConsumed new

-- `LastReadFails old new` holds if exactly one read of the source's reader failed, and it was the last.
abbrev pub LastReadFails : Source → Source → Type 0
LastReadFails old new = (new.reader.failures ≡ old.reader.failures + 1) × (new.reader.failed ≡ true)

-- `SourceReadsAreExhausted old new` holds if no read failed between `old` and `new`, and 2^48 or more were made for the
-- source since it began.
abbrev pub SourceReadsAreExhausted : Source → Source → Type 0
SourceReadsAreExhausted old new = (new.reader.failures ≡ old.reader.failures) × (max_reads ≤ new.reads)

-- `ConsumesAndFails old new text` holds if the bytes `text` were consumed: all that were pending, and all that were
-- given since. Only the last read failed, or none failed and at least 2^48 were made.
pub record ConsumesAndFails (old new : Source) (text : List ℕ) : Type 0 where
  pub fresh : List ℕ
  pub gave : new.reader.given ≡ old.reader.given ++ fresh
  pub flows : old.waiting ++ fresh ≡ text
  pub none : new.waiting ≡ []
  pub bytes : Consumes (to_come old) (to_come new) text
  pub cause : LastReadFails old new ⊎ SourceReadsAreExhausted old new
  pub calls : new.reader.calls + old.reads ≡ old.reader.calls + new.reads
  pub room : length fresh + max_read_size * old.reads ≤ max_read_size * new.reads
  pub few : new.reads ≤ old.reads + length fresh + 1
  pub loans : new.reader.loans ≡ old.reader.loans
  pub names : new.names ≡ old.names

-- 1 if a read gave nothing (`n` is 0), otherwise 0
abbrev pub one_if_none_given : ℕ → ℕ
one_if_none_given n = if nat_eq n 0 then 1 else 0

-- `ReadsAhead result n old new` holds if `result` is that of reading the next `n` bytes without consuming any: `Ok`,
-- with `n` 0 only at the end, or `Read` if a read failed or 2^48 were made.
abbrev pub ReadsAhead : Result (Unit {0}) StepError → ℕ → Source → Source → Type 0
ReadsAhead (Ok u) n old new = ConsumesWithReads (one_if_none_given n) old new [] × (n ≡ 0 → IsFullyConsumed new)
ReadsAhead (Err errors.Read) n old new = ConsumesAndFails old new []
ReadsAhead (Err e) n old new = ⊥

-- `ReadsAheadUnderAnyBorrows seen result r a s b` holds if `ReadsAhead` holds for a reader and its buffered bytes,
-- whatever borrows lend them; `b.end` is the number of bytes that were read.
abbrev pub ReadsAheadUnderAnyBorrows : {R : Type 0} → (R → Reader) → Result (Unit {0}) StepError → R → Ahead → R → Ahead → Type 0
ReadsAheadUnderAnyBorrows seen result r a s b =
    (names : List ℕ) → ReadsAhead result b.end (with_borrows names (source seen r a)) (with_borrows names (source seen s b))

-- `ConsumesNextByte result old new` holds if `result` is that of consuming the next byte: the byte, `None` at the end,
-- or `Read` if no byte could be read.
abbrev pub ConsumesNextByte : Result (Option ℕ) StepError → Source → Source → Type 0
ConsumesNextByte (Ok (Some byte)) old new = ConsumesBytes old new (byte ∷ [])
ConsumesNextByte (Ok None) old new = ConsumesToEnd old new []
ConsumesNextByte (Err errors.Read) old new = ConsumesAndFails old new []
ConsumesNextByte (Err e) old new = ⊥

-- `ConsumesByteWithinText result old new` holds if `result` is that of consuming the next byte within a text: the byte,
-- `Cut` at the end, or `Read` if no byte could be read.
abbrev pub ConsumesByteWithinText : Result ℕ StepError → Source → Source → Type 0
ConsumesByteWithinText (Ok byte) old new = ConsumesBytes old new (byte ∷ [])
ConsumesByteWithinText (Err errors.Cut) old new = ConsumesToEnd old new []
ConsumesByteWithinText (Err errors.Read) old new = ConsumesAndFails old new []
ConsumesByteWithinText (Err e) old new = ⊥

-- `ReadsValue F result old new` holds if `result` says what was consumed. With `Ok`, it is the text of the value. With
-- `Cut`, `Read` and `OutOfMemory`, it is a proper prefix of a text, and then the bytes ended, could not be read, or
-- could not be stored, so that no more were read. With `BadByte`, it is such a prefix, and a byte with which no text
-- continues.
abbrev pub ReadsValue : {A : Type 0} → Format A → Result A StepError → Source → Source → Type 0
ReadsValue F (Ok x) old new = (text : List ℕ) × ConsumesBytes old new text × F x text
ReadsValue F (Err errors.Cut) old new = (text : List ℕ) × ConsumesToEnd old new text × IsProperPrefix F text
ReadsValue F (Err errors.BadByte) old new =
    (front : List ℕ) × (byte : ℕ) × ConsumesBytes old new (front ++ byte ∷ []) × IsProperPrefix F front × (IsPrefixOfText F (front ++ byte ∷ []) → ⊥)
ReadsValue F (Err errors.Read) old new = (text : List ℕ) × ConsumesAndFails old new text × IsProperPrefix F text
ReadsValue F (Err errors.OutOfMemory) old new = (text : List ℕ) × ConsumesAllGiven old new text × IsProperPrefix F text
ReadsValue F (Err errors.Ends) old new = ⊥
ReadsValue F (Err errors.HasFailed) old new = ⊥

-- `ReadsFromInput F r seen old new` holds if `ReadsValue` holds for a value that was read through an input.
abbrev pub ReadsFromInput : {A R : Type 0} → Format A → Result A StepError → (R → Reader) → Input R → Input R → Type 0
ReadsFromInput F r seen old new = ReadsValue F r (source_of seen old) (source_of seen new)

-- the result with the value `x`, for a read that stores the value elsewhere
abbrev pub with_result_value : {A : Type 0} → A → Result (Unit {0}) StepError → Result A StepError
with_result_value x (Ok u) = Ok x
with_result_value x (Err e) = Err e

-- the result, with `f` applied to the value
abbrev pub map_result : {A B : Type 0} → (A → B) → Result A StepError → Result B StepError
map_result f (Ok x) = Ok (f x)
map_result f (Err e) = Err e

-- `SpellsFieldsOfTag tag step bytes` holds if `tag` is that of the step, and the bytes spell its fields.
abbrev pub SpellsFieldsOfTag : ℕ → Format Step
SpellsFieldsOfTag tag step bytes = (tag_of step ≡ tag) × SpellsFields step bytes

-- `AnswersStepRead result old new` holds if `result` is that of reading a step, as in `ReadsValue`, or `Ends` if the
-- bytes end between steps, so `Cut` is an end within a step. With `OutOfMemory`, the bytes given after the steps before
-- it are a proper prefix of a step, of at least one byte.
abbrev pub AnswersStepRead : Result Step StepError → Source → Source → Type 0
AnswersStepRead (Ok step) old new = (text : List ℕ) × ConsumesBytes old new text × SpellsStep step text
AnswersStepRead (Err errors.Ends) old new = ConsumesToEnd old new []
AnswersStepRead (Err errors.Cut) old new = (tag : ℕ) × (more : List ℕ) × ConsumesToEnd old new (tag ∷ more) × IsProperPrefix SpellsStep (tag ∷ more)
AnswersStepRead (Err errors.BadByte) old new =
    (front : List ℕ) × (byte : ℕ) × ConsumesBytes old new (front ++ byte ∷ []) × IsProperPrefix SpellsStep front
    × (IsPrefixOfText SpellsStep (front ++ byte ∷ []) → ⊥)
AnswersStepRead (Err errors.Read) old new = (text : List ℕ) × ConsumesAndFails old new text × IsProperPrefix SpellsStep text
AnswersStepRead (Err errors.OutOfMemory) old new =
    (tag : ℕ) × (more : List ℕ) × ConsumesAllGiven old new (tag ∷ more) × IsProperPrefix SpellsStep (tag ∷ more)
AnswersStepRead (Err errors.HasFailed) old new = ⊥
