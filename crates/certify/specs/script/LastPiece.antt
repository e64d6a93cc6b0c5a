-- Readers whose bytes are read ahead.
use Rattle.std.specs.Prelude.{ℕ, ◌+◌, ◌-◌, ◌≡◌, Bool, true, false, List, [], take, drop, Result, Ok, Err}
use Rattle.std.specs.Io.KnownBytes.{IsAtEnd}
use Rattle.sat_base.specs.device.Device.{Reader}
use Rattle.sat_base.specs.device.Reading.{Source, AtEnd, ConsumesWithReads, ConsumesBytes, IsFullyConsumed, ConsumesAndFails, one_if_none_given}
use Rattle.sat_base.specs.declared.device.whole.ReadError.{ReadError}
use Rattle.sat_base.specs.declared.device.whole.ReadError.TheVariants as errors
use Rattle.certify.specs.declared.script.ahead.LastPiece.{LastPiece}

-- the bytes that were read but not consumed yet
abbrev pub waiting_bytes : LastPiece → List ℕ
waiting_bytes a = take (a.end - a.at) (drop a.at a.piece)

-- a reader, and the bytes read ahead from it
abbrev pub source_in : {R : Type 0} → (R → Reader) → R → LastPiece → Source
source_in seen r a = record { reader = seen r; waiting = waiting_bytes a; reads = a.reads; names = [] }

-- `RefillsAhead result old new` holds if another chunk was read, and its length was returned, which is 0 only at the
-- end; with an error, the read failed.
abbrev pub RefillsAhead : Result ℕ ReadError → Source → Source → Type 0
RefillsAhead (Ok n) old new = ConsumesWithReads (one_if_none_given n) old new [] × (n ≡ 0 → IsFullyConsumed new)
RefillsAhead (Err errors.Failed) old new = ConsumesAndFails old new []
RefillsAhead (Err errors.OutOfMemory) old new = ⊥

-- `IsNotAtEnd s` holds if the reader is not at its end.
abbrev pub IsNotAtEnd : Source → Type 0
IsNotAtEnd s = AtEnd s → ⊥

-- `ConsumesSome goes old new` holds if some bytes were consumed, possibly none. If `goes` is false, the end may have
-- been found.
abbrev pub ConsumesSome : Bool → Source → Source → Type 0
ConsumesSome true old new = (text : List ℕ) × ConsumesBytes old new text
ConsumesSome false old new = ((text : List ℕ) × ConsumesWithReads 1 old new text) × (AtEnd new → IsAtEnd new.reader.to_come)

-- `ConsumesSomeOrEnds old new` holds if some bytes were consumed, possibly none, and at most one read gave nothing.
abbrev pub ConsumesSomeOrEnds : Source → Source → Type 0
ConsumesSomeOrEnds old new = (text : List ℕ) × ConsumesWithReads 1 old new text

-- `NoReadFailedAhead old new` holds if no read failed, and the calls of the reader are those counted in `reads`.
abbrev pub NoReadFailedAhead : Source → Source → Type 0
NoReadFailedAhead old new = (new.reader.failures ≡ old.reader.failures) × (new.reader.calls + old.reads ≡ old.reader.calls + new.reads)

-- `ReadFailsAhead old new` holds if a read failed, or there were already 2^48 reads.
abbrev pub ReadFailsAhead : Source → Source → Type 0
ReadFailsAhead old new = (text : List ℕ) × ConsumesAndFails old new text
