-- What contracts see of the calls of a device: which failed, which bytes a reader gave, and which a writer accepted.
use Rattle.std.specs.Prelude.{Bool, true, false, Option, ◌≡◌, ℕ, ◌+◌, ◌^◌, ◌≤◌, ◌<◌, ◌⊎◌, List, [], ◌∷◌, length, ◌++◌, take, Result, MatchResult, if◌then◌else◌, ◌&&◌, nat_eq, nat_lt, is_ok}
use Rattle.std.specs.Io.KnownBytes.{Consumes, IsAtEnd, ReadConsumes, Appends, WriteAppends, Keeps}

-- the state of a reader, as contracts describe it
pub record Reader : Type 0 where
  pub to_come : Option (List ℕ)  -- the bytes still to come, if they are known
  pub given : List ℕ  -- all bytes that the reader has given so far
  pub ended : Bool  -- whether the last read gave nothing although there was room
  pub failed : Bool  -- whether the last call failed
  pub failures : ℕ  -- the number of reads that failed
  pub calls : ℕ  -- the number of reads
  pub loans : List ℕ  -- the chain of borrows through which the reader was passed, latest first

-- the state of a writer, as contracts describe it
pub record Writer : Type 0 where
  pub contents : Option (List ℕ)  -- what it holds, if that is known
  pub taken : List ℕ  -- all bytes that it has accepted so far
  pub flushed : Bool  -- whether the last call was a flush that did not fail
  pub failed : Bool  -- whether the last call failed
  pub failures : ℕ  -- the number of calls that failed
  pub calls : ℕ  -- the number of writes and flushes
  pub flushes : ℕ  -- the number of flushes that did not fail
  pub loans : List ℕ  -- the chain of borrows through which the writer was passed, latest first

-- the reader, passed through one more borrow, `name`
abbrev pub lent_reader : ℕ → Reader → Reader
lent_reader name r = record r { loans = name ∷ r.loans }

-- the writer, passed through one more borrow, `name`
abbrev pub lent_writer : ℕ → Writer → Writer
lent_writer name w = record w { loans = name ∷ w.loans }

-- ONE CALL

-- `CountsFailedCall r old new failed` holds if the number of failed calls rises by 1 when the result is an `Err`, and
-- otherwise stays the same; `failed` says whether it rises.
abbrev pub CountsFailedCall : {T E : Type 0} → Result T E → ℕ → ℕ → Bool → Type 0
CountsFailedCall r old new failed = MatchResult r (λ _. (new ≡ old) × (failed ≡ false)) (λ _. (new ≡ old + 1) × (failed ≡ true))

-- `accepts_none n piece` is true if `n`, the number of bytes that a write accepted, is 0 although the piece is not
-- empty.
abbrev pub accepts_none : ℕ → List ℕ → Bool
accepts_none n piece = nat_eq n 0 && nat_lt 0 (length piece)

-- `CountsFailedWrite r piece old new failed` holds if the number of failed calls rises by 1 when the write returns an
-- `Err` or accepts no byte of a nonempty piece, and otherwise stays the same; `failed` says whether it rises.
abbrev pub CountsFailedWrite : {E : Type 0} → Result ℕ E → List ℕ → ℕ → ℕ → Bool → Type 0
CountsFailedWrite r piece old new failed = MatchResult r
    (λ n. (new ≡ (if accepts_none n piece then old + 1 else old)) × (failed ≡ accepts_none n piece))
    (λ _. (new ≡ old + 1) × (failed ≡ true))

-- `AppendsPrefix r piece old new` holds if the call appends the first n bytes of `piece` to `old` if it returns `Ok n`,
-- and nothing if it fails.
abbrev pub AppendsPrefix : {E : Type 0} → Result ℕ E → List ℕ → List ℕ → List ℕ → Type 0
AppendsPrefix r piece old new = MatchResult r (λ n. new ≡ old ++ take n piece) (λ _. new ≡ old)

-- `FindsEndIfNone r piece ended` holds if `ended` is true exactly if the read with result `r` succeeded and gave no
-- byte, although its buffer `piece` is not empty.
abbrev pub FindsEndIfNone : {E : Type 0} → Result ℕ E → List ℕ → Bool → Type 0
FindsEndIfNone r piece ended = MatchResult r (λ n. ended ≡ (nat_eq n 0 && nat_lt 0 (length piece))) (λ _. ended ≡ false)

-- `ReadsOnce r room old new` holds if `new` is what one read with result `r` makes of the reader `old`. `room` is the
-- complete buffer after the read. If the result is `Ok n`, the first n bytes of `room` are those that were read.
pub record ReadsOnce {E : Type 0} (r : Result ℕ E) (room : List ℕ) (old new : Reader) : Type 0 where
  pub known_bytes : ReadConsumes old.to_come new.to_come r room
  pub given : AppendsPrefix r room old.given new.given
  pub ended : FindsEndIfNone r room new.ended
  pub failures : CountsFailedCall r old.failures new.failures new.failed
  pub calls : new.calls ≡ old.calls + 1
  pub loans : new.loans ≡ old.loans

-- `WritesOnce r piece old new` holds if `new` is the writer `old` after one write of `piece` with result `r`. If it is
-- `Ok n`, the first n bytes were accepted; accepting none of a nonempty piece counts as a failed call.
pub record WritesOnce {E : Type 0} (r : Result ℕ E) (piece : List ℕ) (old new : Writer) : Type 0 where
  pub known_bytes : WriteAppends old.contents new.contents r piece
  pub taken : AppendsPrefix r piece old.taken new.taken
  pub flushed : new.flushed ≡ false
  pub flushes : new.flushes ≡ old.flushes
  pub failures : CountsFailedWrite r piece old.failures new.failures new.failed
  pub calls : new.calls ≡ old.calls + 1
  pub loans : new.loans ≡ old.loans

-- `CountsFlush r old new` holds if the number of flushes rises by 1 when the flush does not fail, and otherwise stays
-- the same.
abbrev pub CountsFlush : {T E : Type 0} → Result T E → ℕ → ℕ → Type 0
CountsFlush r old new = MatchResult r (λ _. new ≡ old + 1) (λ _. new ≡ old)

-- `FlushesOnce r old new` holds if `new` is what one flush with result `r` makes of the writer `old`.
pub record FlushesOnce {E : Type 0} (r : Result (Unit {0}) E) (old new : Writer) : Type 0 where
  pub known_bytes : Keeps old.contents new.contents
  pub taken : new.taken ≡ old.taken
  pub flushed : new.flushed ≡ is_ok r
  pub flushes : CountsFlush r old.flushes new.flushes
  pub failures : CountsFailedCall r old.failures new.failures new.failed
  pub calls : new.calls ≡ old.calls + 1
  pub loans : new.loans ≡ old.loans

-- WHAT A READER GAVE

-- `GavePrefix old new text` holds if the reader gave `text` between `old` and `new`. If its bytes still to come were
-- known, they began with `text`.
pub record GavePrefix (old new : Reader) (text : List ℕ) : Type 0 where
  pub gave : new.given ≡ old.given ++ text
  pub known_bytes : Consumes old.to_come new.to_come text
  pub loans : new.loans ≡ old.loans

-- `FewReads old new` holds if the number of reads between `old` and `new` is at most one more than the number of bytes
-- given between them.
abbrev pub FewReads : Reader → Reader → Type 0
FewReads old new = new.calls + length old.given ≤ old.calls + length new.given + 1

-- `HasFoundEnd r` holds if the last read found the end, and no bytes are known to be still to come.
pub record HasFoundEnd (r : Reader) : Type 0 where
  pub ends : r.ended ≡ true
  pub over : IsAtEnd r.to_come

-- `GaveAll old new text` holds if the reader gave `text` between `old` and `new`, in at least one read and in few
-- (`FewReads`), and the last read found the end. If its bytes to come were known, they were `text`.
pub record GaveAll (old new : Reader) (text : List ℕ) : Type 0 where
  pub gave : new.given ≡ old.given ++ text
  pub ends : new.ended ≡ true
  pub known_bytes : Consumes old.to_come new.to_come text
  pub over : IsAtEnd new.to_come
  pub called : old.calls < new.calls
  pub few : FewReads old new
  pub loans : new.loans ≡ old.loans

-- `CouldStillGive old new rest` holds if, by its reads alone, the reader could still give the bytes `rest`. If a read
-- was made since `old`, and the last read found the end, `rest` is empty. Otherwise `rest` can be any bytes.
abbrev pub CouldStillGive : Reader → Reader → List ℕ → Type 0
CouldStillGive old new rest = old.calls < new.calls → new.ended ≡ true → rest ≡ []

-- `GaveEnough old new P` holds if, between `old` and `new`, the reader gave a text such that P holds of it, followed by
-- any bytes that the reader could still give (`CouldStillGive`). So the bytes that were read are enough to establish P.
-- Reads were few, and no bytes are known to follow the end.
pub record GaveEnough (old new : Reader) (P : List ℕ → Type 0) : Type 0 where
  pub text : List ℕ
  pub front : GavePrefix old new text
  pub over : old.calls < new.calls → new.ended ≡ true → IsAtEnd new.to_come
  pub few : FewReads old new
  pub holds : (rest : List ℕ) → CouldStillGive old new rest → P (text ++ rest)

-- `GaveMore old new` holds if the reader gave a text, possibly empty, between `old` and `new`, with at most one more
-- read than bytes given.
abbrev pub GaveMore : Reader → Reader → Type 0
GaveMore old new = (text : List ℕ) × GavePrefix old new text × FewReads old new

-- the limit on the number of reads that one call of the crate makes, 2^48
abbrev pub max_reads : ℕ
max_reads = 2 ^ 48

-- the largest number of bytes of one read, 4096
abbrev pub max_read_size : ℕ
max_read_size = 4096

-- `LastCallFails old new` holds if exactly one call failed, and it was the last.
abbrev pub LastCallFails : Reader → Reader → Type 0
LastCallFails old new = (new.failures ≡ old.failures + 1) × (new.failed ≡ true)

-- `ReadsAreExhausted old new` holds if 2^48 reads were made, and none failed.
abbrev pub ReadsAreExhausted : Reader → Reader → Type 0
ReadsAreExhausted old new = (new.failures ≡ old.failures) × (new.calls ≡ old.calls + max_reads)

-- `ReadFails old new` holds if exactly one call failed, which was the last, or none failed and 2^48 reads were made;
-- and there was at most one more read than bytes given.
abbrev pub ReadFails : Reader → Reader → Type 0
ReadFails old new = (LastCallFails old new ⊎ ReadsAreExhausted old new) × FewReads old new

-- WHAT A WRITER ACCEPTED

-- `WriterAccepts old new text` holds if the writer accepted `text` between `old` and `new`, and no call failed. Apart
-- from flushes, there were at most as many calls as bytes. If its contents were known, they grew by `text`.
pub record WriterAccepts (old new : Writer) (text : List ℕ) : Type 0 where
  pub taken : new.taken ≡ old.taken ++ text
  pub known_bytes : Appends old.contents new.contents text
  pub failures : new.failures ≡ old.failures
  pub calls : old.calls ≤ new.calls
  pub few : new.calls + old.flushes ≤ old.calls + new.flushes + length text
  pub loans : new.loans ≡ old.loans

-- `WriterFails old new text` holds if the writer accepted a prefix of `text` between `old` and `new`, and the last call
-- is the only one that failed. Apart from successful flushes, there was at most one more call than bytes accepted.
pub record WriterFails (old new : Writer) (text : List ℕ) : Type 0 where
  pub front : List ℕ
  pub following : List ℕ
  pub whole : text ≡ front ++ following
  pub taken : new.taken ≡ old.taken ++ front
  pub known_bytes : Appends old.contents new.contents front
  pub failures : new.failures ≡ old.failures + 1
  pub failed : new.failed ≡ true
  pub calls : old.calls < new.calls
  pub few : new.calls + old.flushes ≤ old.calls + new.flushes + length front + 1
  pub loans : new.loans ≡ old.loans

-- `WritesText text r old new` holds if the writer accepted `text`, or the call failed after a prefix of `text`
-- (`WriterFails`); `r` says which.
abbrev pub WritesText : {E : Type 0} → List ℕ → Result (Unit {0}) E → Writer → Writer → Type 0
WritesText text r old new = MatchResult r (λ _. WriterAccepts old new text) (λ _. WriterFails old new text)
