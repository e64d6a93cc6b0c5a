-- The effect of the bytes that a parser of formulas is fed.
use Rattle.std.specs.Borrow.{MutBor}
use Rattle.std.specs.Io.KnownBytes.{IsAtEnd}
use Rattle.std.specs.List.{FoldsTo, concat}
use Rattle.std.specs.Prelude.{◌≡◌, ◌<◌, ◌≤◌, ◌+◌, ◌⊎◌, ◌-◌, ℕ, length, get_or, nat_eq, List, [], ◌∷◌, ◌++◌, Bool, true, false, ◌||◌, Option, None, Some, Result, Ok, Err, if◌then◌else◌}
use Rattle.sat_base.specs.device.Device.{Reader, CouldStillGive, GavePrefix, GaveEnough, max_read_size}
use Rattle.sat_base.specs.text.Text.{is_blank, Token, Number, scan, tokens, HasEnded, dimacs_header, line_feed}
use Rattle.sat_base.specs.text.WrongWords.{HasValidContinuation}
use Rattle.sat_base.specs.text.Tokenizing.{capped}
use Rattle.sat_base.specs.values.Formulas.{Formula, clauses_var_count}
use Rattle.sat_base.specs.dimacs.Dimacs.{Ending, Clean, Malformed, Limit, PartialClause, TokenEffect, Continues, EndsClause, Fails, token_effect, dimacs, up_to_last_blank, IsDimacs}
use Rattle.sat_base.specs.declared.dimacs.error.DimacsError.{DimacsError}
use Rattle.sat_base.specs.declared.dimacs.error.IncrementalError.{IncrementalError}
use Rattle.sat_base.specs.declared.dimacs.error.IncrementalError.TheVariants as parts
use Rattle.sat_base.specs.declared.dimacs.error.DimacsError.TheVariants as errors

-- what a caller knows about a parser: the bytes that it accepted, the clauses taken, and whether it stopped or the text
-- ended
pub record Progress : Type 0 where
  pub fed : List ℕ  -- the bytes that the parser accepted
  pub taken : List (List ℕ)  -- the clauses that were taken from the parser
  pub stopped : Bool  -- whether the parser accepts no more bytes
  pub ended : Bool  -- whether the text has ended: it was finished, or has a fault

-- the progress of a new parser, which has accepted no byte
abbrev pub no_progress : Progress
no_progress = record { fed = []; taken = []; stopped = false; ended = false }

-- the progress after more bytes were accepted
abbrev pub with_fed : List ℕ → Progress → Progress
with_fed bytes p = record p { fed = p.fed ++ bytes }

-- the progress after the parser stopped because memory ran out
abbrev pub stopped_by_memory : Progress → Progress
stopped_by_memory p = record p { stopped = true }

-- the progress after the parser stopped because the text has ended
abbrev pub stopped_at_end : Progress → Progress
stopped_at_end p = record p { stopped = true; ended = true }

-- the accepted bytes up to and including the last blank, so that all words have ended; all accepted bytes if the text
-- has ended
abbrev pub words_read : Progress → List ℕ
words_read p = if p.ended then p.fed else up_to_last_blank p.fed

-- the clauses that are complete in the words read so far, whether taken from the parser or not
abbrev pub clauses_read : Progress → List (List ℕ)
clauses_read p = (dimacs (words_read p)).clauses

-- the progress after every clause read so far was taken
abbrev pub with_all_taken : Progress → Progress
with_all_taken p = record p { taken = clauses_read p }

-- `has_LF bytes` is true if one of the bytes is LF.
abbrev pub has_LF : List ℕ → Bool
has_LF [] = false
has_LF (b ∷ bs) = nat_eq b line_feed || has_LF bs

-- the text up to and including its last LF; empty if it has none
abbrev pub whole_lines : List ℕ → List ℕ
whole_lines [] = []
whole_lines (b ∷ bs) = if has_LF (b ∷ bs) then b ∷ whole_lines bs else []

-- the accepted bytes up to and including the last LF, so that all lines have ended; all accepted bytes if the text has
-- ended
abbrev pub lines_read : Progress → List ℕ
lines_read p = if p.ended then p.fed else whole_lines p.fed

-- the numbers of variables and clauses of a header, if there is one, each capped at 2^64 - 1
abbrev pub capped_header : Option (ℕ × ℕ) → Option (ℕ × ℕ)
capped_header None = None
capped_header (Some h) = Some (capped h.0, capped h.1)

-- `HasEndedWith ending p` holds if, however the text continues, its clauses are those already read and its ending is
-- `ending`.
abbrev pub HasEndedWith : Ending → Progress → Type 0
HasEndedWith ending p = (rest : List ℕ) → dimacs (p.fed ++ rest) ≡ record { clauses = clauses_read p; ending = ending }

-- `NoFaultAndThen effect more` holds if `effect` is not a fault, and `more` holds for the unfinished clause after it.
abbrev pub NoFaultAndThen : TokenEffect → (PartialClause → Type 0) → Type 0
NoFaultAndThen (Continues unfinished) more = more unfinished
NoFaultAndThen (EndsClause clause) more = more None
NoFaultAndThen (Fails ending) more = ⊥

-- `HaveNoFault unfinished ts` holds if none of the tokens is a fault, if the clause `unfinished`, or none, is
-- unfinished before them.
abbrev pub HaveNoFault : PartialClause → List (ℕ × Token) → Type 0
HaveNoFault unfinished [] = Unit {0}
HaveNoFault unfinished (t ∷ ts) = NoFaultAndThen (token_effect unfinished t.0 t.1) (λ h. HaveNoFault h ts)

-- `TextHasNoFault text` holds if no complete line of the text has a fault, and the text can continue without a wrong
-- word.
pub record TextHasNoFault (text : List ℕ) : Type 0 where
  pub lines : HaveNoFault None (tokens (whole_lines text))
  pub words : HasValidContinuation (λ rest. scan (text ++ rest))

-- `HasNoFaultSoFar p` holds if the bytes that the parser has accepted have no fault on their complete lines, and can
-- continue without a wrong word.
abbrev pub HasNoFaultSoFar : Progress → Type 0
HasNoFaultSoFar p = TextHasNoFault p.fed

-- `GaveTextWithoutFault old new` holds if `TextHasNoFault` holds for what the reader gave, and the text ends cleanly if
-- the reader found its end.
abbrev pub GaveTextWithoutFault : Reader → Reader → Type 0
GaveTextWithoutFault old new = (text : List ℕ) × GavePrefix old new text × TextHasNoFault text
    × (old.calls < new.calls → new.ended ≡ true → (dimacs text).ending ≡ Clean)

-- `EndsInLastPiece text` holds if fewer than 4096 bytes, the most that one read gives, follow any prefix of `text` that
-- a line beginning with `%` has ended.
abbrev pub EndsInLastPiece : List ℕ → Type 0
EndsInLastPiece text = (front rest : List ℕ) → text ≡ front ++ rest → HasEnded front → length rest < max_read_size

-- `LastReadGaveBytes old new` holds if no read was made between `old` and `new`, or the last one neither failed nor
-- found the end.
abbrev pub LastReadGaveBytes : Reader → Reader → Type 0
LastReadGaveBytes old new = old.calls < new.calls → (new.failed ≡ false) × (new.ended ≡ false)

-- `MakesNoReadAfterEnd old new` holds if, once a line that begins with `%` has ended the text that the reader gave,
-- `EndsInLastPiece` and `LastReadGaveBytes` hold. So no read was made after the one that gave this line: whoever makes
-- one can't rule out that it fails or finds the end.
abbrev pub MakesNoReadAfterEnd : Reader → Reader → Type 0
MakesNoReadAfterEnd old new = (text : List ℕ) × GavePrefix old new text × EndsInLastPiece text × (HasEnded text → LastReadGaveBytes old new)

-- `EndsAtFault ending piece old new` holds if the parser accepted the prefix of `piece` up to and including the byte
-- that shows a fault, and then stopped: the text ends with `ending`, whatever follows.
pub record EndsAtFault (ending : Ending) (piece : List ℕ) (old new : Progress) : Type 0 where
  pub front : List ℕ
  pub following : List ℕ
  pub whole : piece ≡ front ++ following
  pub progress : new ≡ stopped_at_end (with_fed front old)
  pub ends : HasEndedWith ending new

-- the last byte of a text, or LF if the text is empty
abbrev pub last_byte : List ℕ → ℕ
last_byte text = get_or text (length text - 1) line_feed

-- `EndsNumber text whole` holds if `text` does not end with a blank, and the last token of `whole` (used with `text`
-- itself, or `text` and a blank) is a number on the last line of `whole`.
pub record EndsNumber (text whole : List ℕ) : Type 0 where
  pub in_word : is_blank (last_byte text) ≡ false
  pub before : List (ℕ × Token)
  pub negative : Bool
  pub value : ℕ
  pub number : tokens whole ≡ before ++ ((scan whole).last, Number negative value) ∷ []

-- `NeedsMemoryAt text byte` holds if `byte` is a blank that ends a number after this text, and no word so far is a
-- fault. So the parser may need memory there.
pub record NeedsMemoryAt (text : List ℕ) (byte : ℕ) : Type 0 where
  pub blank : is_blank byte ≡ true
  pub number : EndsNumber text (text ++ byte ∷ [])
  pub sound : HaveNoFault None (tokens (text ++ byte ∷ []))

-- `NeedsMemoryAtEnd text` holds if the text ends cleanly with a number, which is then a zero, and no line that begins
-- with `%` has ended it earlier. So the parser may need memory at its end.
pub record NeedsMemoryAtEnd (text : List ℕ) : Type 0 where
  pub number : EndsNumber text text
  pub clean : (dimacs text).ending ≡ Clean
  pub goes_on : HasEnded text → ⊥

-- `RunsOutWithinPiece piece old new` holds if a prefix of the piece was accepted, and memory ran out at the next byte.
pub record RunsOutWithinPiece (piece : List ℕ) (old new : Progress) : Type 0 where
  pub front : List ℕ
  pub byte : ℕ
  pub following : List ℕ
  pub whole : piece ≡ front ++ byte ∷ following
  pub progress : new ≡ stopped_by_memory (with_fed front old)
  pub well : NeedsMemoryAt (old.fed ++ front) byte

-- `HasFaultOn line ending text` holds if the text has a fault on `line` (capped at 2^64 - 1), whatever bytes follow;
-- `ending` is its kind, `Malformed` or `Limit`.
abbrev pub HasFaultOn : ℕ → (ℕ → Ending) → List ℕ → Type 0
HasFaultOn line ending text = (n : ℕ) × (line ≡ capped n) × ((rest : List ℕ) → (dimacs (text ++ rest)).ending ≡ ending n)

-- `ReportsEnded flag p` holds if `flag` says whether the parser has not stopped and a line that begins with `%` has
-- ended its text.
abbrev pub ReportsEnded : Bool → Progress → Type 0
ReportsEnded true p = (p.stopped ≡ false) × HasEnded p.fed
ReportsEnded false p = (p.stopped ≡ true) ⊎ (HasEnded p.fed → ⊥)

-- `FeedsPiece result piece old new` holds if `feed` with `result` has led from `old` to `new`: the piece was accepted,
-- a prefix of it up to a fault or until memory ran out, or nothing because the parser had stopped.
abbrev pub FeedsPiece : Result (Unit {0}) DimacsError → List ℕ → Progress → Progress → Type 0
FeedsPiece (Ok u) piece old new = (old.stopped ≡ false) × (new ≡ with_fed piece old)
FeedsPiece (Err (errors.Malformed line)) piece old new =
    (old.stopped ≡ false) × (n : ℕ) × (line ≡ capped n) × EndsAtFault (Malformed n) piece old new
FeedsPiece (Err (errors.Limit line)) piece old new = (old.stopped ≡ false) × (n : ℕ) × (line ≡ capped n) × EndsAtFault (Limit n) piece old new
FeedsPiece (Err errors.OutOfMemory) piece old new = (old.stopped ≡ false) × RunsOutWithinPiece piece old new
FeedsPiece (Err errors.HasFailed) piece old new = (old.stopped ≡ true) × (new ≡ old)
FeedsPiece (Err errors.Read) piece old new = ⊥

-- `FinishEffect result old new` holds if `finish` with `result` has led from `old` to `new`: the text has ended,
-- cleanly or with a fault, memory ran out, or the parser had stopped.
abbrev pub FinishEffect : Result (Unit {0}) DimacsError → Progress → Progress → Type 0
FinishEffect (Ok u) old new = (old.stopped ≡ false) × (new ≡ stopped_at_end old) × ((dimacs old.fed).ending ≡ Clean)
FinishEffect (Err (errors.Malformed line)) old new = (old.stopped ≡ false) × (new ≡ stopped_at_end old) × (n : ℕ) × (line ≡ capped n)
    × ((dimacs old.fed).ending ≡ Malformed n)
FinishEffect (Err (errors.Limit line)) old new = (old.stopped ≡ false) × (new ≡ stopped_at_end old) × (n : ℕ) × (line ≡ capped n)
    × ((dimacs old.fed).ending ≡ Limit n)
FinishEffect (Err errors.OutOfMemory) old new = (old.stopped ≡ false) × (new ≡ stopped_by_memory old) × NeedsMemoryAtEnd old.fed
FinishEffect (Err errors.HasFailed) old new = (old.stopped ≡ true) × (new ≡ old)
FinishEffect (Err errors.Read) old new = ⊥

-- `RefusesPiece e piece old` holds if `e` is why the piece is refused: it has a fault, however the text continues;
-- memory ran out within it, and it has no fault; or the parser has stopped.
abbrev pub RefusesPiece : DimacsError → List ℕ → Progress → Type 0
RefusesPiece (errors.Malformed line) piece old = HasFaultOn line Malformed (old.fed ++ piece)
RefusesPiece (errors.Limit line) piece old = HasFaultOn line Limit (old.fed ++ piece)
RefusesPiece errors.OutOfMemory piece old = ((new : Progress) × RunsOutWithinPiece piece old new) × TextHasNoFault (old.fed ++ piece)
RefusesPiece errors.HasFailed piece old = old.stopped ≡ true
RefusesPiece errors.Read piece old = ⊥

-- `RunsOutWhileParsing text` holds if memory ran out where a number of the text ends, and no word up to that number is
-- a fault.
abbrev pub RunsOutWhileParsing : List ℕ → Type 0
RunsOutWhileParsing text = ((front : List ℕ) × (byte : ℕ) × (following : List ℕ) × (text ≡ front ++ byte ∷ following) × NeedsMemoryAt front byte)
    ⊎ NeedsMemoryAtEnd text

-- `Parses result text` holds if `result` is that of parsing the complete text: the formula, with as many variables as
-- its clauses need, a fault with its line (capped), or `OutOfMemory` if memory may run out. `Read` says nothing of the
-- text.
abbrev pub Parses : Result Formula DimacsError → List ℕ → Type 0
Parses (Ok f) text = IsDimacs text f.clauses Clean × (f.var_count ≡ clauses_var_count f.clauses)
Parses (Err (errors.Malformed line)) text = (n : ℕ) × (line ≡ capped n) × ((dimacs text).ending ≡ Malformed n)
Parses (Err (errors.Limit line)) text = (n : ℕ) × (line ≡ capped n) × ((dimacs text).ending ≡ Limit n)
Parses (Err errors.OutOfMemory) text = RunsOutWhileParsing text
Parses (Err errors.Read) text = Unit {0}
Parses (Err errors.HasFailed) text = ⊥

-- which calls a closure can make: its state, the borrowed parser, its result, and then the parser and its state
-- afterwards
abbrev pub ClosureCalls : Type 0 → Type 0 → Type 1
ClosureCalls F E = F → MutBor Progress → Result (Unit {0}) E → MutBor Progress → F → Type 0

-- `EachOnlyTakesClauses calls f ps` holds if successive calls with these parsers change only which clauses were taken.
abbrev pub EachOnlyTakesClauses : {F E : Type 0} → ClosureCalls F E → F → List (MutBor Progress) → Type 0
EachOnlyTakesClauses calls f [] = Unit {0}
EachOnlyTakesClauses {F} {E} calls f (p ∷ ps) =
    (answer : Result (Unit {0}) E) (q : MutBor Progress) (g : F) → calls f p answer q g
    → (q.now ≡ record p.now { taken = q.now.taken }) × EachOnlyTakesClauses calls g ps

-- `OnlyTakesClauses calls f` holds if every call of the closure, now and later, changes only which clauses were taken,
-- as `take_formula` does.
abbrev pub OnlyTakesClauses : {F E : Type 0} → ClosureCalls F E → F → Type 0
OnlyTakesClauses calls f = (ps : List (MutBor Progress)) → EachOnlyTakesClauses calls f ps

-- `HasReadCleanly p text` holds if the parser has read the complete text, which ends cleanly.
abbrev pub HasReadCleanly : Progress → List ℕ → Type 0
HasReadCleanly p text = (p.fed ≡ text) × (p.stopped ≡ true) × (p.ended ≡ true) × ((dimacs text).ending ≡ Clean)

-- `FormulaIsDetermined old new text` holds if no bytes that the reader could still give after `text` (none if it found
-- the end between `old` and `new`) change its clauses, its ending or its header.
abbrev pub FormulaIsDetermined : Reader → Reader → List ℕ → Type 0
FormulaIsDetermined old new text = (rest : List ℕ) → CouldStillGive old new rest
    → (dimacs (text ++ rest) ≡ dimacs text) × (dimacs_header (text ++ rest) ≡ dimacs_header text)

-- `ParsesInParts old new result` holds if `result` is that of parsing what the reader gave between `old` and `new`: the
-- text was read cleanly to where it is determined, or `result` reports a fault. Nothing is said if the caller's closure
-- failed.
abbrev pub ParsesInParts : {E : Type 0} → Reader → Reader → Result Progress (IncrementalError E) → Type 0
ParsesInParts old new (Ok p) = (text : List ℕ) × GavePrefix old new text × HasReadCleanly p text × FormulaIsDetermined old new text
ParsesInParts old new (Err (parts.Dimacs e)) = GaveEnough old new (Parses (Err e))
ParsesInParts old new (Err (parts.Caller e)) = Unit {0}

-- `CallsClosure calls s answer t` holds if the closure is called with the parser and returns `answer`. The closure and
-- the parser are `s` before the call, and `t` after it.
abbrev pub CallsClosure : {F E : Type 0} → ClosureCalls F E → F × Progress → Result (Unit {0}) E → F × Progress → Type 0
CallsClosure calls s answer t = (p : MutBor Progress) × (q : MutBor Progress) × (p.now ≡ s.1) × (q.now ≡ t.1) × calls s.0 p answer q t.0

-- `FeedsAndCallsClosure calls s piece t` holds if the parser accepts all of the nonempty `piece`, without a fault so
-- far, and then the closure is called and returns `Ok`; `s` and `t` are the closure's state and the parser before and
-- after.
abbrev pub FeedsAndCallsClosure : {F E : Type 0} → ClosureCalls F E → F × Progress → List ℕ → F × Progress → Type 0
FeedsAndCallsClosure calls s piece t = (0 < length piece) × (fed : Progress) × FeedsPiece (Ok tt) piece s.1 fed × HasNoFaultSoFar fed
    × CallsClosure calls (s.0, fed) (Ok tt) t

-- `AnswersLastPiece answer piece reader old new` holds if `answer` is that of feeding the last piece or, if the piece
-- is empty, of the end of the text.
abbrev pub AnswersLastPiece : Result (Unit {0}) DimacsError → List ℕ → Reader × Reader → Progress → Progress → Type 0
AnswersLastPiece answer piece reader old new =
    ((0 < length piece) × FeedsPiece answer piece old new) ⊎ ((piece ≡ []) × FormulaIsDetermined reader.0 reader.1 old.fed × FinishEffect answer old new)

-- `LastClosureCall calls piece reader result s` holds if, from the closure's state and parser `s`, feeding the last
-- `piece`, or ending the text if it is empty, leads to `result`, with one more call of the closure unless a read
-- failed.
abbrev pub LastClosureCall : {F E : Type 0} → ClosureCalls F E → List ℕ → Reader × Reader → Result Progress (IncrementalError E) → F × Progress
    → Type 0
LastClosureCall {F} calls piece reader (Ok p) s = (piece ≡ []) × FormulaIsDetermined reader.0 reader.1 s.1.fed × (mid : Progress) × (f : F)
    × FinishEffect (Ok tt) s.1 mid × CallsClosure calls (s.0, mid) (Ok tt) (f, p)
LastClosureCall {F} calls piece reader (Err (parts.Dimacs e)) s = ((e ≡ errors.Read) × (piece ≡ []))
    ⊎ ((mid : Progress) × (t : F × Progress) × AnswersLastPiece (Err e) piece reader s.1 mid × CallsClosure calls (s.0, mid) (Ok tt) t)
LastClosureCall {F} calls piece reader (Err (parts.Caller e)) s = (answer : Result (Unit {0}) DimacsError) × (mid : Progress)
    × (t : F × Progress) × AnswersLastPiece answer piece reader s.1 mid × CallsClosure calls (s.0, mid) (Err e) t

-- `CallsClosureForAll calls f old new result` holds if the reader gave pieces, each of which was fed to a new parser
-- and followed by a call of the closure, and the last piece or the end then led to `result`, again with a call; at most
-- one read was made besides.
pub record CallsClosureForAll {F E : Type 0} (calls : ClosureCalls F E) (f : F) (old new : Reader) (result : Result Progress (IncrementalError E)) : Type 0 where
  pub pieces : List (List ℕ)
  pub last : List ℕ
  pub seen : F × Progress
  pub folds : FoldsTo (FeedsAndCallsClosure calls) (f, no_progress) pieces seen
  pub visit : LastClosureCall calls last (old, new) result seen
  pub front : GavePrefix old new (concat pieces ++ last)
  pub over : new.ended ≡ true → IsAtEnd new.to_come
  pub least : old.calls + length pieces ≤ new.calls
  pub most : new.calls ≤ old.calls + length pieces + 1
