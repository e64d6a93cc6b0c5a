-- What a reader of scripts has consumed, and that no chunk is read once the script is decided.
use Rattle.std.specs.Prelude.{ℕ, ◌≡◌, ◌≤◌, List, ◌++◌, length, Option, Some, None, Result, Ok, Err}
use Rattle.sat_base.specs.device.Device.{Reader, GavePrefix, max_read_size}
use Rattle.sat_base.specs.device.Reading.{Source}
use Rattle.sat_base.specs.dimacs.Parsing.{LastReadGaveBytes}
use Rattle.sat_base.specs.script.Language.{PartialCommand, NoCommand, commands_of, without_lines}
use Rattle.sat_base.specs.text.Position.{prepend_tokens}
use Rattle.sat_base.specs.text.Text.{Token, Scan, scan}
use Rattle.sat_base.specs.text.Tokenizing.{capped, HasRemainingScan}
use Rattle.sat_base.specs.text.WrongWords.{HasValidContinuation}
use Rattle.certify.specs.script.Commands.{HoldsPartialCommand}
use Rattle.certify.specs.script.Decided.{IsDecided, IsDecidedInLastPiece, MakesNoReadOnceDecided}
use Rattle.certify.specs.declared.script.Reached.{Reached}
use Rattle.certify.specs.declared.script.Reached.TheVariants as reached
use Rattle.certify.specs.declared.script.reader.ScriptReader.{ScriptReader}
use Rattle.certify.specs.declared.script.stream.Next.{Next}
use Rattle.certify.specs.declared.script.stream.Next.TheVariants as next

-- `HasConsumed reader text` holds if the reader of scripts has consumed exactly `text` since the start of a script. The
-- tokens of any continuation of `text` are those of `text`, and then those that are still to be read.
pub record HasConsumed (reader : ScriptReader) (text : List ℕ) : Type 0 where
  pub before : List (ℕ × Token)
  pub left_of : List ℕ → Scan
  pub valid : HasRemainingScan reader.tokenizer left_of
  pub scans : (rest : List ℕ) → scan (text ++ rest) ≡ prepend_tokens before (left_of rest)

-- `HasConsumedValid reader text` holds if the reader of scripts has consumed exactly `text`, no token of which is
-- malformed, and `text` can continue without a wrong word: the end of a script whose tokens begin with those of `text`
-- is the end of the unfinished command followed by the later tokens.
pub record HasConsumedValid (reader : ScriptReader) (text : List ℕ) : Type 0 where
  pub consumed : HasConsumed reader text
  pub hand : PartialCommand
  pub holds : HoldsPartialCommand reader.commands.draft hand
  pub means : (ts : List Token) → (commands_of NoCommand (without_lines consumed.before ++ ts)).1 ≡ (commands_of hand ts).1
  pub right : HasValidContinuation consumed.left_of

-- `ConsumesText reached old bytes new` holds if the reader of scripts has consumed these bytes between `old` and `new`,
-- whatever it had consumed before. No token of them is malformed, unless `reached` says so.
abbrev pub ConsumesText : Reached → ScriptReader → List ℕ → ScriptReader → Type 0
ConsumesText reached.More old bytes new = (text : List ℕ) → HasConsumedValid old text → HasConsumedValid new (text ++ bytes)
ConsumesText reached.Command old bytes new = (text : List ℕ) → HasConsumedValid old text → HasConsumedValid new (text ++ bytes)
ConsumesText reached.Malformed old bytes new = (text : List ℕ) → HasConsumedValid old text → HasConsumed new (text ++ bytes)

-- `AccountsFor Consumed start s reader` holds if the bytes given since `start` are those consumed by the reader of
-- scripts, for which `Consumed` holds, followed by those waiting. Once these bytes are decided, fewer bytes follow than
-- one read can give, and no read was made.
pub record AccountsFor (Consumed : ScriptReader → List ℕ → Type 0) (start : Reader) (s : Source) (reader : ScriptReader) : Type 0 where
  pub text : List ℕ
  pub consumed : Consumed reader text
  pub front : GavePrefix start s.reader (text ++ s.waiting)
  pub last : IsDecidedInLastPiece (text ++ s.waiting)
  pub gave : IsDecided (text ++ s.waiting) → LastReadGaveBytes start s.reader

-- the account of the bytes of a script that may be malformed
abbrev pub AccountsForBytes : Reader → Source → ScriptReader → Type 0
AccountsForBytes = AccountsFor HasConsumed

-- the account of the bytes of a script that isn't malformed so far
abbrev pub AccountsForValidBytes : Reader → Source → ScriptReader → Type 0
AccountsForValidBytes = AccountsFor HasConsumedValid

-- `AccountsUpTo next start s reader` holds if the bytes are accounted for up to `next`: a script that has another
-- command isn't malformed so far.
abbrev pub AccountsUpTo : Next → Reader → Source → ScriptReader → Type 0
AccountsUpTo next.Command = AccountsForValidBytes
AccountsUpTo (next.Last e) = AccountsForBytes
AccountsUpTo (next.End e) = AccountsForBytes

-- `AccountsTowards next start s reader` holds if the bytes are accounted for up to `next` or, if there is none yet, the
-- script isn't malformed so far.
abbrev pub AccountsTowards : Option Next → Reader → Source → ScriptReader → Type 0
AccountsTowards None = AccountsForValidBytes
AccountsTowards (Some n) = AccountsUpTo n

-- `KeepsAccount Accounts result a b old new` holds if a call with this result leads from `AccountsForValidBytes` for the
-- source `a` and the reader of scripts `old` to `Accounts`, for the result, `b` and `new` or, with an error, to
-- `MakesNoReadOnceDecided`.
abbrev pub KeepsAccount : {T E : Type 0} → (T → Reader → Source → ScriptReader → Type 0) → Result T E → Source → Source → ScriptReader → ScriptReader → Type 0
KeepsAccount Accounts (Ok r) a b old new = (start : Reader) → AccountsForValidBytes start a old → Accounts r start b new
KeepsAccount Accounts (Err e) a b old new = (start : Reader) → AccountsForValidBytes start a old → MakesNoReadOnceDecided start b.reader

-- `EndsAtLine old new line` holds if `line` is the number of the line of a text's last byte, or 0 if the text is empty,
-- and the reader gave this text between `old` and `new`, followed by at most 4,096 bytes. Lines are numbered from 1,
-- and the number is capped at 2^64-1.
pub record EndsAtLine (old new : Reader) (line : ℕ) : Type 0 where
  pub text : List ℕ
  pub rest : List ℕ
  pub front : GavePrefix old new (text ++ rest)
  pub few : length rest ≤ max_read_size
  pub number : line ≡ capped (scan text).last
