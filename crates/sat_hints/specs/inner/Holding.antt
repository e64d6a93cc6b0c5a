-- The state of the check after a prefix of a hint text.
use Rattle.std.specs.Prelude.{ℕ, ◌≡◌, ◌+◌, ◌<◌, ◌≤◌, ◌⊎◌, Bool, true, false, Option, None, Some, Result, Ok, Err, List, [], ◌∷◌, ◌++◌, length, vec_len, vec_capacity}
use Rattle.std.specs.Io.KnownBytes.{IsAtEnd}
use Rattle.sat_base.specs.device.Device.{Reader, GavePrefix, LastCallFails, max_read_size}
use Rattle.sat_base.specs.text.Tokenizing.{capped}
use Rattle.sat_hints.specs.Lines.{Line, LinesAreWithinLimits, text_of, SpellsLine, HasNoLf}
use Rattle.sat_hints.specs.Hints.{IsHintDerivation, FollowsLines}
use Rattle.sat_hints.specs.Checks.{IsAtFault, VerdictHolds}
use Rattle.sat_hints.specs.Faults.{StopsWithinLine, StopsAtLine}
use Rattle.sat_hints.specs.inner.LineRoom.{HasListRoom}
use Rattle.sat_hints.specs.inner.Prefixes.{LeadsToPlace, ReachesPlace}
use Rattle.sat_hints.specs.declared.prefixes.Place.TheVariants.{Letter}
use Rattle.sat_hints.specs.inner.LineChecking.{HasAcceptedLines, IsReadyChecker}
use Rattle.sat_hints.specs.declared.answer.HintWhy.{HintWhy}
use Rattle.sat_hints.specs.declared.answer.HintVerdict.{HintVerdict}
use Rattle.sat_hints.specs.declared.answer.HintVerdict.TheVariants.{Bad}
use Rattle.sat_hints.specs.declared.answer.HintFault.{HintFault}
use Rattle.sat_hints.specs.declared.answer.HintFault.TheVariants.{Read, OutOfMemory}
use Rattle.sat_hints.specs.declared.line_checking.LineChecker.{LineChecker}
use Rattle.sat_hints.specs.declared.checking.Checking.{Checking}

-- `IsWholeLine bytes` holds if the bytes are one line with its LF.
pub record IsWholeLine (bytes : List ℕ) : Type 0 where
  pub front : List ℕ
  pub inside : HasNoLf front
  pub ended : bytes ≡ front ++ (10 ∷ [])

-- `ChecksLineBytes why old new lines bytes` holds if `why` is the result for the bytes of a line after these lines. If
-- it is `None`, they spell a line that may follow, and the checker has accepted it. Otherwise they are at fault for
-- this reason, and no line is counted.
abbrev pub ChecksLineBytes : Option HintWhy → LineChecker → LineChecker → List Line → List ℕ → Type 0
ChecksLineBytes None old new lines bytes = (line : Line) × SpellsLine bytes line × FollowsLines lines line × HasAcceptedLines new (line ∷ lines)
ChecksLineBytes (Some why) old new lines bytes = IsAtFault lines bytes why × (new.lines ≡ old.lines)

-- `AcceptsLineBytes lines bytes` holds if the bytes spell a line that may follow the lines.
abbrev pub AcceptsLineBytes : List Line → List ℕ → Type 0
AcceptsLineBytes lines bytes = (line : Line) × SpellsLine bytes line × FollowsLines lines line

-- `HasReadText c text` holds if the text is a derivation, followed by the held proper prefix of the next line, which
-- leads to the recorded place. The checker has accepted the lines of the derivation.
pub record HasReadText (c : Checking) (text : List ℕ) : Type 0 where
  pub lines : List Line
  pub whole : text ≡ text_of lines ++ c.held.items
  pub inside : HasNoLf c.held.items
  pub fits : LeadsToPlace Letter c.held.items (Some c.place)
  pub reaches : ReachesPlace Letter c.held.items (Some c.place)
  pub are : LinesAreWithinLimits lines
  pub derivation : IsHintDerivation lines
  pub taken : HasAcceptedLines c.checker lines

-- `HasFault c text why` holds if every text that begins with `text` is at fault for the reason `why`, in the line after
-- those that the checker has counted.
pub record HasFault (c : Checking) (text : List ℕ) (why : HintWhy) : Type 0 where
  pub count : ℕ
  pub number : c.checker.lines ≡ capped count
  pub bad : (rest : List ℕ) → VerdictHolds (Bad (capped (count + 1)) why) (text ++ rest)

-- `HasReadOrFault why c text` holds if the text was read without a fault (`None`), or its first line at fault was
-- found, with this reason.
abbrev pub HasReadOrFault : Option HintWhy → Checking → List ℕ → Type 0
HasReadOrFault None c text = HasReadText c text
HasReadOrFault (Some why) c text = HasFault c text why

-- `HasRoomFor c count` holds if `count` more bytes can be parsed without allocating. There is room to complete the line
-- that has begun, and for the lists of any line.
pub record HasRoomFor (c : Checking) (count : ℕ) : Type 0 where
  pub lists : HasListRoom c.lists (vec_len c.held + count)
  pub held : 0 < vec_len c.held → vec_len c.held + count ≤ vec_capacity c.held

-- `HasRoomIf why c` holds if 4,096 more bytes, the next chunk, can be parsed without allocating; nothing is required if
-- there is a fault `why`.
abbrev pub HasRoomIf : Option HintWhy → Checking → Type 0
HasRoomIf None c = HasRoomFor c max_read_size
HasRoomIf (Some why) c = Unit {0}

-- `IsReadyIf why checker` holds if the checker can check the next line, unless there is a fault.
abbrev pub IsReadyIf : Option HintWhy → LineChecker → Type 0
IsReadyIf None checker = IsReadyChecker checker
IsReadyIf (Some why) checker = Unit {0}

-- `ReadsFurther why old bytes new` holds if, whatever text `old` has read, `new` has read this text and then the bytes
-- without a fault (`None`), or they have a first fault, for the reason `why`.
abbrev pub ReadsFurther : Option HintWhy → Checking → List ℕ → Checking → Type 0
ReadsFurther why old bytes new = (text : List ℕ) → HasReadText old text → HasReadOrFault why new (text ++ bytes)

-- `CanRunOutOfMemory old bytes` holds if, whatever text `old` has read, that text and `bytes` are a derivation followed
-- by a proper prefix of a line, or a derivation followed by fewer bytes than `bytes` has.
abbrev pub CanRunOutOfMemory : Checking → List ℕ → Type 0
CanRunOutOfMemory old bytes = (text : List ℕ) → HasReadText old text → StopsWithinLine (text ++ bytes) ⊎ StopsAtLine (length bytes) (text ++ bytes)

-- `CanRunOutOfMemoryAtEnd old bytes` holds if, whatever text `old` has read, that text and `bytes` are a derivation of
-- at least one line, with nothing after it.
abbrev pub CanRunOutOfMemoryAtEnd : Checking → List ℕ → Type 0
CanRunOutOfMemoryAtEnd old bytes = (text : List ℕ) → HasReadText old text → StopsAtLine 1 (text ++ bytes)

-- `ReadsChunk verdict old bytes new` holds if, whatever text `old` has read, `new` has read `bytes` after it without a
-- fault and is ready for the next chunk (`None`), or the verdict holds of both, whatever bytes follow.
abbrev pub ReadsChunk : Option HintVerdict → Checking → List ℕ → Checking → Type 0
ReadsChunk None old bytes new = IsReadyChecker new.checker × HasRoomFor new max_read_size × ((text : List ℕ) → HasReadText old text → HasReadText new (text ++ bytes))
ReadsChunk (Some verdict) old bytes new = (text : List ℕ) → HasReadText old text → (rest : List ℕ) → VerdictHolds verdict ((text ++ bytes) ++ rest)

-- `GivesChunk from to bytes` holds if the reader gave these bytes, at least one, no read failed, and the end was not
-- found.
pub record GivesChunk (from to : Reader) (bytes : List ℕ) : Type 0 where
  pub front : GavePrefix from to bytes
  pub some : 0 < length bytes
  pub unended : to.ended ≡ false
  pub failures : to.failures ≡ from.failures

-- `GivesVerdict from to old verdict` holds if the reader gave some bytes and no read failed, and, whatever text `old`
-- has read, the verdict holds of it, these bytes and whatever follows; nothing follows if the end was found.
pub record GivesVerdict (from to : Reader) (old : Checking) (verdict : HintVerdict) : Type 0 where
  pub bytes : List ℕ
  pub front : GavePrefix from to bytes
  pub over : to.ended ≡ true → IsAtEnd to.to_come
  pub failures : to.failures ≡ from.failures
  pub holds : (text : List ℕ) → HasReadText old text → (rest : List ℕ) → (to.ended ≡ true → rest ≡ []) → VerdictHolds verdict ((text ++ bytes) ++ rest)

-- `FailsToGive from to` holds if one read failed and gave nothing.
pub record FailsToGive (from to : Reader) : Type 0 where
  pub front : GavePrefix from to []
  pub unended : to.ended ≡ false
  pub fails : LastCallFails from to

-- `ChecksNextChunk result from to old new` holds if the result of one read, and of checking the bytes that it gave, is
-- correct: `None` if more can follow, a verdict, or a fault, that the read failed or memory ran out.
abbrev pub ChecksNextChunk : Result (Option HintVerdict) HintFault → Reader → Reader → Checking → Checking → Type 0
ChecksNextChunk (Ok None) from to old new = (bytes : List ℕ) × GivesChunk from to bytes × ReadsChunk None old bytes new
ChecksNextChunk (Ok (Some verdict)) from to old new = GivesVerdict from to old verdict
ChecksNextChunk (Err Read) from to old new = FailsToGive from to
ChecksNextChunk (Err OutOfMemory) from to old new = (bytes : List ℕ) × GivesChunk from to bytes × (length bytes ≤ max_read_size) × CanRunOutOfMemory old bytes

-- `VerdictIsCorrect result text` holds if the result is a verdict that holds of the text, or a fault, which says
-- nothing about the text.
abbrev pub VerdictIsCorrect : Result HintVerdict HintFault → List ℕ → Type 0
VerdictIsCorrect (Ok verdict) text = VerdictHolds verdict text
VerdictIsCorrect (Err fault) text = Unit {0}
