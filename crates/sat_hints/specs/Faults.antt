-- What a fault of a check says about the text that was given.
use Rattle.std.specs.Prelude.{ℕ, ◌≡◌, ◌<◌, ◌⊎◌, List, ◌∷◌, ◌++◌, length}
use Rattle.sat_base.specs.device.Device.{Reader, GavePrefix, max_read_size}
use Rattle.sat_base.specs.steps.Formats.{Format, IsProperPrefix}
use Rattle.sat_checker.specs.ProofView.{FoundNoEnd}
use Rattle.sat_hints.specs.Lines.{Line, LinesAreWithinLimits, text_of, line_text, SpellsLine}
use Rattle.sat_hints.specs.Hints.{IsHintDerivation}
use Rattle.sat_hints.specs.declared.answer.HintFault.{HintFault}
use Rattle.sat_hints.specs.declared.answer.HintFault.TheVariants.{Read, OutOfMemory}

-- `IsTextOfLine line bytes` holds if the bytes spell the line, and it is within its limits.
abbrev pub IsTextOfLine : Format Line
IsTextOfLine line bytes = SpellsLine bytes line

-- `StopsWithinLine text` holds if the text is a derivation, followed by a proper prefix of a line, possibly empty.
pub record StopsWithinLine (text : List ℕ) : Type 0 where
  pub earlier : List Line
  pub bytes : List ℕ
  pub whole : text ≡ text_of earlier ++ bytes
  pub are : LinesAreWithinLimits earlier
  pub derivation : IsHintDerivation earlier
  pub front : IsProperPrefix IsTextOfLine bytes

-- `StopsAtLine most text` holds if the text is a derivation of at least one line, followed by fewer than `most` bytes
-- of any content.
pub record StopsAtLine (most : ℕ) (text : List ℕ) : Type 0 where
  pub earlier : List Line
  pub line : Line
  pub rest : List ℕ
  pub whole : text ≡ text_of earlier ++ (line_text line ++ rest)
  pub are : LinesAreWithinLimits (line ∷ earlier)
  pub derivation : IsHintDerivation (line ∷ earlier)
  pub few : length rest < most

-- `FaultHolds fault text` holds if the text may have been given before the fault. After `Read`, its lines are a
-- derivation, and what follows them is a proper prefix of a line. `OutOfMemory` may also mean that memory ran out for
-- the last line of a derivation. Then fewer than 4,096 bytes follow it, which were read with its end.
abbrev pub FaultHolds : HintFault → List ℕ → Type 0
FaultHolds Read text = StopsWithinLine text
FaultHolds OutOfMemory text = StopsWithinLine text ⊎ StopsAtLine max_read_size text

-- `GaveTextBeforeFault from to fault` holds if the reader gave a text that is possible before this fault, as
-- `FaultHolds` says, and no read found the end.
pub record GaveTextBeforeFault (from to : Reader) (fault : HintFault) : Type 0 where
  pub text : List ℕ
  pub front : GavePrefix from to text
  pub unended : FoundNoEnd from to
  pub holds : FaultHolds fault text
