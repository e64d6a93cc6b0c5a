-- How far a script is read: no further than to where it is decided.
use Rattle.std.specs.Prelude.{ℕ, ◌≡◌, ◌<◌, ◌⊎◌, List, ◌++◌, length}
use Rattle.sat_base.specs.device.Device.{Reader, GavePrefix, max_read_size}
use Rattle.sat_base.specs.dimacs.Parsing.{LastReadGaveBytes}
use Rattle.sat_base.specs.script.Language.{NoCommand, commands_of, without_lines}
use Rattle.sat_base.specs.script.Script.{Malformed}
use Rattle.sat_base.specs.text.Text.{Token, HasEnded, tokens}

-- `AreMalformed ts` holds if a script whose tokens begin with `ts` is malformed, whatever tokens follow.
abbrev pub AreMalformed : List Token → Type 0
AreMalformed ts = (more : List Token) → (commands_of NoCommand (ts ++ more)).1 ≡ Malformed

-- `IsMalformedSoFar text` holds if the first tokens of `text` make it malformed, and they are its first tokens whatever
-- bytes follow. A number or a letter is such a token once a blank has ended it; a word is wrong, whatever bytes follow,
-- from the first byte after which it can't be completed to a number, a letter or a header.
abbrev pub IsMalformedSoFar : List ℕ → Type 0
IsMalformedSoFar text = (ts : List (ℕ × Token)) × ((rest : List ℕ) → (more : List (ℕ × Token)) × (tokens (text ++ rest) ≡ ts ++ more))
    × AreMalformed (without_lines ts)

-- `IsDecided text` holds if a script that begins with `text` need not be read further: a line that begins with `%` has
-- ended it, or it is malformed.
abbrev pub IsDecided : List ℕ → Type 0
IsDecided text = HasEnded text ⊎ IsMalformedSoFar text

-- `IsDecidedInLastPiece text` holds if fewer than 4096 bytes, the most that one read gives, follow any prefix of `text`
-- that is decided.
abbrev pub IsDecidedInLastPiece : List ℕ → Type 0
IsDecidedInLastPiece text = (front rest : List ℕ) → text ≡ front ++ rest → IsDecided front → length rest < max_read_size

-- `MakesNoReadOnceDecided old new` holds if, once the text that the reader gave between `old` and `new` is decided
-- (`IsDecided`), `IsDecidedInLastPiece` and `LastReadGaveBytes` hold. So no read was made after the one that decided
-- it: whoever makes one can't rule out that it fails or finds the end.
abbrev pub MakesNoReadOnceDecided : Reader → Reader → Type 0
MakesNoReadOnceDecided old new = (text : List ℕ) × GavePrefix old new text × IsDecidedInLastPiece text × (IsDecided text → LastReadGaveBytes old new)
