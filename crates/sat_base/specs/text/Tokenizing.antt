-- Where a tokenizer is in a text, and the effect of a byte.
use Rattle.std.specs.Prelude.{◌≡◌, ℕ, ◌+◌, ◌*◌, ◌-◌, ◌^◌, ◌⊎◌, min, List, [], ◌∷◌, ◌++◌, Bool, true, false, Option, Some, None}
use Rattle.sat_base.specs.declared.text.Place.{Place}
use Rattle.sat_base.specs.declared.text.Place.TheVariants as at
use Rattle.sat_base.specs.declared.text.header.HeaderPlace.{HeaderPlace}
use Rattle.sat_base.specs.declared.text.header.HeaderPlace.TheVariants as header
use Rattle.sat_base.specs.declared.text.header.Stage.{Stage as CodeStage}
use Rattle.sat_base.specs.declared.text.header.Stage.TheVariants as stage
use Rattle.sat_base.specs.declared.text.Token.{Token as CodeToken}
use Rattle.sat_base.specs.declared.text.Token.TheVariants as code
use Rattle.sat_base.specs.declared.text.Tokenizer.{Tokenizer}
use Rattle.sat_base.specs.text.Text.{digits, Token, Number, Letter, Header, Wrong, token, Scan, is_letter, minus_sign, digit_zero, letter_c, letter_f, letter_n, letter_p}
use Rattle.sat_base.specs.text.Position.{HeaderStage, Begun, Named, Format, Vars, Both, stage_after, Position, Fresh, Leading, Comment, Between, Within, HeaderBetween, HeaderWithin, WrongHeader, Over, HasNoBlank, remaining_scan, unfinished_token, token_ended_by_blank, position_after_blank, position_after_LF, prepend_tokens}

-- a count or a value, capped at 2^64 - 1
abbrev pub capped : ℕ → ℕ
capped n = min n (2 ^ 64 - 1)

-- the token as the code represents it: its numbers are capped at 2^64 - 1
abbrev pub capped_token : Token → CodeToken
capped_token (Number negative value) = code.Number negative (capped value)
capped_token (Letter b) = code.Letter b
capped_token (Header v c) = code.Header (capped v) (capped c)
capped_token Wrong = code.Wrong

-- the number with an ASCII digit appended, capped at 2^64 - 1
abbrev pub with_digit : ℕ → ℕ → ℕ
with_digit value digit = capped (10 * value + (digit - digit_zero))

-- `SpellsCapped ds value` holds if all bytes of `ds` are digits, and `value` is the number they spell, capped at 2^64 -
-- 1.
abbrev pub SpellsCapped : List ℕ → ℕ → Type 0
SpellsCapped ds value = (m : ℕ) × (digits 0 ds ≡ Some m) × (value ≡ capped m)

-- `BeginsWrongWord w` holds if every word that begins with the bytes `w` is wrong.
abbrev pub BeginsWrongWord : List ℕ → Type 0
BeginsWrongWord w = (more : List ℕ) → token (w ++ more) ≡ Wrong

-- `BeginsWrongHeaderWord s w` holds if no word that begins with the bytes `w` is allowed at the stage `s` of a header
-- line.
abbrev pub BeginsWrongHeaderWord : HeaderStage → List ℕ → Type 0
BeginsWrongHeaderWord s w = (more : List ℕ) → stage_after s (w ++ more) ≡ None

-- `RepresentsStage ended s` holds if `ended`, a stage of a header line in the code, is the stage `s` with its numbers
-- capped at 2^64 - 1.
abbrev pub RepresentsStage : CodeStage → HeaderStage → Type 0
RepresentsStage stage.Named s = s ≡ Named
RepresentsStage stage.Format s = s ≡ Format
RepresentsStage (stage.Vars vars) s = (v : ℕ) × (vars ≡ capped v) × (s ≡ Vars v)
RepresentsStage (stage.Both vars clauses) s = (v : ℕ) × (c : ℕ) × (vars ≡ capped v) × (clauses ≡ capped c) × (s ≡ Both v c)

-- `RepresentsHeaderPosition place spot` holds if `place`, the code's state in a header line, may stand for the position
-- `spot`, which also has the bytes of the unfinished word and the numbers, uncapped.
abbrev pub RepresentsHeaderPosition : HeaderPlace → Position → Type 0
RepresentsHeaderPosition (header.Between ended) spot = (s : HeaderStage) × RepresentsStage ended s × (spot ≡ HeaderBetween s)
RepresentsHeaderPosition header.P spot = spot ≡ HeaderWithin Begun letter_p []
RepresentsHeaderPosition header.C spot = spot ≡ HeaderWithin Named letter_c []
RepresentsHeaderPosition header.Cn spot = spot ≡ HeaderWithin Named letter_c (letter_n ∷ [])
RepresentsHeaderPosition header.Cnf spot = spot ≡ HeaderWithin Named letter_c (letter_n ∷ letter_f ∷ [])
RepresentsHeaderPosition (header.Vars value) spot =
    (x : ℕ) × (w : List ℕ) × HasNoBlank (x ∷ w) × SpellsCapped (x ∷ w) value × (spot ≡ HeaderWithin Format x w)
RepresentsHeaderPosition (header.Clauses vars value) spot =
    (v : ℕ) × (x : ℕ) × (w : List ℕ) × (vars ≡ capped v)
    × HasNoBlank (x ∷ w) × SpellsCapped (x ∷ w) value × (spot ≡ HeaderWithin (Vars v) x w)

-- `RepresentsPosition place spot` holds if `place`, the tokenizer's state in the code, may stand for the position
-- `spot`, which also has the bytes of the unfinished word and the numbers of the header, uncapped.
abbrev pub RepresentsPosition : Place → Position → Type 0
RepresentsPosition (at.Fresh may) spot = spot ≡ Fresh may
RepresentsPosition (at.Leading may) spot = spot ≡ Leading may
RepresentsPosition (at.Comment may) spot = spot ≡ Comment may
RepresentsPosition at.Between spot = spot ≡ Between
RepresentsPosition at.Minus spot = spot ≡ Within minus_sign []
RepresentsPosition (at.Digits false value) spot =
    (x : ℕ) × (w : List ℕ) × HasNoBlank (x ∷ w) × SpellsCapped (x ∷ w) value
    × (x ≡ minus_sign → ⊥) × (is_letter x ≡ false) × (spot ≡ Within x w)
RepresentsPosition (at.Digits true value) spot = (w : List ℕ) × HasNoBlank w × (w ≡ [] → ⊥) × SpellsCapped w value × (spot ≡ Within minus_sign w)
RepresentsPosition (at.Letter b) spot = (HasNoBlank (b ∷ []) × (is_letter b ≡ true)) × (spot ≡ Within b [])
RepresentsPosition at.Bad spot = (x : ℕ) × (w : List ℕ) × HasNoBlank (x ∷ w) × BeginsWrongWord (x ∷ w) × (spot ≡ Within x w)
RepresentsPosition (at.Header place) spot = RepresentsHeaderPosition place spot
RepresentsPosition at.WrongHeader spot = spot ≡ WrongHeader
RepresentsPosition at.Over spot = spot ≡ Over

-- `MovesPositionByByte old byte new` holds if, at position `old`, `byte` completes no token or line, and what remains
-- to be read after it is what remains from the position `new`, whatever follows.
abbrev pub MovesPositionByByte : Position → ℕ → Position → Type 0
MovesPositionByByte old byte new = (n : ℕ) (rest : List ℕ) → remaining_scan old n (byte ∷ rest) ≡ remaining_scan new n rest

-- `MovesPlaceByByte old byte new` holds if, in the tokenizer state `old`, `byte` leads to the state `new` and completes
-- no token or line.
abbrev pub MovesPlaceByByte : Place → ℕ → Place → Type 0
MovesPlaceByByte old byte new = (spot : Position) → RepresentsPosition old spot → (next : Position) × RepresentsPosition new next × MovesPositionByByte spot byte next

-- `MovesPlaceByBytes old bytes new` holds if, in the tokenizer state `old`, `bytes` lead to the state `new` and
-- complete no token or line.
abbrev pub MovesPlaceByBytes : Place → List ℕ → Place → Type 0
MovesPlaceByBytes old bytes new = (spot : Position) → RepresentsPosition old spot
    → (next : Position) × RepresentsPosition new next × ((n : ℕ) (rest : List ℕ) → remaining_scan spot n (bytes ++ rest) ≡ remaining_scan next n rest)

-- `CanBeginWord place` holds if a word may begin in the tokenizer state `place`: at the start of a line, after blanks
-- there, or between words, but not in a header line.
abbrev pub CanBeginWord : Place → Type 0
CanBeginWord (at.Fresh may) = Unit {0}
CanBeginWord (at.Leading may) = Unit {0}
CanBeginWord at.Between = Unit {0}
CanBeginWord place = ⊥

-- `MovesHeaderByByte old byte new` holds if, in the tokenizer state `old` of a header line, `byte` leads to the state
-- `new` and completes no token or line; `new` is `None` if the unfinished word is then not allowed.
abbrev pub MovesHeaderByByte : HeaderPlace → ℕ → Option HeaderPlace → Type 0
MovesHeaderByByte old byte None = (spot : Position) → RepresentsHeaderPosition old spot → MovesPositionByByte spot byte WrongHeader
MovesHeaderByByte old byte (Some new) = (spot : Position) → RepresentsHeaderPosition old spot → (next : Position) × RepresentsHeaderPosition new next × MovesPositionByByte spot byte next

-- `IsInWordOfByte byte place` holds if `place` is the tokenizer state inside a word that has only this byte so far
-- (outside header lines).
abbrev pub IsInWordOfByte : ℕ → Place → Type 0
IsInWordOfByte byte place = RepresentsPosition place (Within byte [])

-- `IsInHeaderWordOfByte ended byte place` holds if `place` is the state in a header line at stage `ended`, inside a
-- word that has only this byte so far, or is `None` and no word that begins with it is allowed there.
abbrev pub IsInHeaderWordOfByte : CodeStage → ℕ → Option HeaderPlace → Type 0
IsInHeaderWordOfByte ended byte None = (s : HeaderStage) → RepresentsStage ended s → BeginsWrongHeaderWord s (byte ∷ [])
IsInHeaderWordOfByte ended byte (Some place) = (s : HeaderStage) → RepresentsStage ended s → RepresentsHeaderPosition place (HeaderWithin s byte [])

-- `GivesCappedToken given tokens` holds if, for any number n of ended lines, `tokens n` is exactly one token, `given`
-- (up to capped numbers) on line n + 1, or no token if `given` is `None`.
abbrev pub GivesCappedToken : Option CodeToken → (ℕ → List (ℕ × Token)) → Type 0
GivesCappedToken None tokens = (n : ℕ) → tokens n ≡ []
GivesCappedToken (Some t) tokens = (given : Token) × (t ≡ capped_token given) × ((n : ℕ) → tokens n ≡ (n + 1, given) ∷ [])

-- `CompletesAtLineEnd given place` holds if the end of the line at this place completes the token `given`, or none if
-- it is `None`.
abbrev pub CompletesAtLineEnd : Option CodeToken → Place → Type 0
CompletesAtLineEnd given place = (spot : Position) → RepresentsPosition place spot → GivesCappedToken given (unfinished_token spot)

-- `CompletesAtBlank given place` holds if a blank within a line at this place completes the token `given`, or none if
-- it is `None`.
abbrev pub CompletesAtBlank : Option CodeToken → Place → Type 0
CompletesAtBlank given place = (spot : Position) → RepresentsPosition place spot → GivesCappedToken given (token_ended_by_blank spot)

-- the stage of a header line once its unfinished word ends; `None` elsewhere, or if the word is not allowed there
abbrev pub stage_at_word_end : Position → Option HeaderStage
stage_at_word_end (HeaderBetween s) = Some s
stage_at_word_end (HeaderWithin s x w) = stage_after s (x ∷ w)
stage_at_word_end spot = None

-- `RepresentsStageOrNone ended given` holds if the stage `ended` of the code represents the stage `given`, or both are
-- `None`.
abbrev pub RepresentsStageOrNone : Option CodeStage → Option HeaderStage → Type 0
RepresentsStageOrNone None given = given ≡ None
RepresentsStageOrNone (Some ended) given = (s : HeaderStage) × RepresentsStage ended s × (given ≡ Some s)

-- `MovesPlaceByBlank old new` holds if a blank other than LF leads from the tokenizer state `old` to the state `new`.
abbrev pub MovesPlaceByBlank : Place → Place → Type 0
MovesPlaceByBlank old new = (spot : Position) → RepresentsPosition old spot → RepresentsPosition new (position_after_blank spot)

-- `IsBetweenWords place` holds if the tokenizer state `place` has no unfinished word and is not at the start of a line:
-- it is after blanks, between words, in a comment, or after `%`.
abbrev pub IsBetweenWords : Place → Type 0
IsBetweenWords (at.Leading may) = Unit {0}
IsBetweenWords (at.Comment may) = Unit {0}
IsBetweenWords at.Between = Unit {0}
IsBetweenWords (at.Header (header.Between ended)) = Unit {0}
IsBetweenWords at.Over = Unit {0}
IsBetweenWords place = ⊥

-- `place_allows_header place` is true if a header is still allowed on the lines after this place.
abbrev pub place_allows_header : Place → Bool
place_allows_header (at.Fresh may) = may
place_allows_header (at.Leading may) = may
place_allows_header (at.Comment may) = may
place_allows_header place = false

-- `MovesPlaceByLF old new` holds if LF leads from the tokenizer state `old` to the state `new`.
abbrev pub MovesPlaceByLF : Place → Place → Type 0
MovesPlaceByLF old new = (spot : Position) → RepresentsPosition old spot → RepresentsPosition new (position_after_LF spot)

-- `HasRemainingScan machine left_of` holds if, from the tokenizer's state, any bytes r to come have the remaining scan
-- `left_of r`; the tokenizer's line count is capped at 2^64 - 1.
unfoldable pub HasRemainingScan : Tokenizer → (List ℕ → Scan) → Type 0
HasRemainingScan machine left_of = (spot : Position) × (n : ℕ) × RepresentsPosition machine.place spot × (machine.lines ≡ capped n)
    × ((rest : List ℕ) → left_of rest ≡ remaining_scan spot n rest)

-- `GivesTokenAtByte given byte old new` holds if the byte completes the token `given`, on the line of the byte, or none
-- if it is `None`; `old` and `new` give what is still to be read.
abbrev pub GivesTokenAtByte : Option CodeToken → ℕ → (List ℕ → Scan) → (List ℕ → Scan) → Type 0
GivesTokenAtByte None byte old new = (rest : List ℕ) → old (byte ∷ rest) ≡ new rest
GivesTokenAtByte (Some t) byte old new = (given : Token) × (t ≡ capped_token given)
    × ((rest : List ℕ) → old (byte ∷ rest) ≡ prepend_tokens (((new []).last, given) ∷ []) (new rest))

-- `ReceivesByte old byte given new` holds if the tokenizer receives the byte, which completes the token `given`, or
-- none if it is `None`. What was still to be read is this token, and then what is still to be read after the byte.
abbrev pub ReceivesByte : Tokenizer → ℕ → Option CodeToken → Tokenizer → Type 0
ReceivesByte old byte given new = (before : List ℕ → Scan) → HasRemainingScan old before
    → (after : List ℕ → Scan) × HasRemainingScan new after × GivesTokenAtByte given byte before after

-- `GivesTokenAfterBytes given bytes old new` holds if the bytes complete the token `given`, on the line of the last
-- byte, or none if it is `None`; `old` and `new` give what is still to be read.
abbrev pub GivesTokenAfterBytes : Option CodeToken → List ℕ → (List ℕ → Scan) → (List ℕ → Scan) → Type 0
GivesTokenAfterBytes None bytes old new = (rest : List ℕ) → old (bytes ++ rest) ≡ new rest
GivesTokenAfterBytes (Some t) bytes old new = (given : Token) × (t ≡ capped_token given)
    × ((rest : List ℕ) → old (bytes ++ rest) ≡ prepend_tokens (((new []).last, given) ∷ []) (new rest))

-- `ReceivesPrefix old bytes given new` holds if the tokenizer `old` becomes `new` by receiving `bytes`, which complete
-- exactly the token `given`, on the line of the last byte, or none if it is `None`.
abbrev pub ReceivesPrefix : Tokenizer → List ℕ → Option CodeToken → Tokenizer → Type 0
ReceivesPrefix old bytes given new = (before : List ℕ → Scan) → HasRemainingScan old before
    → (after : List ℕ → Scan) × HasRemainingScan new after × GivesTokenAfterBytes given bytes before after

-- `IsHeaderOrWrong token` holds if the token can be that of a header line: a header or `Wrong`.
abbrev pub IsHeaderOrWrong : Token → Type 0
IsHeaderOrWrong (Number negative value) = ⊥
IsHeaderOrWrong (Letter b) = ⊥
IsHeaderOrWrong (Header v c) = Unit {0}
IsHeaderOrWrong Wrong = Unit {0}

-- `HasNoNumberOrLetter s` holds if the scan has no token, or only a header or `Wrong`, so neither a number nor a
-- letter.
abbrev pub HasNoNumberOrLetter : Scan → Type 0
HasNoNumberOrLetter s = (s.tokens ≡ []) ⊎ ((line : ℕ) × (t : Token) × IsHeaderOrWrong t × (s.tokens ≡ (line, t) ∷ []))

-- `GivesTokenAtEnd given rest` holds if the end of the text completes the token `given`, on the last line, or none if
-- it is `None`, and nothing else is left.
abbrev pub GivesTokenAtEnd : Option CodeToken → Scan → Type 0
GivesTokenAtEnd None rest = rest.tokens ≡ []
GivesTokenAtEnd (Some t) rest = (given : Token) × (t ≡ capped_token given) × (rest.tokens ≡ (rest.last, given) ∷ [])
