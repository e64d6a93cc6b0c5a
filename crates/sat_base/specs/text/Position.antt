-- Where a reader may be in a text, and what is still to be read from there.
use Rattle.std.specs.Prelude.{◌≡◌, ℕ, ◌+◌, List, [], ◌∷◌, ◌++◌, Bool, false, Option, None, Some, if◌then◌else◌, codes}
use Rattle.sat_base.specs.text.Text.{is_blank, lines, words, tokens_on_line, last_line, digits, same_bytes, Token, Header, Wrong, token, tokens_of, Scan}

-- the first line of a list of lines, or an empty line if there is none
abbrev pub first_line : List (List ℕ) → List ℕ
first_line [] = []
first_line (l ∷ ls) = l

-- the lines of a list of lines after the first
abbrev pub later_lines : List (List ℕ) → List (List ℕ)
later_lines [] = []
later_lines (l ∷ ls) = ls

-- the finished words of a header line: none, `p`, `p cnf`, `p cnf` with the number of variables, or with both numbers
pub data HeaderStage : Type 0 where
  Begun : HeaderStage
  Named : HeaderStage
  Format : HeaderStage
  Vars : ℕ → HeaderStage
  Both : ℕ → ℕ → HeaderStage

-- the header stage that `stage` makes of the number that a word spells, or `None` if the word spells no number
abbrev pub stage_with_number : (ℕ → HeaderStage) → Option ℕ → Option HeaderStage
stage_with_number stage None = None
stage_with_number stage (Some n) = Some (stage n)

-- the stage of a header line after one more word `w`, or `None` if `w` is not allowed at the stage before it
abbrev pub stage_after : HeaderStage → List ℕ → Option HeaderStage
stage_after Begun w = if same_bytes w (codes "p") then Some Named else None
stage_after Named w = if same_bytes w (codes "cnf") then Some Format else None
stage_after Format w = stage_with_number Vars (digits 0 w)
stage_after (Vars v) w = stage_with_number (Both v) (digits 0 w)
stage_after (Both v c) w = None

-- the token of a header line that ends at this stage: a header only after both numbers, otherwise `Wrong`
abbrev pub token_of_stage : HeaderStage → Token
token_of_stage (Both v c) = Header v c
token_of_stage stage = Wrong

-- the token of a header line after one more word, given the stage after that word: `Wrong` if there is none (the word
-- is not allowed), otherwise what `more` gives for the stage
abbrev pub after_word : Option HeaderStage → (HeaderStage → Token) → Token
after_word None more = Wrong
after_word (Some stage) more = more stage

-- the token of a header line, from its remaining words
unfoldable pub stage_token : HeaderStage → List (List ℕ) → Token
stage_token stage [] = token_of_stage stage
stage_token stage (w ∷ ws) = after_word (stage_after stage w) (λ s. stage_token s ws)

-- A position in a text: at the start of a line, after blanks at its start, or in a comment, each with whether a header
-- is still allowed; between words, or in a word with these bytes so far; in a header line between words, in a word, or
-- in a word that is not allowed there; or after `%`.
pub data Position : Type 0 where
  Fresh : Bool → Position
  Leading : Bool → Position
  Comment : Bool → Position
  Between : Position
  Within : ℕ → List ℕ → Position
  HeaderBetween : HeaderStage → Position
  HeaderWithin : HeaderStage → ℕ → List ℕ → Position
  WrongHeader : Position
  Over : Position

-- `HasNoBlank bytes` holds if none of the bytes is a blank.
abbrev pub HasNoBlank : List ℕ → Type 0
HasNoBlank [] = Unit {0}
HasNoBlank (b ∷ bs) = (is_blank b ≡ false) × HasNoBlank bs

-- `IsValidPosition spot` holds if the position `spot` is possible: its unfinished word, if there is one, contains no
-- blank.
abbrev pub IsValidPosition : Position → Type 0
IsValidPosition (Within x w) = HasNoBlank (x ∷ w)
IsValidPosition (HeaderWithin stage x w) = HasNoBlank (x ∷ w)
IsValidPosition spot = Unit {0}

-- the tokens still to come from this position, with their line numbers, after `n` ended lines; `ls` are the rest of the
-- current line and then the lines after it
abbrev pub remaining_tokens : Position → ℕ → List (List ℕ) → List (ℕ × Token)
remaining_tokens (Fresh may) n ls = tokens_of may n ls
remaining_tokens (Leading may) n ls = tokens_of may n (first_line ls ∷ later_lines ls)
remaining_tokens (Comment may) n ls = tokens_of may (n + 1) (later_lines ls)
remaining_tokens Between n ls = tokens_on_line (n + 1) (words (first_line ls)) ++ tokens_of false (n + 1) (later_lines ls)
remaining_tokens (Within x w) n ls = tokens_on_line (n + 1) (words ((x ∷ w) ++ first_line ls)) ++ tokens_of false (n + 1) (later_lines ls)
remaining_tokens (HeaderBetween stage) n ls = (n + 1, stage_token stage (words (first_line ls))) ∷ tokens_of false (n + 1) (later_lines ls)
remaining_tokens (HeaderWithin stage x w) n ls =
    (n + 1, stage_token stage (words ((x ∷ w) ++ first_line ls))) ∷ tokens_of false (n + 1) (later_lines ls)
remaining_tokens WrongHeader n ls = (n + 1, Wrong) ∷ tokens_of false (n + 1) (later_lines ls)
remaining_tokens Over n ls = []

-- the number of the text's last line, read from this position after `n` ended lines; `ls` are the rest of the current
-- line and then the lines after it
abbrev pub remaining_last_line : Position → ℕ → List (List ℕ) → ℕ
remaining_last_line (Fresh may) n ls = last_line n ls
remaining_last_line (Leading may) n ls = last_line n (first_line ls ∷ later_lines ls)
remaining_last_line Over n ls = n + 1
remaining_last_line spot n ls = last_line (n + 1) (later_lines ls)

-- what is still to be read, from a position after n ended lines, if these are the bytes to come
unfoldable pub remaining_scan : Position → ℕ → List ℕ → Scan
remaining_scan spot n bytes = record { tokens = remaining_tokens spot n (lines bytes); last = remaining_last_line spot n (lines bytes) }

-- the token (with its line number) that the unfinished word or header line makes if the line ends at this position, or
-- none; `n` lines have ended before
abbrev pub unfinished_token : Position → ℕ → List (ℕ × Token)
unfinished_token (Within x w) n = (n + 1, token (x ∷ w)) ∷ []
unfinished_token (HeaderBetween stage) n = (n + 1, token_of_stage stage) ∷ []
unfinished_token (HeaderWithin stage x w) n = (n + 1, after_word (stage_after stage (x ∷ w)) token_of_stage) ∷ []
unfinished_token WrongHeader n = (n + 1, Wrong) ∷ []
unfinished_token spot n = []

-- `allows_header spot` is true if a header is still allowed on the lines after the position `spot`.
abbrev pub allows_header : Position → Bool
allows_header (Fresh may) = may
allows_header (Leading may) = may
allows_header (Comment may) = may
allows_header spot = false

-- the position after LF; LF does not change the position after `%`
abbrev pub position_after_LF : Position → Position
position_after_LF Over = Over
position_after_LF spot = Fresh (allows_header spot)

-- the number of ended lines after LF, if n lines had ended before; after `%`, LF ends no line
abbrev pub lines_after : Position → ℕ → ℕ
lines_after Over n = n
lines_after spot n = n + 1

-- the position after a blank that ends a word of a header line, given the stage after that word; if that is `None` (the
-- word is not allowed), the rest of the line is skipped like a comment
abbrev pub position_after_word : Option HeaderStage → Position
position_after_word None = Comment false
position_after_word (Some stage) = HeaderBetween stage

-- the position after a blank that does not end a line
abbrev pub position_after_blank : Position → Position
position_after_blank (Fresh may) = Leading may
position_after_blank (Leading may) = Leading may
position_after_blank (Comment may) = Comment may
position_after_blank Between = Between
position_after_blank (Within x w) = Between
position_after_blank (HeaderBetween stage) = HeaderBetween stage
position_after_blank (HeaderWithin stage x w) = position_after_word (stage_after stage (x ∷ w))
position_after_blank WrongHeader = Comment false
position_after_blank Over = Over

-- the token `Wrong` on line `n` + 1 if a word is not allowed in a header line (the stage after it is `None`), otherwise
-- none
abbrev pub wrong_word_token : Option HeaderStage → ℕ → List (ℕ × Token)
wrong_word_token None n = (n + 1, Wrong) ∷ []
wrong_word_token (Some stage) n = []

-- the token, on line `n` + 1, that a blank other than LF completes at this position, or none; `n` lines have ended
-- before
abbrev pub token_ended_by_blank : Position → ℕ → List (ℕ × Token)
token_ended_by_blank (Within x w) n = (n + 1, token (x ∷ w)) ∷ []
token_ended_by_blank (HeaderWithin stage x w) n = wrong_word_token (stage_after stage (x ∷ w)) n
token_ended_by_blank WrongHeader n = (n + 1, Wrong) ∷ []
token_ended_by_blank spot n = []

-- the number of the line that has the byte just before this position (0 for an empty text), if `n` lines have ended
-- before
abbrev pub line_of_last_byte : Position → ℕ → ℕ
line_of_last_byte (Fresh may) n = n
line_of_last_byte spot n = n + 1

-- the scan with these tokens before its own
abbrev pub prepend_tokens : List (ℕ × Token) → Scan → Scan
prepend_tokens ts rest = record { tokens = ts ++ rest.tokens; last = rest.last }
