-- The meaning of a script's text, in as few definitions as possible. A law states that it agrees with that of
-- `sat_base`, which has other tokens.
use Rattle.std.specs.Prelude.{ℕ, ◌+◌, ◌*◌, ◌-◌, Bool, true, false, not, ◌&&◌, ◌||◌, Option, Some, None, List, [], ◌∷◌, ◌++◌, map, nat_eq, is_some, unwrap_or, codes, if◌then◌else◌}
use Rattle.sat_base.specs.script.Script.{Literal, Command, Clause, Ask, Hide, Witness, Sample, Clean, Malformed}
use Rattle.sat_base.specs.script.Language.{Reading, with_ask}
use Rattle.sat_base.specs.text.Text.{prepend_to_first, has_no_words, same_bytes}

-- `is_one_of cs b` is true if byte `b` is one of the characters `cs`.
abbrev pub is_one_of : List ℕ → ℕ → Bool
is_one_of [] b = false
is_one_of (c ∷ cs) b = nat_eq b c || is_one_of cs b

-- `is_blank b` is true if the byte is a space, tab, CR or LF.
abbrev pub is_blank : ℕ → Bool
is_blank = is_one_of (codes " \t\r\n")

-- `is_digit b` is true if the byte is an ASCII digit.
abbrev pub is_digit : ℕ → Bool
is_digit = is_one_of (codes "0123456789")

-- the lines of a text, each with the LF that ends it; the last line may lack it
unfoldable pub lines : List ℕ → List (List ℕ)
lines [] = []
lines (b ∷ bs) = if is_one_of (codes "\n") b then (b ∷ []) ∷ lines bs else prepend_to_first b (lines bs)

-- `begins_nonblank bs` is true if the text begins with a nonblank byte.
abbrev pub begins_nonblank : List ℕ → Bool
begins_nonblank [] = false
begins_nonblank (b ∷ bs) = not (is_blank b)

-- the words of a text: its maximal runs of nonblank bytes
unfoldable pub words : List ℕ → List (List ℕ)
words [] = []
words (b ∷ bs) = if is_blank b then words bs else (if begins_nonblank bs then prepend_to_first b (words bs) else (b ∷ []) ∷ words bs)

-- `begins_with cs bs` is true if the first nonblank byte of the line is one of the characters `cs`.
unfoldable pub begins_with : List ℕ → List ℕ → Bool
begins_with cs [] = false
begins_with cs (b ∷ bs) = if is_blank b then begins_with cs bs else is_one_of cs b

-- the number spelled by the digits of `n` followed by these bytes, or `None` if one of the bytes is not a digit; 48 is
-- the code of `0`
unfoldable pub digits : ℕ → List ℕ → Option ℕ
digits n [] = Some n
digits n (d ∷ ds) = if is_digit d then digits (10 * n + (d - 48)) ds else None

-- the meaning of a word or of a header line
pub data Token : Type 0 where
  Number : Bool → ℕ → Token  -- whether the number is negative, and its absolute value, of any size
  Begins : Command → Token  -- the word `a`, `h`, `w` or `s`, with the command that it begins, still empty
  Header : Token  -- a line `p cnf V C` with two numbers, of any size
  Wrong : Token  -- any other word, and any other line that begins with `p`

-- the token of a line that begins with `p`: a header if its words are exactly `p`, `cnf` and two words of digits,
-- otherwise `Wrong`
abbrev pub header_in : List (List ℕ) → Token
header_in (p ∷ cnf ∷ v ∷ c ∷ []) =
    if (same_bytes p (codes "p") && same_bytes cnf (codes "cnf")) && (is_some (digits 0 v) && is_some (digits 0 c)) then Header else Wrong
header_in ws = Wrong

-- the token of a number, or `Wrong` if there is no number or it is a 0 with a minus sign
abbrev pub number_token : Bool → Option ℕ → Token
number_token negative None = Wrong
number_token negative (Some n) = if negative && nat_eq n 0 then Wrong else Number negative n

-- the token of an optional `-` and digits; `Wrong` for a 0 with a minus sign, and for any other word
abbrev pub number_of_word : List ℕ → Token
number_of_word [] = Wrong
number_of_word (b ∷ bs) = if is_one_of (codes "-") b then number_token true (digits 0 bs) else number_token false (digits 0 (b ∷ bs))

-- the token of a word: the letters `a`, `h`, `w` and `s` begin commands, and any other word is a number or `Wrong`
abbrev pub token_of_word : List ℕ → Token
token_of_word w =
    if same_bytes w (codes "a") then Begins (Ask [])
    else (if same_bytes w (codes "h") then Begins (Hide [])
    else (if same_bytes w (codes "w") then Begins (Witness [])
    else (if same_bytes w (codes "s") then Begins (Sample []) else number_of_word w)))

-- The tokens of lines. The first nonblank byte of a line says what it is. `%`: it and all lines after it have no
-- tokens. `c`: the line has none. `p`: the line has one, which is that of `header_in` if `may` is true, and `Wrong`
-- otherwise. Every other line has the tokens of its words. `may` is false after a `p` line, and after any other line
-- that has tokens.
unfoldable pub tokens_of_lines : Bool → List (List ℕ) → List Token
tokens_of_lines may [] = []
tokens_of_lines may (line ∷ lines) =
    if begins_with (codes "%") line then []
    else (if begins_with (codes "c") line then tokens_of_lines may lines
    else (if begins_with (codes "p") line then (if may then header_in (words line) else Wrong) ∷ tokens_of_lines false lines
    else map token_of_word (words line) ++ tokens_of_lines (may && has_no_words (words line)) lines))

-- The command with literal `l` appended. `Hide`, `Witness` and `Sample` get only its name, and give `None` if `l` is
-- negative.
abbrev pub command_with_literal : Literal → Command → Option Command
command_with_literal l (Clause ls) = Some (Clause (ls ++ l ∷ []))
command_with_literal l (Ask ls) = Some (Ask (ls ++ l ∷ []))
command_with_literal l (Hide names) = if l.positive then Some (Hide (names ++ l.name ∷ [])) else None
command_with_literal l (Witness names) = if l.positive then Some (Witness (names ++ l.name ∷ [])) else None
command_with_literal l (Sample names) = if l.positive then Some (Sample (names ++ l.name ∷ [])) else None

-- the reading that `more` gives for the command, or a malformed reading without commands if there is no command
abbrev pub parse_rest : Option Command → (Option Command → Reading) → Reading
parse_rest None more = ([], Malformed)
parse_rest (Some command) more = more (Some command)

-- The commands that tokens spell, and how the text ends. `hand` is the command that has begun and has no zero yet, or
-- `None`. A zero ends the command. If there is none, a zero is the empty clause, and any other number begins a
-- clause. Headers are skipped. The text is malformed at a wrong token, and at a letter or the end of the text within a
-- command. It is also malformed at a negative name after `h`, `w` or `s`.
unfoldable pub parse_tokens : Option Command → List Token → Reading
parse_tokens None [] = ([], Clean)
parse_tokens (Some command) [] = ([], Malformed)
parse_tokens hand (Number negative n ∷ ts) =
    if nat_eq n 0 then (unwrap_or hand (Clause []) ∷ (parse_tokens None ts).0, (parse_tokens None ts).1)
    else parse_rest (command_with_literal (record { name = n; positive = not negative }) (unwrap_or hand (Clause []))) (λ h. parse_tokens h ts)
parse_tokens None (Begins command ∷ ts) = parse_tokens (Some command) ts
parse_tokens hand (Header ∷ ts) = parse_tokens hand ts
parse_tokens hand (t ∷ ts) = ([], Malformed)

-- the commands that are written in a text, without the ask that a header may add, and how the text ends
abbrev pub parse_written : List ℕ → Reading
parse_written text = parse_tokens None (tokens_of_lines true (lines text))

-- `is_headed ts` is true if the first of the tokens is a header.
abbrev pub is_headed : List Token → Bool
is_headed (Header ∷ ts) = true
is_headed ts = false

-- The commands of a text, and how the text ends. If it begins with a header, ends cleanly and contains no ask, an ask
-- without literals is appended.
abbrev pub parse_script : List ℕ → Reading
parse_script text = with_ask (is_headed (tokens_of_lines true (lines text))) (parse_written text)
