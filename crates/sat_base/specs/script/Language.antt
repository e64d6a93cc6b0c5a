-- The language of scripts: what a text means, token by token.
use Rattle.std.specs.Prelude.{ℕ, ◌≡◌, Bool, true, not, ◌&&◌, Option, Some, None, List, [], ◌∷◌, ◌++◌, map, nat_eq, is_some, if◌then◌else◌}
use Rattle.sat_base.specs.text.Text.{Token, Number, Letter, Header, Wrong, tokens, dimacs_header, letter_a, letter_h, letter_s, letter_w}
use Rattle.sat_base.specs.script.Script.{Literal, Command, Clause, Ask, Hide, Witness, Sample, ScriptEnding, Clean, Malformed, names_of, has_ask, is_clean}

-- the kinds of command: a clause, which no letter begins, and the commands that `a`, `h`, `w` and `s` begin
pub data Kind : Type 0 where
  OfClause : Kind
  OfAsk : Kind
  OfHide : Kind
  OfWitness : Kind
  OfSample : Kind

-- the command of a kind with these literals; for `h`, `w` and `s` only with their names
abbrev pub command_of : Kind → List Literal → Command
command_of OfClause ls = Clause ls
command_of OfAsk ls = Ask ls
command_of OfHide ls = Hide (names_of ls)
command_of OfWitness ls = Witness (names_of ls)
command_of OfSample ls = Sample (names_of ls)

-- the unfinished command between two tokens: none, or one with its literals or names so far
pub data PartialCommand : Type 0 where
  NoCommand : PartialCommand
  InCommand : Kind → List Literal → PartialCommand

-- the effect of a token: the unfinished command is now this one or none, a command ends, or the text is malformed
pub data CommandTokenEffect : Type 0 where
  Continues : PartialCommand → CommandTokenEffect
  EndsCommand : Command → CommandTokenEffect
  Fails : CommandTokenEffect

-- the command that a zero ends; without an unfinished command, the empty clause
abbrev pub command_in : PartialCommand → Command
command_in NoCommand = Clause []
command_in (InCommand kind ls) = command_of kind ls

-- `allows_sign kind positive` is true if a literal of this sign is allowed in a command of this kind: a name has no
-- minus sign.
abbrev pub allows_sign : Kind → Bool → Bool
allows_sign OfClause positive = true
allows_sign OfAsk positive = true
allows_sign OfHide positive = positive
allows_sign OfWitness positive = positive
allows_sign OfSample positive = positive

-- the effect of a literal: it begins a clause or is added to the unfinished command, or the text is malformed if the
-- literal is negative and the command takes names (`h`, `w`, `s`)
abbrev pub literal_effect : PartialCommand → Literal → CommandTokenEffect
literal_effect NoCommand l = Continues (InCommand OfClause (l ∷ []))
literal_effect (InCommand kind ls) l = if allows_sign kind l.positive then Continues (InCommand kind (ls ++ l ∷ [])) else Fails

-- the kind of command that a letter begins, or `None` if the letter is not `a`, `h`, `w` or `s`
abbrev pub kind_of_letter : ℕ → Option Kind
kind_of_letter b =
    if nat_eq b letter_a then Some OfAsk
    else (if nat_eq b letter_h then Some OfHide
    else (if nat_eq b letter_w then Some OfWitness
    else (if nat_eq b letter_s then Some OfSample else None)))

-- the effect of a letter that begins a command of this kind; without a kind, the text is malformed
abbrev pub kind_effect : Option Kind → CommandTokenEffect
kind_effect None = Fails
kind_effect (Some kind) = Continues (InCommand kind [])

-- the effect of the letter `b` after this unfinished command: between commands it begins one, if it is `a`, `h`, `w` or
-- `s`; otherwise the text is malformed
abbrev pub letter_effect : PartialCommand → ℕ → CommandTokenEffect
letter_effect NoCommand b = kind_effect (kind_of_letter b)
letter_effect (InCommand kind ls) b = Fails

-- the effect of a token after the unfinished command `unfinished`: a number adds a literal, 0 ends the command, a
-- letter begins one, and a header changes nothing
abbrev pub command_token_effect : PartialCommand → Token → CommandTokenEffect
command_token_effect unfinished (Number negative value) =
    if nat_eq value 0 then EndsCommand (command_in unfinished) else literal_effect unfinished (record { name = value; positive = not negative })
command_token_effect unfinished (Letter b) = letter_effect unfinished b
command_token_effect unfinished (Header v c) = Continues unfinished
command_token_effect unfinished Wrong = Fails

-- the commands of a text, and how the text ends
abbrev pub Reading : Type 0
Reading = List Command × ScriptEnding

-- the reading with these commands before its own
abbrev pub prepend_commands : List Command → Reading → Reading
prepend_commands commands reading = (commands ++ reading.0, reading.1)

-- the ending if the text ends here: malformed within a command, otherwise clean
abbrev pub script_ending_here : PartialCommand → ScriptEnding
script_ending_here NoCommand = Clean
script_ending_here (InCommand kind ls) = Malformed

-- the reading after the effect of a token; `more` gives the reading of the later tokens, and malformed text ends it
abbrev pub after_command_token_effect : CommandTokenEffect → (PartialCommand → Reading) → Reading
after_command_token_effect (Continues unfinished) more = more unfinished
after_command_token_effect (EndsCommand command) more = prepend_commands (command ∷ []) (more NoCommand)
after_command_token_effect Fails more = ([], Malformed)

-- the commands that the tokens spell, up to the first that is malformed, and the ending, if `unfinished` is the command
-- begun before them
unfoldable pub commands_of : PartialCommand → List Token → Reading
commands_of unfinished [] = ([], script_ending_here unfinished)
commands_of unfinished (t ∷ ts) = after_command_token_effect (command_token_effect unfinished t) (λ h. commands_of h ts)

-- the tokens without their lines
abbrev pub without_lines : List (ℕ × Token) → List Token
without_lines ts = map (λ t. t.1) ts

-- the commands written in a text, up to where it is malformed, and its ending; without the ask that a header adds
unfoldable pub plain_reading : List ℕ → Reading
plain_reading text = commands_of NoCommand (without_lines (tokens text))

-- The reading with an ask without literals appended, if `due` is true, the text ended cleanly, and no command is an
-- ask. An ask that will be refused counts as an ask here.
abbrev pub with_ask : Bool → Reading → Reading
with_ask due r = if due && (is_clean r.1 && not (has_ask r.0)) then (r.0 ++ Ask [] ∷ [], Clean) else r

-- the commands of a text, up to where it is malformed, and its ending; after a header, an ask without literals is added
-- if the text ends cleanly without one
unfoldable pub reading : List ℕ → Reading
reading text = with_ask (is_some (dimacs_header text)) (plain_reading text)

-- `IsScript text commands end` holds if the text has these commands and this ending.
abbrev pub IsScript : List ℕ → List Command → ScriptEnding → Type 0
IsScript text commands end = reading text ≡ (commands, end)
