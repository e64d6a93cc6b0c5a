-- How the commands of a script are spelled: a second definition of what a text means.
use Rattle.std.specs.Prelude.{◌≡◌, ℕ, ◌<◌, ◌↔◌, ◌⊎◌, true, List, [], ◌∷◌, ◌++◌, map, not, if◌then◌else◌}
use Rattle.std.specs.List.{AllByRecursion}
use Rattle.sat_base.specs.text.Text.{Token, Number, Letter, Header, Wrong, tokens, letter_a, letter_h, letter_s, letter_w}
use Rattle.sat_base.specs.script.Script.{Literal, Command, Ask, ScriptEnding, Clean, Malformed, has_ask}
use Rattle.sat_base.specs.script.Language.{Kind, OfClause, OfAsk, OfHide, OfWitness, OfSample, command_of, allows_sign, without_lines, IsScript}

-- the token of a literal: its name, negative if the literal is
abbrev pub literal_token : Literal → Token
literal_token l = Number (not l.positive) l.name

-- `AreAllowedInKind kind ls` holds if the literals are allowed in a command of this kind: all names are at least 1, and
-- all literals are positive unless it is a clause or an ask.
abbrev pub AreAllowedInKind : Kind → List Literal → Type 0
AreAllowedInKind kind ls = AllByRecursion (λ l. (0 < l.name) × (allows_sign kind l.positive ≡ true)) ls

-- `IsZeroToken token` holds if `token` is a zero, which ends a clause or command (no text has the token of a negative
-- zero).
abbrev pub IsZeroToken : Token → Type 0
IsZeroToken (Number negative value) = value ≡ 0
IsZeroToken (Letter b) = ⊥
IsZeroToken (Header v c) = ⊥
IsZeroToken Wrong = ⊥

-- the letter that a command of this kind begins with, or no token for a clause
abbrev pub command_letter : Kind → List Token
command_letter OfClause = []
command_letter OfAsk = Letter letter_a ∷ []
command_letter OfHide = Letter letter_h ∷ []
command_letter OfWitness = Letter letter_w ∷ []
command_letter OfSample = Letter letter_s ∷ []

-- `SpellsCommand c ts` holds if the tokens spell the command: its letter, its literals or names, and a zero.
pub record SpellsCommand (c : Command) (ts : List Token) : Type 0 where
  pub kind : Kind
  pub literals : List Literal
  pub last : Token
  pub is_last : IsZeroToken last
  pub named : AreAllowedInKind kind literals
  pub is : c ≡ command_of kind literals
  pub whole : ts ≡ command_letter kind ++ (map literal_token literals ++ last ∷ [])

-- `SpellsCommands cs ts` holds if the tokens spell the commands, one after another.
abbrev pub SpellsCommands : List Command → List Token → Type 0
SpellsCommands [] ts = ts ≡ []
SpellsCommands (c ∷ cs) ts = (front : List Token) × (rest : List Token) × SpellsCommand c front × SpellsCommands cs rest
    × (ts ≡ front ++ rest)

-- `BeginsNoCommand ts` holds if `ts` is not empty, and no prefix of it spells a command.
pub record BeginsNoCommand (ts : List Token) : Type 0 where
  pub some : ts ≡ [] → ⊥
  pub none : (c : Command) (front rest : List Token) → SpellsCommand c front → ts ≡ front ++ rest → ⊥

-- `SpellsCommandsAndEnding cs end ts` holds if the tokens spell the commands and then end, or, if malformed, continue
-- with tokens of which no prefix spells a command.
abbrev pub SpellsCommandsAndEnding : List Command → ScriptEnding → List Token → Type 0
SpellsCommandsAndEnding cs Clean ts = SpellsCommands cs ts
SpellsCommandsAndEnding cs Malformed ts = (front : List Token) × (rest : List Token) × SpellsCommands cs front × BeginsNoCommand rest × (ts ≡ front ++ rest)

-- the commands with an ask without literals appended, if the ending is clean and no command is an ask
abbrev pub with_final_ask : List Command → ScriptEnding → List Command
with_final_ask cs Clean = if has_ask cs then cs else cs ++ Ask [] ∷ []
with_final_ask cs Malformed = cs

-- `SpellsScript cs end ts` holds if the tokens `ts` spell the commands `cs` and the ending `end`, possibly after a
-- header. With a header, `cs` has an ask without literals at the end if the ending is clean and the tokens spell no
-- ask.
abbrev pub SpellsScript : List Command → ScriptEnding → List Token → Type 0
SpellsScript cs end ts = (((vars : ℕ) (clauses : ℕ) (rest : List Token) → ts ≡ Header vars clauses ∷ rest → ⊥) × SpellsCommandsAndEnding cs end ts)
    ⊎ ((vars : ℕ) × (clauses : ℕ) × (rest : List Token) × (spelled : List Command)
    × (ts ≡ Header vars clauses ∷ rest) × SpellsCommandsAndEnding spelled end rest × (cs ≡ with_final_ask spelled end))

-- `OneReading` holds if every text has exactly one list of commands and one ending.
pub record OneReading : Type 0 where
  pub some : (text : List ℕ) → (cs : List Command) × (end : ScriptEnding) × IsScript text cs end
  pub one : (text : List ℕ) (cs ds : List Command) (d e : ScriptEnding)
      → IsScript text cs d → IsScript text ds e → (cs ≡ ds) × (d ≡ e)

-- `ReadIfSpelled` holds if every text means a list of commands and an ending exactly when its tokens spell them.
abbrev pub ReadIfSpelled : Type 0
ReadIfSpelled = (text : List ℕ) (cs : List Command) (end : ScriptEnding) → IsScript text cs end ↔ SpellsScript cs end (without_lines (tokens text))
