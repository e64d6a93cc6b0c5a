-- The position of a reader of scripts in a text, and the effect of tokens and bytes.
use Rattle.std.specs.Prelude.{ℕ, ◌≡◌, ◌<◌, ◌*◌, Bool, true, false, not, ◌&&◌, ◌||◌, Option, Some, None, List, [], ◌∷◌, ◌++◌}
use Rattle.std.specs.List.{AllByRecursion}
use Rattle.sat_base.specs.values.Literals.{var_limit}
use Rattle.sat_base.specs.text.Text.{Token, Number, Letter, Header, Wrong, Scan}
use Rattle.sat_base.specs.text.Chunks.{LeadsByBytes, IgnoresRest}
use Rattle.sat_base.specs.text.WrongWords.{HasValidContinuation}
use Rattle.sat_base.specs.text.Tokenizing.{HasRemainingScan, capped}
use Rattle.sat_base.specs.script.Script.{Literal, Command, Ask, Clean, Malformed}
use Rattle.certify.specs.answers.AnswerForms.{named_literals}
use Rattle.sat_base.specs.script.Language.{Reading, prepend_commands, without_lines, Kind, OfClause, OfAsk, OfHide, OfWitness, OfSample, command_of, kind_of_letter, PartialCommand, NoCommand, InCommand, commands_of, with_ask}
use Rattle.certify.specs.declared.script.CommandKind.{CommandKind}
use Rattle.certify.specs.declared.script.CommandKind.TheVariants as kind
use Rattle.certify.specs.declared.script.Command.{Command as Lent}
use Rattle.certify.specs.declared.script.Reached.{Reached}
use Rattle.certify.specs.declared.script.Reached.TheVariants as reached
use Rattle.certify.specs.declared.script.ScriptEnd.{ScriptEnd}
use Rattle.certify.specs.declared.script.ScriptEnd.TheVariants as ends
use Rattle.certify.specs.declared.script.draft.Draft.{Draft}
use Rattle.certify.specs.declared.script.commands.Commands.{Commands}
use Rattle.certify.specs.declared.script.reader.ScriptReader.{ScriptReader}

-- the kind of command, as the definitions have it, for a kind of command of the code
abbrev pub kind_of : CommandKind → Kind
kind_of kind.Clause = OfClause
kind_of kind.Ask = OfAsk
kind_of kind.Hide = OfHide
kind_of kind.Witness = OfWitness
kind_of kind.Sample = OfSample

-- `LetterBeginsKind kind letter` holds if the letter begins a command of this kind, or no command (`None`).
abbrev pub LetterBeginsKind : Option CommandKind → ℕ → Type 0
LetterBeginsKind None letter = kind_of_letter letter ≡ None
LetterBeginsKind (Some kind) letter = kind_of_letter letter ≡ Some (kind_of kind)

-- `is_ask_kind kind` is true if a command of this kind is an ask.
abbrev pub is_ask_kind : Kind → Bool
is_ask_kind OfClause = false
is_ask_kind OfAsk = true
is_ask_kind OfHide = false
is_ask_kind OfWitness = false
is_ask_kind OfSample = false

-- `FirstIsPastLimit past ls` holds if the name of the first literal of `ls` is past the limit (2^28) or, if `past` is
-- false, there are no literals.
abbrev pub FirstIsPastLimit : Bool → List Literal → Type 0
FirstIsPastLimit false ls = ls ≡ []
FirstIsPastLimit true [] = ⊥
FirstIsPastLimit true (l ∷ ls) = var_limit < l.name

-- `IsPrefixWithinLimit codes past ls` holds if `codes` are the codes of the literals of `ls` before the first whose
-- name is past the limit, in order; `past` is true if there is such a literal.
pub record IsPrefixWithinLimit (codes : List ℕ) (past : Bool) (ls : List Literal) : Type 0 where
  pub within : AllByRecursion (λ code. code < 2 * var_limit) codes
  pub following : List Literal
  pub whole : ls ≡ named_literals codes ++ following
  pub limit : FirstIsPastLimit past following

-- `RepresentsCommand lent c` holds if the value `lent` of the code represents the command `c`: it has its kind, its
-- literals before the first one past the limit, and whether there is such a literal. Names are held as positive
-- literals.
abbrev pub RepresentsCommand : Lent → Command → Type 0
RepresentsCommand lent c = (ls : List Literal) × IsPrefixWithinLimit lent.literals.now lent.past_limit ls × (c ≡ command_of (kind_of lent.kind) ls)

-- `RepresentsSomeCommand lent` holds if the code's value represents some command.
abbrev pub RepresentsSomeCommand : Lent → Type 0
RepresentsSomeCommand lent = (c : Command) × RepresentsCommand lent c

-- `IsWholeCommand draft c` holds if the reader's draft is the complete command `c`: it has its kind, its literals
-- before the first one past the limit, and whether there is such a literal.
abbrev pub IsWholeCommand : Draft → Command → Type 0
IsWholeCommand draft c = (ls : List Literal) × IsPrefixWithinLimit draft.literals.items draft.past_limit ls × (c ≡ command_of (kind_of draft.kind) ls)

-- `HoldsPartialCommand draft hand` holds if the draft of the reader is open and has the kind and the literals so far of
-- the unfinished command `hand`, those before the first past the limit; or if it is not open, and there is none.
abbrev pub HoldsPartialCommand : Draft → PartialCommand → Type 0
HoldsPartialCommand draft NoCommand = draft.is_open ≡ false
HoldsPartialCommand draft (InCommand k ls) = (draft.is_open ≡ true) × (k ≡ kind_of draft.kind) × IsPrefixWithinLimit draft.literals.items draft.past_limit ls

-- the unfinished command or, if there is none, a clause without literals so far
abbrev pub or_empty_clause : PartialCommand → PartialCommand
or_empty_clause NoCommand = InCommand OfClause []
or_empty_clause (InCommand kind ls) = InCommand kind ls

-- `IsNumbered l name positive` holds if `name` is the name of the literal `l`, or 2^64-1 if that is less, and
-- `positive` is true if the literal has no minus sign.
pub record IsNumbered (l : Literal) (name : ℕ) (positive : Bool) : Type 0 where
  pub number : name ≡ capped l.name
  pub sign : positive ≡ l.positive

-- `is_header token` is true if the token is a line `p cnf V C`.
abbrev pub is_header : Token → Bool
is_header (Number negative value) = false
is_header (Letter b) = false
is_header (Header v c) = true
is_header Wrong = false

-- `has_header tokens` is true if one of the tokens is a line `p cnf V C`.
abbrev pub has_header : List Token → Bool
has_header [] = false
has_header (t ∷ ts) = is_header t || has_header ts

-- The rest of a script: the commands that the unfinished command `hand` and then the tokens spell, and how the text
-- ends. If `asks` is true, an ask without literals is appended if there is a header, before or among the tokens, but no
-- ask, and the text ends cleanly.
abbrev pub remaining_reading : Bool → Commands → PartialCommand → List Token → Reading
remaining_reading asks commands hand ts = with_ask (asks && ((commands.headed || has_header ts) && not commands.asked)) (commands_of hand ts)

-- `ReceivesToken reached old t new` holds if `reached` is what the token `t` led to: more is to be read, a command is
-- complete in the draft of `new`, or the text is malformed. Whatever tokens follow, the reading is the same from `new`
-- on, after the complete command if there is one.
abbrev pub ReceivesToken : Reached → Commands → Token → Commands → Type 0
ReceivesToken reached.More old t new = (hand : PartialCommand) → HoldsPartialCommand old.draft hand
    → (next : PartialCommand) × HoldsPartialCommand new.draft next × ((asks : Bool) (ts : List Token) → remaining_reading asks old hand (t ∷ ts) ≡ remaining_reading asks new next ts)
ReceivesToken reached.Command old t new = (hand : PartialCommand) → HoldsPartialCommand old.draft hand
    → (c : Command) × IsWholeCommand new.draft c × HoldsPartialCommand new.draft NoCommand
    × ((asks : Bool) (ts : List Token) → remaining_reading asks old hand (t ∷ ts) ≡ prepend_commands (c ∷ []) (remaining_reading asks new NoCommand ts))
ReceivesToken reached.Malformed old t new = (hand : PartialCommand) → HoldsPartialCommand old.draft hand
    → (asks : Bool) (ts : List Token) → remaining_reading asks old hand (t ∷ ts) ≡ ([], Malformed)

-- `ReaderMeansIf asks reader left_of` holds if `left_of` gives, for any bytes that follow, the rest of the script from
-- the reader's position on: its commands and its ending. If `asks` is true, it includes the ask that a header may add.
pub record ReaderMeansIf (asks : Bool) (reader : ScriptReader) (left_of : List ℕ → Reading) : Type 0 where
  pub hand : PartialCommand
  pub holds : HoldsPartialCommand reader.commands.draft hand
  pub scan_of : List ℕ → Scan
  pub valid : HasRemainingScan reader.tokenizer scan_of
  pub reads : (rest : List ℕ) → left_of rest ≡ remaining_reading asks reader.commands hand (without_lines (scan_of rest).tokens)

-- `ReaderMeans reader left_of` holds if `left_of` gives, for any bytes that follow, the rest of the script from the
-- reader's position on, including the ask that a header may add.
abbrev pub ReaderMeans : ScriptReader → (List ℕ → Reading) → Type 0
ReaderMeans = ReaderMeansIf true

-- `CanContinue reader` holds if some bytes can follow what was read such that no token from there on is wrong.
abbrev pub CanContinue : ScriptReader → Type 0
CanContinue reader = (scan_of : List ℕ → Scan) → HasRemainingScan reader.tokenizer scan_of → HasValidContinuation scan_of

-- `RestMatters reader` holds if the bytes that follow matter: no line that was read begins with `%`, which ends the
-- text.
abbrev pub RestMatters : ScriptReader → Type 0
RestMatters reader = (scan_of : List ℕ → Scan) → HasRemainingScan reader.tokenizer scan_of → IgnoresRest scan_of → ⊥

-- `HasWholeCommand reader c` holds if the draft of the reader is the complete command `c` (`IsWholeCommand`).
pub record HasWholeCommand (reader : ScriptReader) (c : Command) : Type 0 where
  pub whole : IsWholeCommand reader.commands.draft c

-- `ReachesCommand asks before bytes new` holds if `bytes` complete a command, which is then the draft of `new`,
-- whatever bytes follow. `before` gives the rest of the script from where `bytes` begin; with `asks`, it includes the
-- ask that a header may add.
pub record ReachesCommand (asks : Bool) (before : List ℕ → Reading) (bytes : List ℕ) (new : ScriptReader) : Type 0 where
  pub command : Command
  pub whole : HasWholeCommand new command
  pub after : List ℕ → Reading
  pub valid : ReaderMeansIf asks new after
  pub reads : (rest : List ℕ) → before (bytes ++ rest) ≡ prepend_commands (command ∷ []) (after rest)

-- `ReceivesBytes reached old bytes new` holds if `reached` is what `bytes` led to, whatever bytes follow: more is to be
-- read, a command is complete in the draft of `new`, or the text is malformed.
abbrev pub ReceivesBytes : Reached → ScriptReader → List ℕ → ScriptReader → Type 0
ReceivesBytes reached.More old bytes new = (asks : Bool) → LeadsByBytes (ReaderMeansIf asks) old bytes new
ReceivesBytes reached.Command old bytes new =
    (asks : Bool) (before : List ℕ → Reading) → ReaderMeansIf asks old before → ReachesCommand asks before bytes new
ReceivesBytes reached.Malformed old bytes new =
    (asks : Bool) (before : List ℕ → Reading) → ReaderMeansIf asks old before → (rest : List ℕ) → before (bytes ++ rest) ≡ ([], Malformed)

-- the rest of a script at its end: no command, or one ask without literals if a header was read and no ask; and how it
-- ends
abbrev pub end_reading : ScriptEnd → Reading
end_reading ends.Clean = ([], Clean)
end_reading ends.Asked = (Ask [] ∷ [], Clean)
end_reading ends.Malformed = ([], Malformed)

-- the rest of a script at its end, as in `end_reading` or, if the flag is false, without the ask that a header may add
abbrev pub end_reading_if : Bool → ScriptEnd → Reading
end_reading_if true e = end_reading e
end_reading_if false ends.Clean = ([], Clean)
end_reading_if false ends.Asked = ([], Clean)
end_reading_if false ends.Malformed = ([], Malformed)

-- `EndsWhateverFollows reader e` holds if no command is left, except for the ask that a header may add, and the script
-- ends as `e` says, whatever bytes follow. A line that begins with `%` has this effect.
abbrev pub EndsWhateverFollows : ScriptReader → ScriptEnd → Type 0
EndsWhateverFollows reader e = (asks : Bool) (before : List ℕ → Reading) → ReaderMeansIf asks reader before → (rest : List ℕ) → before rest ≡ end_reading_if asks e

-- `EndsCommands asks last e new r` holds if `r` is the rest of the script when the text has ended: if `last` is true,
-- first the complete command in the draft of `new`, and then the end `e`. With `asks`, it includes the ask that a
-- header may add.
abbrev pub EndsCommands : Bool → Bool → ScriptEnd → Commands → Reading → Type 0
EndsCommands asks false e new r = r ≡ end_reading_if asks e
EndsCommands asks true e new r = (c : Command) × IsWholeCommand new.draft c × (r ≡ prepend_commands (c ∷ []) (end_reading_if asks e))

-- `EndsScript asks last e new r` holds if `r` is the rest of the script when the text has ended: if `last` is true,
-- first the complete command in the draft of the reader `new`, and then the end `e`. With `asks`, it includes the ask
-- that a header may add.
abbrev pub EndsScript : Bool → Bool → ScriptEnd → ScriptReader → Reading → Type 0
EndsScript asks false e new r = r ≡ end_reading_if asks e
EndsScript asks true e new r = (c : Command) × HasWholeCommand new c × (r ≡ prepend_commands (c ∷ []) (end_reading_if asks e))
