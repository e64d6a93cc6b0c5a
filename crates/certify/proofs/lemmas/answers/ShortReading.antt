-- The short definition of a script's commands agrees with that which the code is proved against.
use Rattle.std.proofs.Common.{ℕ, ◌+◌, ◌≡◌, ◌∙◌, Bool, true, false, not, cond, Option, Some, None, List, [], ◌∷◌, ◌++◌, map, nat_eq, refl, ap}
use Rattle.std.specs.Prelude.{is_some, unwrap_or}
use Rattle.sat_base.specs.text.Text.{tokens, tokens_of, scan, header_of_tokens, dimacs_header, lines as code_lines, Token as CodeToken, Number as CodeNumber, Letter as CodeLetter, Header as CodeHeader, Wrong as CodeWrong}
use Rattle.sat_base.specs.script.Script.{Literal, Command, Clause, Ask, Hide, Witness, Sample, Malformed, names_of}
use Rattle.sat_base.specs.script.Language.{Reading, reading, plain_reading, with_ask, without_lines, Kind, OfClause, OfAsk, OfHide, OfWitness, OfSample, command_of, PartialCommand, NoCommand, InCommand, Continues, EndsCommand, Fails, commands_of, kind_effect, after_command_token_effect, command_in, literal_effect}
use Rattle.certify.specs.answers.ScriptText.{Token, lines, tokens_of_lines, command_with_literal, parse_rest, parse_tokens, parse_written, is_headed, parse_script}
use Rattle.certify.specs.laws.HeadlineLaws.{ReadingsAgree}
use Rattle.certify.proofs.lemmas.answers.ShortTokens.{begun, command_of_letter, short_token, short_tokens, same_lines, same_tokens}

-- COMMANDS

abbrev hand_in : PartialCommand → Option Command
hand_in NoCommand = None
hand_in (InCommand kind ls) = Some (command_of kind ls)

names_append : (ls : List Literal) (l : Literal) → names_of ls ++ l.name ∷ [] ≡ names_of (ls ++ l ∷ [])
names_append [] l = refl
names_append (k ∷ ls) l = ap (λ (ns : List ℕ). k.name ∷ ns) (names_append ls l)

-- `Agree short long` holds if both definitions read the rest in the same way, whatever command has begun.
abbrev Agree : (Option Command → Reading) → (PartialCommand → Reading) → Type 0
Agree short long = (h : PartialCommand) → short (hand_in h) ≡ long h

named_turn : (p : Bool) (command : Command) (kind : Kind) (ls : List Literal) (short : Option Command → Reading) (long : PartialCommand → Reading)
    → Agree short long → command ≡ command_of kind ls
    → parse_rest (cond p (Some command) None) short ≡ after_command_token_effect (cond p (Continues (InCommand kind ls)) Fails) long
named_turn true command kind ls short long same e = ap (λ (c : Command). short (Some c)) e ∙ same (InCommand kind ls)
named_turn false command kind ls short long same e = refl

literal_turn : (h : PartialCommand) (l : Literal) (short : Option Command → Reading) (long : PartialCommand → Reading) → Agree short long
    → parse_rest (command_with_literal l (unwrap_or (hand_in h) (Clause []))) short ≡ after_command_token_effect (literal_effect h l) long
literal_turn NoCommand l short long same = same (InCommand OfClause (l ∷ []))
literal_turn (InCommand OfClause ls) l short long same = same (InCommand OfClause (ls ++ l ∷ []))
literal_turn (InCommand OfAsk ls) l short long same = same (InCommand OfAsk (ls ++ l ∷ []))
literal_turn (InCommand OfHide ls) l short long same =
    named_turn l.positive (Hide (names_of ls ++ l.name ∷ [])) OfHide (ls ++ l ∷ []) short long same (ap Hide (names_append ls l))
literal_turn (InCommand OfWitness ls) l short long same =
    named_turn l.positive (Witness (names_of ls ++ l.name ∷ [])) OfWitness (ls ++ l ∷ []) short long same (ap Witness (names_append ls l))
literal_turn (InCommand OfSample ls) l short long same =
    named_turn l.positive (Sample (names_of ls ++ l.name ∷ [])) OfSample (ls ++ l ∷ []) short long same (ap Sample (names_append ls l))

ended : (h : PartialCommand) (short : Option Command → Reading) (long : PartialCommand → Reading) → Agree short long
    → (unwrap_or (hand_in h) (Clause []) ∷ (short None).0, (short None).1) ≡ after_command_token_effect (EndsCommand (command_in h)) long
ended NoCommand short long same = ap (λ (r : Reading). (Clause [] ∷ r.0, r.1)) (same NoCommand)
ended (InCommand kind ls) short long same = ap (λ (r : Reading). (command_of kind ls ∷ r.0, r.1)) (same NoCommand)

number_turn : (x : Bool) (h : PartialCommand) (l : Literal) (short : Option Command → Reading) (long : PartialCommand → Reading) → Agree short long
    → cond x (unwrap_or (hand_in h) (Clause []) ∷ (short None).0, (short None).1) (parse_rest (command_with_literal l (unwrap_or (hand_in h) (Clause []))) short)
    ≡ after_command_token_effect (cond x (EndsCommand (command_in h)) (literal_effect h l)) long
number_turn true h l short long same = ended h short long same
number_turn false h l short long same = literal_turn h l short long same

letter_turn : (a h w s : Bool) (short : Option Command → Reading) (long : PartialCommand → Reading) → Agree short long
    → parse_rest (cond a (Some (Ask [])) (cond h (Some (Hide [])) (cond w (Some (Witness [])) (cond s (Some (Sample [])) None)))) short
    ≡ after_command_token_effect (kind_effect (cond a (Some OfAsk) (cond h (Some OfHide) (cond w (Some OfWitness) (cond s (Some OfSample) None))))) long
letter_turn true h w s short long same = same (InCommand OfAsk [])
letter_turn false true w s short long same = same (InCommand OfHide [])
letter_turn false false true s short long same = same (InCommand OfWitness [])
letter_turn false false false true short long same = same (InCommand OfSample [])
letter_turn false false false false short long same = refl

begins : (o : Option Command) (ts : List Token) → parse_tokens None (begun o ∷ ts) ≡ parse_rest o (λ h. parse_tokens h ts)
unfolding parse_tokens
begins None ts = refl
begins (Some command) ts = refl

letter_within : (o : Option Command) (command : Command) (ts : List Token) → parse_tokens (Some command) (begun o ∷ ts) ≡ ([], Malformed)
unfolding parse_tokens
letter_within None command ts = refl
letter_within (Some other) command ts = refl

same_commands : (ts : List CodeToken) → Agree (λ h. parse_tokens h (map short_token ts)) (λ h. commands_of h ts)
unfolding commands_of parse_tokens
same_commands [] NoCommand = refl
same_commands [] (InCommand kind ls) = refl
same_commands (CodeNumber negative n ∷ ts) NoCommand =
    number_turn (nat_eq n 0) NoCommand (record { name = n; positive = not negative }) (λ h. parse_tokens h (map short_token ts)) (λ h. commands_of h ts) (same_commands ts)
same_commands (CodeNumber negative n ∷ ts) (InCommand kind ls) =
    number_turn (nat_eq n 0) (InCommand kind ls) (record { name = n; positive = not negative }) (λ h. parse_tokens h (map short_token ts)) (λ h. commands_of h ts) (same_commands ts)
same_commands (CodeLetter b ∷ ts) NoCommand =
    begins (command_of_letter b) (map short_token ts)
    ∙ letter_turn (nat_eq b 97) (nat_eq b 104) (nat_eq b 119) (nat_eq b 115) (λ h. parse_tokens h (map short_token ts)) (λ h. commands_of h ts) (same_commands ts)
same_commands (CodeLetter b ∷ ts) (InCommand kind ls) = letter_within (command_of_letter b) (command_of kind ls) (map short_token ts)
same_commands (CodeHeader v c ∷ ts) NoCommand = same_commands ts NoCommand
same_commands (CodeHeader v c ∷ ts) (InCommand kind ls) = same_commands ts (InCommand kind ls)
same_commands (CodeWrong ∷ ts) NoCommand = refl
same_commands (CodeWrong ∷ ts) (InCommand kind ls) = refl

-- TEXTS

not_headed : (o : Option Command) (ts : List Token) → is_headed (begun o ∷ ts) ≡ false
not_headed None ts = refl
not_headed (Some command) ts = refl

same_headed : (ts : List (ℕ × CodeToken)) → is_headed (short_tokens ts) ≡ is_some (header_of_tokens ts)
same_headed [] = refl
same_headed ((n, CodeNumber negative value) ∷ ts) = refl
same_headed ((n, CodeLetter b) ∷ ts) = not_headed (command_of_letter b) (short_tokens ts)
same_headed ((n, CodeHeader v c) ∷ ts) = refl
same_headed ((n, CodeWrong) ∷ ts) = refl

all_tokens : (text : List ℕ) → tokens_of_lines true (lines text) ≡ short_tokens (tokens text)
unfolding scan
all_tokens text = ap (λ (ls : List (List ℕ)). tokens_of_lines true ls) (same_lines text) ∙ same_tokens true 0 (code_lines text)

-- both definitions give a text the same commands
pub same_written : (text : List ℕ) → parse_written text ≡ plain_reading text
unfolding plain_reading
same_written text = ap (λ (ts : List Token). parse_tokens None ts) (all_tokens text) ∙ same_commands (without_lines (tokens text)) NoCommand

pub says_the_same : ReadingsAgree
unfolding reading
says_the_same text =
    ap (λ (b : Bool). with_ask b (parse_written text)) (ap is_headed (all_tokens text) ∙ same_headed (tokens text))
    ∙ ap (λ (r : Reading). with_ask (is_some (dimacs_header text)) r) (same_written text)
