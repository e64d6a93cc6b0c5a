-- The effect of tokens on the unfinished command.
use Rattle.std.proofs.Common.{◌≡◌, ℕ, ◌<◌, List, [], ◌∷◌, ◌++◌, Bool, true, false, cond, Option, Some, None, refl, sym, ap, ◌∙◌, arith}
use Rattle.std.specs.Prelude.{nat_eq, not, ◌&&◌, ◌||◌}
use Rattle.std.proofs.lemmas.Bool.Decides.{nat_tests}
use Rattle.sat_base.specs.declared.text.Token.TheVariants as code
use Rattle.sat_base.specs.text.Text.{Token, Number, Letter, Header, Wrong}
use Rattle.sat_base.specs.text.Tokenizing.{capped, capped_token}
use Rattle.sat_base.specs.script.Script.{Literal, Command, Ask, ScriptEnding, Clean, Malformed, has_ask, is_clean}
use Rattle.sat_base.specs.script.Language.{Reading, prepend_commands, Kind, OfClause, command_of, PartialCommand, NoCommand, InCommand, CommandTokenEffect, Continues, EndsCommand, Fails, command_in, allows_sign, literal_effect, kind_of_letter, kind_effect, letter_effect, command_token_effect, script_ending_here, after_command_token_effect, commands_of, with_ask}
use Rattle.sat_base.proofs.lemmas.script.ScriptSpellings.{commands_of_nil, commands_of_cons}
use Rattle.certify.specs.script.Commands.{kind_of, is_ask_kind, IsWholeCommand, HoldsPartialCommand, or_empty_clause, is_header, has_header, remaining_reading, ReceivesToken, end_reading_if}
use Rattle.certify.specs.declared.script.Reached.TheVariants as reached
use Rattle.certify.specs.declared.script.ScriptEnd.TheVariants as ends
use Rattle.certify.specs.declared.script.draft.Draft.{Draft}
use Rattle.certify.specs.declared.script.commands.Commands.{Commands}

-- ASKS AND HEADERS
abbrev is_ask : Command → Bool
is_ask (Ask ls) = true
is_ask e = false

or_false : (b : Bool) → (b || false) ≡ b
or_false true = refl
or_false false = refl

or_true : (b : Bool) → (b || true) ≡ true
or_true true = refl
or_true false = refl

malformed_if : (due : Bool) → with_ask due ([], Malformed) ≡ ([], Malformed)
malformed_if true = refl
malformed_if false = refl

-- if no ask is due, none is added
undue : (due : Bool) (r : Reading) → due ≡ false → with_ask due r ≡ r
undue due r e = rw e refl

asked_no_more : (h a : Bool) → (h && not (a || true)) ≡ false
asked_no_more true true = refl
asked_no_more true false = refl
asked_no_more false a = refl

has_one : (due : Bool) (cs : List Command) (e : ScriptEnding) (ls : List Literal) → with_ask due (Ask ls ∷ cs, e) ≡ (Ask ls ∷ cs, e)
has_one true cs Clean ls = refl
has_one true cs Malformed ls = refl
has_one false cs e ls = refl

-- a command that is no ask
plain_onto : (due : Bool) (c : Command) (r : Reading) → has_ask (c ∷ r.0) ≡ has_ask r.0 → with_ask due (prepend_commands (c ∷ []) r) ≡ prepend_commands (c ∷ []) (with_ask due r)
plain_onto due c r e = rw e (go (due && (is_clean r.1 && not (has_ask r.0))))
  where
    go : (b : Bool) → cond b ((c ∷ r.0) ++ Ask [] ∷ [], Clean) (c ∷ r.0, r.1) ≡ prepend_commands (c ∷ []) (cond b (r.0 ++ Ask [] ∷ [], Clean) r)
    go true = refl
    go false = refl

ask_onto : (h a : Bool) (c : Command) (r : Reading) → with_ask (h && not a) (prepend_commands (c ∷ []) r) ≡ prepend_commands (c ∷ []) (with_ask (h && not (a || is_ask c)) r)
ask_onto h a (Ask ls) r = has_one (h && not a) r.0 r.1 ls ∙ ap (prepend_commands (Ask ls ∷ [])) (sym (undue (h && not (a || true)) r (asked_no_more h a)))
ask_onto h a e r = rw (or_false a) (plain_onto (h && not a) e r refl)

-- after a command, the ask of a header is due under the same condition, unless the command is an ask
ask_onto_if : (asks h a : Bool) (c : Command) (r : Reading) → with_ask (asks && (h && not a)) (prepend_commands (c ∷ []) r) ≡ prepend_commands (c ∷ []) (with_ask (asks && (h && not (a || is_ask c))) r)
ask_onto_if true h a c r = ask_onto h a c r
ask_onto_if false h a c r = refl

is_asked : (k : Kind) (ls : List Literal) → is_ask (command_of k ls) ≡ is_ask_kind k
is_asked OfClause ls = refl
is_asked e ls = refl

-- TOKENS
following : (asks : Bool) (old : Commands) (hand : PartialCommand) (t : Token) (k : CommandTokenEffect) (ts : List Token) → command_token_effect hand t ≡ k
    → remaining_reading asks old hand (t ∷ ts) ≡ with_ask (asks && ((old.headed || (is_header t || has_header ts)) && not old.asked)) (after_command_token_effect k (λ d. commands_of d ts))
following asks old hand t k ts e =
    ap (with_ask (asks && ((old.headed || (is_header t || has_header ts)) && not old.asked))) (commands_of_cons hand t ts ∙ ap (λ (j : CommandTokenEffect). after_command_token_effect j (λ d. commands_of d ts)) e)

-- a token that is no header and leaves the command unfinished
pub goes_on : (old new : Commands) (hand next : PartialCommand) (t : Token) → is_header t ≡ false → new.headed ≡ old.headed → new.asked ≡ old.asked → command_token_effect hand t ≡ Continues next
    → (asks : Bool) (ts : List Token) → remaining_reading asks old hand (t ∷ ts) ≡ remaining_reading asks new next ts
goes_on old new hand next t w h a e asks ts = following asks old hand t (Continues next) ts e ∙ rw (w, h, a) refl

pub fails : (old : Commands) (hand : PartialCommand) (t : Token) → command_token_effect hand t ≡ Fails → (asks : Bool) (ts : List Token) → remaining_reading asks old hand (t ∷ ts) ≡ ([], Malformed)
fails old hand t e asks ts = following asks old hand t Fails ts e ∙ malformed_if (asks && ((old.headed || (is_header t || has_header ts)) && not old.asked))

-- a header
pub header_taken : (old new : Commands) (v c : ℕ) → new ≡ record old { headed = true } → ReceivesToken reached.More old (Header v c) new
header_taken old new v c e hand h =
    let whole = λ (asks : Bool) (ts : List Token). following asks old hand (Header v c) (Continues hand) ts refl ∙ ap (λ (b : Bool). with_ask (asks && (b && not old.asked)) (commands_of hand ts)) (or_true old.headed) in
    rw e (hand, h, whole)

-- a zero
pub zero_taken : (old new : Commands) (negative : Bool) → new.headed ≡ old.headed → new.asked ≡ (old.asked || is_ask_kind (kind_of new.draft.kind)) → HoldsPartialCommand new.draft NoCommand
    → ((hand : PartialCommand) → HoldsPartialCommand old.draft hand → IsWholeCommand new.draft (command_in hand)) → ReceivesToken reached.Command old (Number negative 0) new
zero_taken old new negative h a none whole hand holds =
    let c = command_in hand in
    let w = whole hand holds in
    let k : is_ask c ≡ is_ask_kind (kind_of new.draft.kind) = ap is_ask w.2 ∙ is_asked (kind_of new.draft.kind) w.0 in
    let asked : new.asked ≡ (old.asked || is_ask c) = a ∙ ap (λ (b : Bool). old.asked || b) (sym k) in
    let read = λ (asks : Bool) (ts : List Token).
    following asks old hand (Number negative 0) (EndsCommand c) ts refl
    ∙ ask_onto_if asks (old.headed || has_header ts) old.asked c (commands_of NoCommand ts)
    ∙ ap (λ (b : Bool). prepend_commands (c ∷ []) (with_ask (asks && ((old.headed || has_header ts) && not b)) (commands_of NoCommand ts))) (sym asked)
    ∙ ap (λ (b : Bool). prepend_commands (c ∷ []) (with_ask (asks && ((b || has_header ts) && not new.asked)) (commands_of NoCommand ts))) (sym h) in
    (c, w, none, read)

-- a literal
pub turn_number : (hand : PartialCommand) (negative : Bool) (value : ℕ) → 0 < value → command_token_effect hand (Number negative value) ≡ literal_effect hand (record { name = value; positive = not negative })
turn_number hand negative value some = let e : nat_eq value 0 ≡ false = grind (arith, nat_tests) in rw e refl

-- a literal that the command may contain
pub valid : (d : Draft) (hand : PartialCommand) (l : Literal) → HoldsPartialCommand d (or_empty_clause hand) → allows_sign (kind_of d.kind) l.positive ≡ true
    → (kind : Kind) × (ls : List Literal) × HoldsPartialCommand d (InCommand kind ls) × (literal_effect hand l ≡ Continues (InCommand kind (ls ++ l ∷ [])))
valid d NoCommand l h m = (OfClause, [], h, refl)
valid d (InCommand kind ls) l h m = (kind, ls, h, let e : allows_sign kind l.positive ≡ true = ap (λ (k : Kind). allows_sign k l.positive) h.1 ∙ m in rw e refl)

-- a literal with a sign that the command cannot have makes the text malformed
pub misplaced : (d : Draft) (hand : PartialCommand) (l : Literal) → HoldsPartialCommand d (or_empty_clause hand) → allows_sign (kind_of d.kind) l.positive ≡ false → literal_effect hand l ≡ Fails
misplaced d NoCommand l h m = absurd (let e : allows_sign OfClause l.positive ≡ allows_sign (kind_of d.kind) l.positive = ap (λ (k : Kind). allows_sign k l.positive) h.1 in cc)
misplaced d (InCommand kind ls) l h m = let e : allows_sign kind l.positive ≡ false = ap (λ (k : Kind). allows_sign k l.positive) h.1 ∙ m in rw e refl

-- a letter within a command is an error
pub letter_inside : (d : Draft) (hand : PartialCommand) (b : ℕ) → d.is_open ≡ true → HoldsPartialCommand d hand → letter_effect hand b ≡ Fails
letter_inside d NoCommand b o h = absurd (cc)
letter_inside d (InCommand kind ls) b o h = refl

-- a letter that begins no command is an error
pub letter_unknown : (hand : PartialCommand) (b : ℕ) → kind_of_letter b ≡ None → letter_effect hand b ≡ Fails
letter_unknown NoCommand b e = ap kind_effect e
letter_unknown (InCommand kind ls) b e = refl

pub letter_begins : (d : Draft) (hand : PartialCommand) (b : ℕ) (k : Kind) → d.is_open ≡ false → HoldsPartialCommand d hand → kind_of_letter b ≡ Some k → letter_effect hand b ≡ Continues (InCommand k [])
letter_begins d NoCommand b k o h e = ap kind_effect e
letter_begins d (InCommand kind ls) b k o h e = absurd (cc (h.0))

-- THE CODE'S TOKENS
pub number_is : (t : Token) (negative : Bool) (value : ℕ) → code.Number negative value ≡ capped_token t → (v : ℕ) × (t ≡ Number negative v) × (value ≡ capped v)
number_is (Number n v) negative value e = (v, let x : negative ≡ n = cc in ap (λ (b : Bool). Number b v) (sym x), let y : value ≡ capped v = cc in y)
number_is z negative value e = absurd (cc)

pub letter_is : (t : Token) (b : ℕ) → code.Letter b ≡ capped_token t → t ≡ Letter b
letter_is (Letter d) b e = let x : b ≡ d = cc in ap Letter (sym x)
letter_is z b e = absurd (cc)

pub header_is : (t : Token) (v c : ℕ) → code.Header v c ≡ capped_token t → (x : ℕ) × (y : ℕ) × (t ≡ Header x y)
header_is (Header x y) v c e = (x, y, refl)
header_is z v c e = absurd (cc)

pub wrong_is : (t : Token) → code.Wrong ≡ capped_token t → t ≡ Wrong
wrong_is Wrong e = refl
wrong_is x e = absurd (cc)

pub held_zero : (v : ℕ) → 0 ≡ capped v → v ≡ 0
held_zero v e = omega arith

pub held_some : (v name : ℕ) → name ≡ capped v → 0 < name → 0 < v
held_some v name e h = omega arith

-- THE END
ends_at : (asks : Bool) (commands : Commands) (hand : PartialCommand) → remaining_reading asks commands hand [] ≡ with_ask (asks && (commands.headed && not commands.asked)) ([], script_ending_here hand)
ends_at asks commands hand = ap (λ (b : Bool). with_ask (asks && (b && not commands.asked)) (commands_of hand [])) (or_false commands.headed) ∙ ap (with_ask (asks && (commands.headed && not commands.asked))) (commands_of_nil hand)

-- a malformed text has the same end with and without the ask of a header
pub end_malformed : (asks : Bool) → end_reading_if asks ends.Malformed ≡ ([], Malformed)
end_malformed true = refl
end_malformed false = refl

-- a text that ends within a command is malformed
pub ends_inside : (asks : Bool) (commands : Commands) (hand : PartialCommand) → commands.draft.is_open ≡ true → HoldsPartialCommand commands.draft hand → end_reading_if asks ends.Malformed ≡ remaining_reading asks commands hand []
ends_inside asks commands NoCommand o h = absurd (cc)
ends_inside asks commands (InCommand kind ls) o h = end_malformed asks ∙ sym (ends_at asks commands (InCommand kind ls) ∙ malformed_if (asks && (commands.headed && not commands.asked)))

-- a text that ends after a header without an ask ends with one
pub ends_due : (asks : Bool) (commands : Commands) (hand : PartialCommand) → commands.draft.is_open ≡ false → HoldsPartialCommand commands.draft hand → (commands.headed && not commands.asked) ≡ true → end_reading_if asks ends.Asked ≡ remaining_reading asks commands hand []
ends_due true commands NoCommand o h e = sym (ends_at true commands NoCommand ∙ rw e refl)
ends_due false commands NoCommand o h e = sym (ends_at false commands NoCommand)
ends_due asks commands (InCommand kind ls) o h e = absurd (cc (h.0))

pub ends_clean : (asks : Bool) (commands : Commands) (hand : PartialCommand) → commands.draft.is_open ≡ false → HoldsPartialCommand commands.draft hand → (commands.headed && not commands.asked) ≡ false → end_reading_if asks ends.Clean ≡ remaining_reading asks commands hand []
ends_clean true commands NoCommand o h e = sym (ends_at true commands NoCommand ∙ rw e refl)
ends_clean false commands NoCommand o h e = sym (ends_at false commands NoCommand)
ends_clean asks commands (InCommand kind ls) o h e = absurd (cc (h.0))

-- the text is malformed if its last token leaves a command unfinished
pub ends_with : (asks : Bool) (commands : Commands) (hand : PartialCommand) (t : Token) → ((kind : Kind) × (ls : List Literal) × (command_token_effect hand t ≡ Continues (InCommand kind ls))) → end_reading_if asks ends.Malformed ≡ remaining_reading asks commands hand (t ∷ [])
ends_with asks commands hand t x =
    end_malformed asks ∙ sym (following asks commands hand t (Continues (InCommand x.0 x.1)) [] x.2 ∙ ap (with_ask (asks && ((commands.headed || (is_header t || false)) && not commands.asked))) (commands_of_nil (InCommand x.0 x.1)) ∙ malformed_if (asks && ((commands.headed || (is_header t || false)) && not commands.asked)))

pub ends_wrong : (asks : Bool) (commands : Commands) (hand : PartialCommand) (t : Token) → command_token_effect hand t ≡ Fails → end_reading_if asks ends.Malformed ≡ remaining_reading asks commands hand (t ∷ [])
ends_wrong asks commands hand t e = end_malformed asks ∙ sym (fails commands hand t e asks [])

number_at : (asks : Bool) (commands : Commands) (kind : Kind) (ls : List Literal) (l : Literal) (t : Token) (hand : PartialCommand) (b : Bool) → allows_sign kind l.positive ≡ b → command_token_effect hand t ≡ cond b (Continues (InCommand kind (ls ++ l ∷ []))) Fails → end_reading_if asks ends.Malformed ≡ remaining_reading asks commands hand (t ∷ [])
number_at asks commands kind ls l t hand true m e = ends_with asks commands hand t (kind, ls ++ l ∷ [], e)
number_at asks commands kind ls l t hand false m e = ends_wrong asks commands hand t e

pub number_ends : (asks : Bool) (commands : Commands) (hand : PartialCommand) (negative : Bool) (value : ℕ) → 0 < value → end_reading_if asks ends.Malformed ≡ remaining_reading asks commands hand (Number negative value ∷ [])
number_ends asks commands NoCommand negative value some =
    ends_with asks commands NoCommand (Number negative value) (OfClause, record { name = value; positive = not negative } ∷ [], turn_number NoCommand negative value some)
number_ends asks commands (InCommand kind ls) negative value some =
    let l : Literal = record { name = value; positive = not negative } in
    number_at asks commands kind ls l (Number negative value) (InCommand kind ls) (allows_sign kind l.positive) refl (turn_number (InCommand kind ls) negative value some)

letter_at : (asks : Bool) (commands : Commands) (b : ℕ) (o : Option Kind) → letter_effect NoCommand b ≡ kind_effect o → end_reading_if asks ends.Malformed ≡ remaining_reading asks commands NoCommand (Letter b ∷ [])
letter_at asks commands b None e = ends_wrong asks commands NoCommand (Letter b) e
letter_at asks commands b (Some kind) e = ends_with asks commands NoCommand (Letter b) (kind, [], e)

pub letter_ends : (asks : Bool) (commands : Commands) (hand : PartialCommand) (b : ℕ) → end_reading_if asks ends.Malformed ≡ remaining_reading asks commands hand (Letter b ∷ [])
letter_ends asks commands NoCommand b = letter_at asks commands b (kind_of_letter b) refl
letter_ends asks commands (InCommand kind ls) b = ends_wrong asks commands (InCommand kind ls) (Letter b) refl

-- a header as the last token
pub header_ends : (asks : Bool) (old new : Commands) (hand : PartialCommand) (v c : ℕ) → new ≡ record old { headed = true } → remaining_reading asks old hand (Header v c ∷ []) ≡ remaining_reading asks new hand []
header_ends asks old new hand v c e =
    let whole = following asks old hand (Header v c) (Continues hand) [] refl ∙ ap (λ (b : Bool). with_ask (asks && (b && not old.asked)) (commands_of hand [])) (or_true old.headed) in
    rw e whole
