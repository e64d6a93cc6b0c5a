-- A text means these commands and this ending exactly when its tokens spell them.
use Rattle.std.proofs.Common.{◌≡◌, ℕ, ◌<◌, List, [], ◌∷◌, ◌++◌, Bool, true, false, map, refl, sym, ap, ◌∙◌, append_assoc, subst, arith, inl, inr}
use Rattle.std.specs.Prelude.{nat_eq, not, ◌↔◌, Option, Some, None, is_some, drop}
use Rattle.std.proofs.lemmas.List.{append-nil}
use Rattle.std.proofs.lemmas.Bool.Decides.{nat_tests}
use Rattle.sat_base.specs.text.Text.{Token, Number, Letter, Header, Wrong, tokens, header_of_token, header_of_tokens, dimacs_header}
use Rattle.sat_base.specs.script.Script.{Literal, Command, ScriptEnding, Clean, Malformed, has_ask}
use Rattle.sat_base.specs.script.Language.{Reading, prepend_commands, without_lines, Kind, OfClause, OfAsk, OfHide, OfWitness, OfSample, command_of, PartialCommand, NoCommand, InCommand, CommandTokenEffect, Continues, EndsCommand, command_in, allows_sign, literal_effect, kind_of_letter, kind_effect, letter_effect, command_token_effect, script_ending_here, after_command_token_effect, commands_of, with_ask, plain_reading, reading}
use Rattle.sat_base.specs.script.ScriptSpelling.{OneReading, literal_token, AreAllowedInKind, IsZeroToken, command_letter, SpellsCommand, SpellsCommands, BeginsNoCommand, SpellsCommandsAndEnding, with_final_ask, SpellsScript, ReadIfSpelled}
use Rattle.sat_base.proofs.lemmas.text.HeaderFirst.{IsWord, AreWords, AreScript, text_is}

pub commands_of_nil : (h : PartialCommand) → commands_of h [] ≡ ([], script_ending_here h)
unfolding commands_of
commands_of_nil h = refl

pub commands_of_cons : (h : PartialCommand) (t : Token) (ts : List Token) → commands_of h (t ∷ ts) ≡ after_command_token_effect (command_token_effect h t) (λ k. commands_of k ts)
unfolding commands_of
commands_of_cons h t ts = refl

-- the unfinished command of this kind with these literals so far
abbrev hand_of : Kind → List Literal → PartialCommand
hand_of OfClause [] = NoCommand
hand_of OfClause (l ∷ ls) = InCommand OfClause (l ∷ ls)
hand_of e ls = InCommand e ls

hand_ends : (k : Kind) (done : List Literal) → command_in (hand_of k done) ≡ command_of k done
hand_ends OfClause [] = refl
hand_ends OfClause (d ∷ ds) = refl
hand_ends e ds = refl

hand_more : (k : Kind) (done : List Literal) (l : Literal) → allows_sign k l.positive ≡ true → literal_effect (hand_of k done) l ≡ Continues (hand_of k (done ++ l ∷ []))
hand_more OfClause [] l m = refl
hand_more OfClause (d ∷ ds) l m = refl
hand_more OfAsk ds l m = refl
hand_more e ds l m = rw m refl

same_literal : (l : Literal) → record { name = l.name; positive = not (not l.positive) } ≡ l
same_literal l = elim l.positive as (λ (b : Bool). record { name = l.name; positive = not (not b) } ≡ record { name = l.name; positive = b }) [ true ↦ refl | false ↦ refl ]

turn_number : (h : PartialCommand) (l : Literal) → 0 < l.name → command_token_effect h (literal_token l) ≡ literal_effect h l
turn_number h l n = let e : nat_eq l.name 0 ≡ false = grind (arith, nat_tests) in rw e (ap (literal_effect h) (same_literal l))

turn_zero : (h : PartialCommand) (t : Token) → IsZeroToken t → command_token_effect h t ≡ EndsCommand (command_in h)
turn_zero h (Number negative value) z = rw z refl
turn_zero h e z = absurd z

-- SPELLED COMMANDS ARE READ
reads_zero : (h : PartialCommand) (t : Token) (ts : List Token) → IsZeroToken t → commands_of h (t ∷ ts) ≡ prepend_commands (command_in h ∷ []) (commands_of NoCommand ts)
reads_zero h t ts z = commands_of_cons h t ts ∙ ap (λ (k : CommandTokenEffect). after_command_token_effect k (λ k. commands_of k ts)) (turn_zero h t z)

reads_literals : (k : Kind) (done ls : List Literal) (t : Token) (ts : List Token) → AreAllowedInKind k ls → IsZeroToken t
    → commands_of (hand_of k done) ((map literal_token ls ++ t ∷ []) ++ ts) ≡ prepend_commands (command_of k (done ++ ls) ∷ []) (commands_of NoCommand ts)
reads_literals k done [] t ts n z =
    reads_zero (hand_of k done) t ts z ∙ ap (λ (c : Command). prepend_commands (c ∷ []) (commands_of NoCommand ts)) (hand_ends k done ∙ ap (command_of k) (sym (append-nil done)))
reads_literals k done (l ∷ ls) t ts n z =
    commands_of_cons (hand_of k done) (literal_token l) ((map literal_token ls ++ t ∷ []) ++ ts)
    ∙ ap (λ (j : CommandTokenEffect). after_command_token_effect j (λ d. commands_of d ((map literal_token ls ++ t ∷ []) ++ ts))) (turn_number (hand_of k done) l n.0.0 ∙ hand_more k done l n.0.1)
    ∙ reads_literals k (done ++ l ∷ []) ls t ts n.1 z
    ∙ ap (λ (ks : List Literal). prepend_commands (command_of k ks ∷ []) (commands_of NoCommand ts)) (append_assoc done (l ∷ []) ls)

begins_hand : (k : Kind) (ts : List Token) → commands_of NoCommand (command_letter k ++ ts) ≡ commands_of (hand_of k []) ts
begins_hand OfClause ts = refl
begins_hand OfAsk ts = commands_of_cons NoCommand (Letter 97) ts
begins_hand OfHide ts = commands_of_cons NoCommand (Letter 104) ts
begins_hand OfWitness ts = commands_of_cons NoCommand (Letter 119) ts
begins_hand OfSample ts = commands_of_cons NoCommand (Letter 115) ts

reads_command : (c : Command) (front ts : List Token) → SpellsCommand c front → commands_of NoCommand (front ++ ts) ≡ prepend_commands (c ∷ []) (commands_of NoCommand ts)
reads_command c front ts s =
    ap (λ (us : List Token). commands_of NoCommand (us ++ ts)) s.whole
    ∙ ap (commands_of NoCommand) (append_assoc (command_letter s.kind) (map literal_token s.literals ++ s.last ∷ []) ts)
    ∙ begins_hand s.kind ((map literal_token s.literals ++ s.last ∷ []) ++ ts)
    ∙ reads_literals s.kind [] s.literals s.last ts s.named s.is_last
    ∙ ap (λ (d : Command). prepend_commands (d ∷ []) (commands_of NoCommand ts)) (sym s.is)

reads_spelled : (cs : List Command) (front ts : List Token) → SpellsCommands cs front → commands_of NoCommand (front ++ ts) ≡ prepend_commands cs (commands_of NoCommand ts)
reads_spelled [] front ts s = rw s refl
reads_spelled (c ∷ cs) front ts s =
    ap (λ (us : List Token). commands_of NoCommand (us ++ ts)) s.4
    ∙ ap (commands_of NoCommand) (append_assoc s.0 s.1 ts)
    ∙ reads_command c s.0 (s.1 ++ ts) s.2
    ∙ ap (prepend_commands (c ∷ [])) (reads_spelled cs s.1 ts s.3)

-- COMMANDS THAT ARE READ ARE SPELLED
-- `Firstly k done c cs end ts` holds if the tokens finish the unfinished command, and the rest is read as the other
-- commands.
pub record Firstly (k : Kind) (done : List Literal) (c : Command) (cs : List Command) (end : ScriptEnding) (ts : List Token) : Type 0 where
  pub literals : List Literal
  pub last : Token
  pub later : List Token
  pub is_last : IsZeroToken last
  pub named : AreAllowedInKind k literals
  pub is : c ≡ command_of k (done ++ literals)
  pub whole : ts ≡ (map literal_token literals ++ last ∷ []) ++ later
  pub left : commands_of NoCommand later ≡ (cs, end)

pub record First (c : Command) (cs : List Command) (end : ScriptEnding) (ts : List Token) : Type 0 where
  pub front : List Token
  pub later : List Token
  pub spelled : SpellsCommand c front
  pub whole : ts ≡ front ++ later
  pub left : commands_of NoCommand later ≡ (cs, end)

abbrev From : PartialCommand → Command → List Command → ScriptEnding → List Token → Type 0
From NoCommand c cs end ts = First c cs end ts
From (InCommand k done) c cs end ts = Firstly k done c cs end ts

abbrev AllFirst : List Token → Type 0
AllFirst ts = (h : PartialCommand) (c : Command) (cs : List Command) (end : ScriptEnding) → commands_of h ts ≡ (c ∷ cs, end) → From h c cs end ts

none_read : {A : Type 0} (d end : ScriptEnding) (c : Command) (cs : List Command) → ◌≡◌ {A = Reading} ([], d) (c ∷ cs, end) → A
none_read d end c cs e = let f : [] ≡ c ∷ cs = ap (λ (r : Reading). r.0) e in absurd (cc)

same_head : (b c : Command) (bs cs : List Command) → ◌≡◌ {A = List Command} (b ∷ bs) (c ∷ cs) → b ≡ c
same_head b c bs cs e = cc

same_tail : (b c : Command) (bs cs : List Command) → ◌≡◌ {A = List Command} (b ∷ bs) (c ∷ cs) → bs ≡ cs
same_tail b c bs cs e = cc

-- the next token is a zero
zero_first : (h : PartialCommand) (t : Token) (ts : List Token) (cs : List Command) (end : ScriptEnding) → IsZeroToken t → commands_of NoCommand ts ≡ (cs, end) → From h (command_in h) cs end (t ∷ ts)
zero_first NoCommand t ts cs end z e = record {
  front = t ∷ [];
  later = ts;
  spelled = record { kind = OfClause; literals = []; last = t; is_last = z; named = tt; is = refl; whole = refl };
  whole = refl;
  left = e;
}
zero_first (InCommand k done) t ts cs end z e = record { literals = []; last = t; later = ts; is_last = z; named = tt; is = ap (command_of k) (sym (append-nil done)); whole = refl; left = e }

pair : (r : Reading) (cs : List Command) (end : ScriptEnding) → r.0 ≡ cs → r.1 ≡ end → r ≡ (cs, end)
pair r cs end a b = ap (λ (xs : List Command). (xs, r.1)) a ∙ ap (λ (d : ScriptEnding). (cs, d)) b

ends_first : (h : PartialCommand) (t : Token) (ts : List Token) (c : Command) (cs : List Command) (end : ScriptEnding) → IsZeroToken t
    → prepend_commands (command_in h ∷ []) (commands_of NoCommand ts) ≡ (c ∷ cs, end) → From h c cs end (t ∷ ts)
ends_first h t ts c cs end z e =
    let r = commands_of NoCommand ts in
    let both : ◌≡◌ {A = List Command} (command_in h ∷ r.0) (c ∷ cs) = ap (λ (x : Reading). x.0) e in
    let last : r.1 ≡ end = ap (λ (x : Reading). x.1) e in
    subst (λ (d : Command). From h d cs end (t ∷ ts)) (same_head (command_in h) c r.0 cs both)
    (zero_first h t ts cs end z (pair r cs end (same_tail (command_in h) c r.0 cs both) last))

same_number : (negative : Bool) (value : ℕ) → Number negative value ≡ literal_token (record { name = value; positive = not negative })
same_number true value = refl
same_number false value = refl

-- the next token is a literal
clause_first : (t : Token) (l : Literal) (ts : List Token) (c : Command) (cs : List Command) (end : ScriptEnding) → t ≡ literal_token l → 0 < l.name → Firstly OfClause (l ∷ []) c cs end ts → First c cs end (t ∷ ts)
clause_first t l ts c cs end e n s = record {
  front = map literal_token (l ∷ s.literals) ++ s.last ∷ [];
  later = s.later;
  spelled = record { kind = OfClause; literals = l ∷ s.literals; last = s.last; is_last = s.is_last; named = ((n, refl), s.named); is = s.is; whole = refl };
  whole = rw e (ap (λ (us : List Token). literal_token l ∷ us) s.whole);
  left = s.left;
}

literal_first : (k : Kind) (t : Token) (l : Literal) (done : List Literal) (ts : List Token) (c : Command) (cs : List Command) (end : ScriptEnding) → t ≡ literal_token l → 0 < l.name → allows_sign k l.positive ≡ true
    → Firstly k (done ++ l ∷ []) c cs end ts → Firstly k done c cs end (t ∷ ts)
literal_first k t l done ts c cs end e n m s = record {
  literals = l ∷ s.literals;
  last = s.last;
  later = s.later;
  is_last = s.is_last;
  named = ((n, m), s.named);
  is = s.is ∙ ap (command_of k) (append_assoc done (l ∷ []) s.literals);
  whole = rw e (ap (λ (us : List Token). literal_token l ∷ us) s.whole);
  left = s.left;
}

within_left : (k : Kind) (done : List Literal) (t : Token) (l : Literal) (ts : List Token) (c : Command) (cs : List Command) (end : ScriptEnding) (valid : Bool) → allows_sign k l.positive ≡ valid
    → t ≡ literal_token l → 0 < l.name → AllFirst ts → after_command_token_effect (literal_effect (InCommand k done) l) (λ j. commands_of j ts) ≡ (c ∷ cs, end) → Firstly k done c cs end (t ∷ ts)
within_left k done t l ts c cs end true m e n ih f = literal_first k t l done ts c cs end e n m (ih (InCommand k (done ++ l ∷ [])) c cs end (rw m at f))
within_left k done t l ts c cs end false m e n ih f = none_read Malformed end c cs (rw m at f)

literal_left : (h : PartialCommand) (t : Token) (l : Literal) (ts : List Token) (c : Command) (cs : List Command) (end : ScriptEnding) → t ≡ literal_token l → 0 < l.name → AllFirst ts
    → after_command_token_effect (literal_effect h l) (λ j. commands_of j ts) ≡ (c ∷ cs, end) → From h c cs end (t ∷ ts)
literal_left NoCommand t l ts c cs end e n ih f = clause_first t l ts c cs end e n (ih (InCommand OfClause (l ∷ [])) c cs end f)
literal_left (InCommand k done) t l ts c cs end e n ih f = within_left k done t l ts c cs end (allows_sign k l.positive) refl e n ih f

number_left : (h : PartialCommand) (negative : Bool) (value : ℕ) (ts : List Token) (c : Command) (cs : List Command) (end : ScriptEnding) (zero : Bool) → nat_eq value 0 ≡ zero → AllFirst ts
    → after_command_token_effect (command_token_effect h (Number negative value)) (λ j. commands_of j ts) ≡ (c ∷ cs, end) → From h c cs end (Number negative value ∷ ts)
number_left h negative value ts c cs end true z ih f =
    let same : value ≡ 0 = grind (arith, nat_tests) in
    ends_first h (Number negative value) ts c cs end same (rw z at f)
number_left h negative value ts c cs end false z ih f =
    let some : 0 < value = grind (arith, nat_tests) in
    literal_left h (Number negative value) (record { name = value; positive = not negative }) ts c cs end (same_number negative value) some ih (rw z at f)

-- the next token is a letter
begun : (k : Kind) (b : ℕ) (ts : List Token) (c : Command) (cs : List Command) (end : ScriptEnding) → Letter b ∷ [] ≡ command_letter k → Firstly k [] c cs end ts → First c cs end (Letter b ∷ ts)
begun k b ts c cs end e s = record {
  front = command_letter k ++ (map literal_token s.literals ++ s.last ∷ []);
  later = s.later;
  spelled = record { kind = k; literals = s.literals; last = s.last; is_last = s.is_last; named = s.named; is = s.is; whole = refl };
  whole = ap (λ (us : List Token). us ++ ts) e ∙ ap (λ (us : List Token). command_letter k ++ us) s.whole ∙ sym (append_assoc (command_letter k) (map literal_token s.literals ++ s.last ∷ []) s.later);
  left = s.left;
}

letter_is : (b n : ℕ) → nat_eq b n ≡ true → ◌≡◌ {A = List Token} (Letter b ∷ []) (Letter n ∷ [])
letter_is b n e = let same : b ≡ n = grind (arith, nat_tests) in ap (λ (m : ℕ). Letter m ∷ []) same

letter_left : (b : ℕ) (ts : List Token) (c : Command) (cs : List Command) (end : ScriptEnding) (is_a is_h is_w is_s : Bool) → nat_eq b 97 ≡ is_a → nat_eq b 104 ≡ is_h → nat_eq b 119 ≡ is_w → nat_eq b 115 ≡ is_s → AllFirst ts
    → after_command_token_effect (letter_effect NoCommand b) (λ j. commands_of j ts) ≡ (c ∷ cs, end) → First c cs end (Letter b ∷ ts)
letter_left b ts c cs end true is_h is_w is_s p q u v ih f = begun OfAsk b ts c cs end (letter_is b 97 p) (ih (InCommand OfAsk []) c cs end (rw p at f))
letter_left b ts c cs end false true is_w is_s p q u v ih f = begun OfHide b ts c cs end (letter_is b 104 q) (ih (InCommand OfHide []) c cs end (rw (p, q) at f))
letter_left b ts c cs end false false true is_s p q u v ih f = begun OfWitness b ts c cs end (letter_is b 119 u) (ih (InCommand OfWitness []) c cs end (rw (p, q, u) at f))
letter_left b ts c cs end false false false true p q u v ih f = begun OfSample b ts c cs end (letter_is b 115 v) (ih (InCommand OfSample []) c cs end (rw (p, q, u, v) at f))
letter_left b ts c cs end false false false false p q u v ih f = none_read Malformed end c cs (rw (p, q, u, v) at f)

in_hand_left : (h : PartialCommand) (b : ℕ) (ts : List Token) (c : Command) (cs : List Command) (end : ScriptEnding) → AllFirst ts → after_command_token_effect (letter_effect h b) (λ j. commands_of j ts) ≡ (c ∷ cs, end) → From h c cs end (Letter b ∷ ts)
in_hand_left NoCommand b ts c cs end ih f = letter_left b ts c cs end (nat_eq b 97) (nat_eq b 104) (nat_eq b 119) (nat_eq b 115) refl refl refl refl ih f
in_hand_left (InCommand k done) b ts c cs end ih f = none_read Malformed end c cs f

token_left : (h : PartialCommand) (t : Token) (ts : List Token) (c : Command) (cs : List Command) (end : ScriptEnding) → IsWord t → AllFirst ts → after_command_token_effect (command_token_effect h t) (λ j. commands_of j ts) ≡ (c ∷ cs, end) → From h c cs end (t ∷ ts)
token_left h (Number negative value) ts c cs end w ih f = number_left h negative value ts c cs end (nat_eq value 0) refl ih f
token_left h (Letter b) ts c cs end w ih f = in_hand_left h b ts c cs end ih f
token_left h (Header v x) ts c cs end w ih f = absurd w
token_left h Wrong ts c cs end w ih f = none_read Malformed end c cs f

all_first : (ts : List Token) → AreWords ts → AllFirst ts
all_first [] w h c cs end e = none_read (script_ending_here h) end c cs (sym (commands_of_nil h) ∙ e)
all_first (t ∷ ts) w h c cs end e = token_left h t ts c cs end w.0 (all_first ts w.1) (sym (commands_of_cons h t ts) ∙ e)

-- the end of a list of words is a list of words
words_after : (front rest : List Token) → AreWords (front ++ rest) → AreWords rest
words_after [] rest w = w
words_after (t ∷ front) rest w = words_after front rest w.1

-- `Spelled cs end ts` holds if a prefix of the tokens spells the commands, and no command is read from the rest.
pub record Spelled (cs : List Command) (end : ScriptEnding) (ts : List Token) : Type 0 where
  pub front : List Token
  pub rest : List Token
  pub spelled : SpellsCommands cs front
  pub whole : ts ≡ front ++ rest
  pub left : commands_of NoCommand rest ≡ ([], end)
  pub words : AreWords rest

all_spelled : (cs : List Command) (end : ScriptEnding) (ts : List Token) → AreWords ts → commands_of NoCommand ts ≡ (cs, end) → Spelled cs end ts
all_spelled [] end ts w e = record { front = []; rest = ts; spelled = refl; whole = refl; left = e; words = w }
all_spelled (c ∷ cs) end ts w e =
    let f = all_first ts w NoCommand c cs end e in
    let v : AreWords f.later = words_after f.front f.later (subst AreWords f.whole w) in
    let s = all_spelled cs end f.later v f.left in
    record {
      front = f.front ++ s.front;
      rest = s.rest;
      spelled = (f.front, s.front, f.spelled, s.spelled, refl);
      whole = f.whole ∙ ap (λ (us : List Token). f.front ++ us) s.whole ∙ sym (append_assoc f.front s.front s.rest);
      left = s.left;
      words = s.words;
    }

-- NO COMMAND IS LEFT
clean_or_malformed : {A : Type 0} (cs ds : List Command) → ◌≡◌ {A = Reading} (cs, Clean) (ds, Malformed) → A
clean_or_malformed cs ds e = let f : Clean ≡ Malformed = ap (λ (r : Reading). r.1) e in absurd (cc)

-- `NoneClean h ts` holds if only the empty list of tokens, without an unfinished command, is read as no command and a
-- clean ending.
abbrev NoneClean : PartialCommand → List Token → Type 0
NoneClean h ts = commands_of h ts ≡ ([], Clean) → (h ≡ NoCommand) × (ts ≡ [])

onto_some : {A : Type 0} (c : Command) (r : Reading) (end : ScriptEnding) → prepend_commands (c ∷ []) r ≡ ([], end) → A
onto_some c r end e = let f : ◌≡◌ {A = List Command} (c ∷ r.0) [] = ap (λ (x : Reading). x.0) e in absurd (cc)

malformed : {A : Type 0} → ◌≡◌ {A = Reading} ([], Malformed) ([], Clean) → A
malformed e = let f : Malformed ≡ Clean = ap (λ (r : Reading). r.1) e in absurd (cc)

within_none : {A : Type 0} (k : Kind) (ls : List Literal) → ◌≡◌ {A = PartialCommand} (InCommand k ls) NoCommand → A
within_none k ls e = absurd (cc)

none_within : (k : Kind) (done : List Literal) (l : Literal) (ts : List Token) (valid : Bool) → allows_sign k l.positive ≡ valid → ((h : PartialCommand) → NoneClean h ts)
    → after_command_token_effect (literal_effect (InCommand k done) l) (λ j. commands_of j ts) ≡ ([], Clean) → ⊥
none_within k done l ts true m ih f = within_none k (done ++ l ∷ []) (ih (InCommand k (done ++ l ∷ [])) (rw m at f)).0
none_within k done l ts false m ih f = malformed (rw m at f)

none_literal : (h : PartialCommand) (l : Literal) (ts : List Token) → ((h : PartialCommand) → NoneClean h ts) → after_command_token_effect (literal_effect h l) (λ j. commands_of j ts) ≡ ([], Clean) → ⊥
none_literal NoCommand l ts ih f = within_none OfClause (l ∷ []) (ih (InCommand OfClause (l ∷ [])) f).0
none_literal (InCommand k done) l ts ih f = none_within k done l ts (allows_sign k l.positive) refl ih f

none_number : (h : PartialCommand) (negative : Bool) (value : ℕ) (ts : List Token) (zero : Bool) → nat_eq value 0 ≡ zero → ((h : PartialCommand) → NoneClean h ts)
    → after_command_token_effect (command_token_effect h (Number negative value)) (λ j. commands_of j ts) ≡ ([], Clean) → ⊥
none_number h negative value ts true z ih f = onto_some (command_in h) (commands_of NoCommand ts) Clean (rw z at f)
none_number h negative value ts false z ih f = none_literal h (record { name = value; positive = not negative }) ts ih (rw z at f)

none_begun : (o : Option Kind) (ts : List Token) → ((h : PartialCommand) → NoneClean h ts) → after_command_token_effect (kind_effect o) (λ j. commands_of j ts) ≡ ([], Clean) → ⊥
none_begun None ts ih f = malformed f
none_begun (Some k) ts ih f = within_none k [] (ih (InCommand k []) f).0

none_letter : (h : PartialCommand) (b : ℕ) (ts : List Token) → ((h : PartialCommand) → NoneClean h ts) → after_command_token_effect (letter_effect h b) (λ j. commands_of j ts) ≡ ([], Clean) → ⊥
none_letter NoCommand b ts ih f = none_begun (kind_of_letter b) ts ih f
none_letter (InCommand k done) b ts ih f = malformed f

none_token : (h : PartialCommand) (t : Token) (ts : List Token) → IsWord t → ((h : PartialCommand) → NoneClean h ts) → after_command_token_effect (command_token_effect h t) (λ j. commands_of j ts) ≡ ([], Clean) → ⊥
none_token h (Number negative value) ts w ih f = none_number h negative value ts (nat_eq value 0) refl ih f
none_token h (Letter b) ts w ih f = none_letter h b ts ih f
none_token h (Header v c) ts w ih f = absurd w
none_token h Wrong ts w ih f = malformed f

none_nil : (h : PartialCommand) → ◌≡◌ {A = Reading} ([], script_ending_here h) ([], Clean) → (h ≡ NoCommand) × (◌≡◌ {A = List Token} [] [])
none_nil NoCommand e = (refl, refl)
none_nil (InCommand k done) e = malformed e

none_left : (ts : List Token) → AreWords ts → (h : PartialCommand) → NoneClean h ts
none_left [] w h e = none_nil h (sym (commands_of_nil h) ∙ e)
none_left (t ∷ ts) w h e = absurd (none_token h t ts w.0 (none_left ts w.1) (sym (commands_of_cons h t ts) ∙ e))

-- CLEAN AND MALFORMED ENDINGS
onto_is : (c : Command) (r : Reading) (end : ScriptEnding) {A : Type 0} → ◌≡◌ {A = Reading} ([], end) (prepend_commands (c ∷ []) r) → A
onto_is c r end e = onto_some c r end (sym e)

begins_none : (rest : List Token) → commands_of NoCommand rest ≡ ([], Malformed) → BeginsNoCommand rest
begins_none rest e = record {
  some = λ f. clean_or_malformed [] [] (sym (ap (commands_of NoCommand) f ∙ commands_of_nil NoCommand) ∙ e);
  none = λ c front later s f. onto_is c (commands_of NoCommand later) Malformed (sym e ∙ ap (commands_of NoCommand) f ∙ reads_command c front later s);
}

broken_reads_as : (rest : List Token) (cs : List Command) (end : ScriptEnding) → AreWords rest → BeginsNoCommand rest → commands_of NoCommand rest ≡ (cs, end) → commands_of NoCommand rest ≡ ([], Malformed)
broken_reads_as rest [] Malformed w b e = e
broken_reads_as rest [] Clean w b e = absurd (b.some (none_left rest w NoCommand e).1)
broken_reads_as rest (c ∷ cs) end w b e = let f = all_first rest w NoCommand c cs end e in absurd (b.none c f.front f.later f.spelled f.whole)

broken_reads : (rest : List Token) → AreWords rest → BeginsNoCommand rest → commands_of NoCommand rest ≡ ([], Malformed)
broken_reads rest w b = broken_reads_as rest (commands_of NoCommand rest).0 (commands_of NoCommand rest).1 w b refl

to_spelled : (cs : List Command) (end : ScriptEnding) (ts : List Token) → Spelled cs end ts → SpellsCommandsAndEnding cs end ts
to_spelled cs Clean ts s =
    let none : s.rest ≡ [] = (none_left s.rest s.words NoCommand s.left).1 in
    subst (SpellsCommands cs) (sym (s.whole ∙ ap (λ (us : List Token). s.front ++ us) none ∙ append-nil s.front)) s.spelled
to_spelled cs Malformed ts s = (s.front, s.rest, s.spelled, begins_none s.rest s.left, s.whole)

onto_none : (cs : List Command) (end : ScriptEnding) → prepend_commands cs ([], end) ≡ (cs, end)
onto_none cs end = ap (λ (xs : List Command). (xs, end)) (append-nil cs)

to_read : (cs : List Command) (end : ScriptEnding) (ts : List Token) → AreWords ts → SpellsCommandsAndEnding cs end ts → commands_of NoCommand ts ≡ (cs, end)
to_read cs Clean ts w s =
    ap (commands_of NoCommand) (sym (append-nil ts)) ∙ reads_spelled cs ts [] s ∙ ap (prepend_commands cs) (commands_of_nil NoCommand) ∙ onto_none cs Clean
to_read cs Malformed ts w s =
    let v : AreWords s.1 = words_after s.0 s.1 (subst AreWords s.4 w) in
    ap (commands_of NoCommand) s.4 ∙ reads_spelled cs s.0 s.1 s.2 ∙ ap (prepend_commands cs) (broken_reads s.1 v s.3) ∙ onto_none cs Malformed

-- WITH A HEADER
written_is : (text : List ℕ) → plain_reading text ≡ commands_of NoCommand (without_lines (tokens text))
unfolding plain_reading
written_is text = refl

reading_is : (text : List ℕ) → reading text ≡ with_ask (is_some (dimacs_header text)) (plain_reading text)
unfolding reading
reading_is text = refl

abbrev headed : List Token → Bool
headed [] = false
headed (t ∷ ts) = is_some (header_of_token t)

headed_is : (ts : List (ℕ × Token)) → is_some (header_of_tokens ts) ≡ headed (without_lines ts)
headed_is [] = refl
headed_is (t ∷ ts) = refl

reading_of : (text : List ℕ) → reading text ≡ with_ask (headed (without_lines (tokens text))) (commands_of NoCommand (without_lines (tokens text)))
reading_of text = reading_is text ∙ ap (λ (b : Bool). with_ask b (plain_reading text)) (headed_is (tokens text)) ∙ ap (with_ask (headed (without_lines (tokens text)))) (written_is text)

no_header : (ts : List Token) → AreWords ts → headed ts ≡ false
no_header [] w = refl
no_header (Number negative value ∷ ts) w = refl
no_header (Letter b ∷ ts) w = refl
no_header (Header v c ∷ ts) w = absurd w.0
no_header (Wrong ∷ ts) w = refl

headless_read : (ts : List Token) (cs : List Command) (end : ScriptEnding) → AreWords ts → SpellsScript cs end ts → commands_of NoCommand ts ≡ (cs, end)
headless_read ts cs end w (inl s) = to_read cs end ts w s.1
headless_read ts cs end w (inr (v, c, rest, spelled, e, s, f)) = absurd (let h : AreWords (Header v c ∷ rest) = subst AreWords e w in h.0)

headless : (ts : List Token) (cs : List Command) (end : ScriptEnding) → AreWords ts → with_ask (headed ts) (commands_of NoCommand ts) ≡ (cs, end) ↔ SpellsScript cs end ts
headless ts cs end w =
    let none = no_header ts w in (
      λ e. inl (
        (λ v c rest f. (let h : AreWords (Header v c ∷ rest) = subst AreWords f w in h.0)),
        to_spelled cs end ts (all_spelled cs end ts w (sym (ap (λ (b : Bool). with_ask b (commands_of NoCommand ts)) none) ∙ e)),
      ),
      λ s. ap (λ (b : Bool). with_ask b (commands_of NoCommand ts)) none ∙ headless_read ts cs end w s,
    )

-- after a header
asked_clean : (w : List Command) (ask : Bool) → has_ask w ≡ ask → with_ask true (w, Clean) ≡ (with_final_ask w Clean, Clean)
asked_clean w true a = rw a refl
asked_clean w false a = rw a refl

asked_is : (w : List Command) (end : ScriptEnding) → with_ask true (w, end) ≡ (with_final_ask w end, end)
asked_is w Clean = asked_clean w (has_ask w) refl
asked_is w Malformed = refl

headed_read : (v c : ℕ) (ts : List Token) (cs : List Command) (end : ScriptEnding) → AreWords ts → SpellsScript cs end (Header v c ∷ ts) → with_ask true (commands_of NoCommand ts) ≡ (cs, end)
headed_read v c ts cs end w (inl s) = absurd (s.0 v c ts refl)
headed_read v c ts cs end w (inr (u, d, rest, spelled, e, s, f)) =
    let same : ts ≡ rest = ap (drop 1) e in
    let k : AreWords rest = subst AreWords same w in
    ap (λ (us : List Token). with_ask true (commands_of NoCommand us)) same ∙ ap (with_ask true) (to_read spelled end rest k s) ∙ asked_is spelled end ∙ ap (λ (ds : List Command). (ds, end)) (sym f)

headed_script : (v c : ℕ) (ts : List Token) (cs : List Command) (end : ScriptEnding) → AreWords ts → with_ask true (commands_of NoCommand (Header v c ∷ ts)) ≡ (cs, end) ↔ SpellsScript cs end (Header v c ∷ ts)
headed_script v c ts cs end w =
    let goes_on : commands_of NoCommand (Header v c ∷ ts) ≡ commands_of NoCommand ts = commands_of_cons NoCommand (Header v c) ts in
    let r = commands_of NoCommand ts in (
      λ e.
          let h : ◌≡◌ {A = Reading} (with_final_ask r.0 r.1, r.1) (cs, end) = sym (asked_is r.0 r.1) ∙ sym (ap (with_ask true) goes_on) ∙ e in
          let last : r.1 ≡ end = ap (λ (x : Reading). x.1) h in
          inr (
            v,
            c,
            ts,
            r.0,
            refl,
            subst (λ (d : ScriptEnding). SpellsCommandsAndEnding r.0 d ts) last (to_spelled r.0 r.1 ts (all_spelled r.0 r.1 ts w refl)),
            sym (ap (λ (x : Reading). x.0) h) ∙ ap (with_final_ask r.0) last,
          ),
      λ s. ap (with_ask true) goes_on ∙ headed_read v c ts cs end w s,
    )

script_if : (ts : List Token) (cs : List Command) (end : ScriptEnding) → AreScript ts → with_ask (headed ts) (commands_of NoCommand ts) ≡ (cs, end) ↔ SpellsScript cs end ts
script_if ts cs end (inl w) = headless ts cs end w
script_if ts cs end (inr (v, c, rest, w, e)) = rw e (headed_script v c rest cs end w)

pub read_if_spelled : ReadIfSpelled
read_if_spelled text cs end =
    let h = script_if (without_lines (tokens text)) cs end (text_is text) in
    (λ e. h.0 (sym (reading_of text) ∙ e), λ s. reading_of text ∙ h.1 s)

pub one_reading : OneReading
one_reading = record {
  some = λ text. ((reading text).0, (reading text).1, refl);
  one = λ text cs ds d e a b. let same : (cs, d) ≡ (ds, e) = sym a ∙ b in (ap (λ (r : Reading). r.0) same, ap (λ (r : Reading). r.1) same);
}
