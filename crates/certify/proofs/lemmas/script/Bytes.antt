-- The effect of bytes on a reader of scripts.
use Rattle.std.proofs.Common.{◌≡◌, ℕ, ◌+◌, ◌-◌, ◌≤◌, List, [], ◌∷◌, ◌++◌, Bool, true, false, length, take, drop, Some, None, is_some, refl, sym, ap, subst, ◌∙◌, append_assoc, arith, inl, inr}
use Rattle.std.specs.Prelude.{◌&&◌}
use Rattle.std.proofs.Math.Seq.{take-add}
use Rattle.std.proofs.lemmas.List.{length-take, take-take}
use Rattle.sat_base.specs.declared.text.Token.{Token as CodeToken}
use Rattle.sat_base.specs.declared.text.Tokenizer.{Tokenizer}
use Rattle.sat_base.specs.text.Text.{Token, Number, Letter, Header, Wrong, Scan, scan, tokens, header_of_tokens, header_of_token, dimacs_header}
use Rattle.sat_base.specs.text.Tokenizing.{ReceivesPrefix, HasRemainingScan, GivesTokenAtEnd, capped_token}
use Rattle.sat_base.specs.text.WrongWords.{HasNoValidContinuation}
use Rattle.sat_base.specs.text.Chunks.{LeadsByBytes, IgnoresRest}
use Rattle.sat_base.proofs.lemmas.text.HeaderFirst.{IsWord, AreWords, AreScript, text_is}
use Rattle.sat_base.specs.script.Language.{Reading, without_lines, PartialCommand, NoCommand, commands_of, with_ask, plain_reading, reading}
use Rattle.certify.specs.script.Commands.{HoldsPartialCommand, has_header, remaining_reading, ReceivesToken, ReaderMeans, ReaderMeansIf, ReceivesBytes, EndsCommands, EndsScript}
use Rattle.certify.specs.declared.script.Reached.{Reached}
use Rattle.certify.specs.declared.script.Reached.TheVariants as reached
use Rattle.certify.specs.declared.script.ScriptEnd.{ScriptEnd}
use Rattle.certify.specs.declared.script.commands.Commands.{Commands}
use Rattle.certify.specs.declared.script.reader.ScriptReader.{ScriptReader}
use Rattle.certify.proofs.lemmas.script.Tokens.{fails}

abbrev pub reader : Tokenizer → Commands → ScriptReader
reader tokenizer commands = record { tokenizer = tokenizer; commands = commands }

-- bytes that complete no token leave the reader at its place
pub bytes_go : (old : ScriptReader) (bytes : List ℕ) (next : Tokenizer) → ReceivesPrefix old.tokenizer bytes None next → (asks : Bool) → LeadsByBytes (ReaderMeansIf asks) old bytes (reader next old.commands)
bytes_go old bytes next t asks before m =
    let h = t m.scan_of m.valid in (
      λ rest. remaining_reading asks old.commands m.hand (without_lines (h.0 rest).tokens),
      record { hand = m.hand; holds = m.holds; scan_of = h.0; valid = h.1; reads = λ rest. refl },
      λ rest. m.reads (bytes ++ rest) ∙ ap (λ (s : Scan). remaining_reading asks old.commands m.hand (without_lines s.tokens)) (h.2 rest),
    )

-- bytes that complete a token have its effect
pub bytes_take : (r : Reached) (old : ScriptReader) (bytes : List ℕ) (t : CodeToken) (next : Tokenizer) (new : Commands) → ReceivesPrefix old.tokenizer bytes (Some t) next
    → ((given : Token) → t ≡ capped_token given → ReceivesToken r old.commands given new) → ReceivesBytes r old bytes (reader next new)
bytes_take reached.More old bytes t next new k r = λ asks before m.
    let h = k m.scan_of m.valid in
    let given = h.2.0 in
    let n = r given h.2.1 m.hand m.holds in (
      λ rest. remaining_reading asks new n.0 (without_lines (h.0 rest).tokens),
      record { hand = n.0; holds = n.1; scan_of = h.0; valid = h.1; reads = λ rest. refl },
      λ rest. m.reads (bytes ++ rest) ∙ ap (λ (s : Scan). remaining_reading asks old.commands m.hand (without_lines s.tokens)) (h.2.2 rest) ∙ n.2 asks (without_lines (h.0 rest).tokens),
    )
bytes_take reached.Command old bytes t next new k r = λ asks before m.
    let h = k m.scan_of m.valid in
    let given = h.2.0 in
    let n = r given h.2.1 m.hand m.holds in
    record {
      command = n.0;
      whole = record { whole = n.1 };
      after = λ rest. remaining_reading asks new NoCommand (without_lines (h.0 rest).tokens);
      valid = record { hand = NoCommand; holds = n.2; scan_of = h.0; valid = h.1; reads = λ rest. refl };
      reads = λ rest. m.reads (bytes ++ rest) ∙ ap (λ (s : Scan). remaining_reading asks old.commands m.hand (without_lines s.tokens)) (h.2.2 rest) ∙ n.3 asks (without_lines (h.0 rest).tokens);
    }
bytes_take reached.Malformed old bytes t next new k r = λ asks before m rest.
    let h = k m.scan_of m.valid in
    m.reads (bytes ++ rest) ∙ ap (λ (s : Scan). remaining_reading asks old.commands m.hand (without_lines s.tokens)) (h.2.2 rest) ∙ r h.2.0 h.2.1 m.hand m.holds asks (without_lines (h.0 rest).tokens)

-- a text is malformed if no valid word can continue after the bytes
pub bytes_wrong : (old : ScriptReader) (bytes : List ℕ) (next : Tokenizer) → ReceivesPrefix old.tokenizer bytes None next → ((after : List ℕ → Scan) → HasRemainingScan next after → HasNoValidContinuation after)
    → ReceivesBytes reached.Malformed old bytes (reader next old.commands)
bytes_wrong old bytes next t w = λ asks before m rest.
    let h = t m.scan_of m.valid in
    let wrong = w h.0 h.1 rest in
    m.reads (bytes ++ rest) ∙ ap (λ (s : Scan). remaining_reading asks old.commands m.hand (without_lines s.tokens)) (h.2 rest)
    ∙ ap (λ (ts : List (ℕ × Token)). remaining_reading asks old.commands m.hand (without_lines ts)) wrong.1 ∙ fails old.commands m.hand Wrong refl asks (without_lines wrong.0)

-- the effect of some bytes, and then of others
pub followed : (r : Reached) (a b c : ScriptReader) (xs ys : List ℕ) → ((asks : Bool) → LeadsByBytes (ReaderMeansIf asks) a xs b) → ReceivesBytes r b ys c → ReceivesBytes r a (xs ++ ys) c
followed reached.More a b c xs ys f t = λ asks before m.
    let h = f asks before m in
    let k = t asks h.0 h.1 in
    (k.0, k.1, λ rest. ap before (append_assoc xs ys rest) ∙ h.2 (ys ++ rest) ∙ k.2 rest)
followed reached.Command a b c xs ys f t = λ asks before m.
    let h = f asks before m in
    let k = t asks h.0 h.1 in
    record {
      command = k.command;
      whole = k.whole;
      after = k.after;
      valid = k.valid;
      reads = λ rest. ap before (append_assoc xs ys rest) ∙ h.2 (ys ++ rest) ∙ k.reads rest;
    }
followed reached.Malformed a b c xs ys f t = λ asks before m rest.
    let h = f asks before m in
    ap before (append_assoc xs ys rest) ∙ h.2 (ys ++ rest) ∙ t asks h.0 h.1 rest

pub goes_nowhere : (a : ScriptReader) (asks : Bool) → LeadsByBytes (ReaderMeansIf asks) a [] a
goes_nowhere a asks before m = (before, m, λ rest. refl)

pub no_more : (xs : List ℕ) (n k : ℕ) → n ≤ length xs → k ≤ length (take (length xs - n) (drop n xs)) → n + k ≤ length xs
no_more xs n k h i = let l = length-take (length xs - n) (drop n xs) in omega arith

-- a prefix is a shorter prefix and some of the bytes after it
pub front_and : (n k : ℕ) (xs : List ℕ) → n ≤ length xs → k ≤ length (take (length xs - n) (drop n xs)) → take (n + k) xs ≡ take n xs ++ take k (take (length xs - n) (drop n xs))
front_and n k xs h i = take-add n k xs ∙ ap (λ (ys : List ℕ). take n xs ++ ys) (sym (take-take k (length xs - n) (drop n xs) (let l = length-take (length xs - n) (drop n xs) in omega arith)))

-- a prefix of the bytes and what follows it have the effect of both
pub followed_front : (r : Reached) (a b c : ScriptReader) (xs : List ℕ) (n k : ℕ) → n ≤ length xs → k ≤ length (take (length xs - n) (drop n xs)) → ((asks : Bool) → LeadsByBytes (ReaderMeansIf asks) a (take n xs) b)
    → ReceivesBytes r b (take k (take (length xs - n) (drop n xs))) c → ReceivesBytes r a (take (n + k) xs) c
followed_front r a b c xs n k h i f t =
    subst (λ (bs : List ℕ). ReceivesBytes r a bs c) (sym (front_and n k xs h i)) (followed r a b c (take n xs) (take k (take (length xs - n) (drop n xs))) f t)

-- THE END
pub ends_none : (asks : Bool) (old : ScriptReader) (before : List ℕ → Reading) (r : Reading) → ((scan_of : List ℕ → Scan) → HasRemainingScan old.tokenizer scan_of → GivesTokenAtEnd None (scan_of [])) → ReaderMeansIf asks old before
    → ((hand : PartialCommand) → HoldsPartialCommand old.commands.draft hand → r ≡ remaining_reading asks old.commands hand []) → before [] ≡ r
ends_none asks old before r k m e = m.reads [] ∙ ap (λ (ts : List (ℕ × Token)). remaining_reading asks old.commands m.hand (without_lines ts)) (k m.scan_of m.valid) ∙ sym (e m.hand m.holds)

-- the rest of the text is ignored, and no token is pending
pub ends_over : (asks : Bool) (old : ScriptReader) (before : List ℕ → Reading) (r : Reading) → ((scan_of : List ℕ → Scan) → HasRemainingScan old.tokenizer scan_of → IgnoresRest scan_of)
    → ((scan_of : List ℕ → Scan) → HasRemainingScan old.tokenizer scan_of → (scan_of []).tokens ≡ []) → ReaderMeansIf asks old before
    → ((hand : PartialCommand) → HoldsPartialCommand old.commands.draft hand → r ≡ remaining_reading asks old.commands hand []) → (rest : List ℕ) → before rest ≡ r
ends_over asks old before r over none m e rest =
    m.reads rest ∙ ap (λ (s : Scan). remaining_reading asks old.commands m.hand (without_lines s.tokens)) (over m.scan_of m.valid rest)
    ∙ ap (λ (ts : List (ℕ × Token)). remaining_reading asks old.commands m.hand (without_lines ts)) (none m.scan_of m.valid) ∙ sym (e m.hand m.holds)

lasts : (asks completes : Bool) (e : ScriptEnd) (new : ScriptReader) (r : Reading) → EndsCommands asks completes e new.commands r → EndsScript asks completes e new r
lasts asks true e new r h = (h.0, record { whole = h.1 }, h.2)
lasts asks false e new r h = h

pub ends_some : (asks : Bool) (old new : ScriptReader) (t : CodeToken) (completes : Bool) (e : ScriptEnd) (before : List ℕ → Reading) → ((scan_of : List ℕ → Scan) → HasRemainingScan old.tokenizer scan_of → GivesTokenAtEnd (Some t) (scan_of [])) → ReaderMeansIf asks old before
    → ((given : Token) → t ≡ capped_token given → (hand : PartialCommand) → HoldsPartialCommand old.commands.draft hand → EndsCommands asks completes e new.commands (remaining_reading asks old.commands hand (given ∷ [])))
    → EndsScript asks completes e new (before [])
ends_some asks old new t completes e before k m r =
    let h = k m.scan_of m.valid in
    let same : before [] ≡ remaining_reading asks old.commands m.hand (h.0 ∷ []) = m.reads [] ∙ ap (λ (ts : List (ℕ × Token)). remaining_reading asks old.commands m.hand (without_lines ts)) h.2 in
    subst (λ (x : Reading). EndsScript asks completes e new x) (sym same) (lasts asks completes e new (remaining_reading asks old.commands m.hand (h.0 ∷ [])) (r h.0 h.1 m.hand m.holds))

-- COMPLETE TEXTS
words_none : (ts : List Token) → AreWords ts → has_header ts ≡ false
words_none [] w = refl
words_none (Number negative value ∷ ts) w = words_none ts w.1
words_none (Letter b ∷ ts) w = words_none ts w.1
words_none (Header v c ∷ ts) w = absurd w.0
words_none (Wrong ∷ ts) w = words_none ts w.1

word_none : (t : Token) → IsWord t → is_some (header_of_token t) ≡ false
word_none (Header v c) w = absurd w
word_none e w = refl

first_none : (ts : List (ℕ × Token)) → AreWords (without_lines ts) → is_some (header_of_tokens ts) ≡ false
first_none [] w = refl
first_none (t ∷ ts) w = word_none t.1 w.0

abbrev first_of : List Token → Token
first_of [] = Wrong
first_of (t ∷ ts) = t

first_header : (ts : List (ℕ × Token)) (v c : ℕ) (rest : List Token) → without_lines ts ≡ Header v c ∷ rest → is_some (header_of_tokens ts) ≡ true
first_header [] v c rest e = absurd (cc)
first_header (t ∷ ts) v c rest e = let h : t.1 ≡ Header v c = ap first_of e in rw h refl

-- a script contains a header exactly if it begins with one
headed_by : (ts : List (ℕ × Token)) → AreScript (without_lines ts) → has_header (without_lines ts) ≡ is_some (header_of_tokens ts)
headed_by ts (inl w) = words_none (without_lines ts) w ∙ sym (first_none ts w)
headed_by ts (inr (v, c, rest, w, e)) = ap has_header e ∙ sym (first_header ts v c rest e)

reading_is : (text : List ℕ) → reading text ≡ with_ask (is_some (dimacs_header text)) (commands_of NoCommand (without_lines (tokens text)))
unfolding reading plain_reading
reading_is text = refl

and_true : (b : Bool) → (b && true) ≡ b
and_true true = refl
and_true false = refl

pub read_from_start : (c : Commands) (text : List ℕ) → c.headed ≡ false → c.asked ≡ false → reading text ≡ remaining_reading true c NoCommand (without_lines (scan text).tokens)
read_from_start c text h a =
    reading_is text
    ∙ ap (λ (b : Bool). with_ask b (commands_of NoCommand (without_lines (tokens text)))) (sym (headed_by (tokens text) (text_is text)) ∙ sym (and_true (has_header (without_lines (tokens text)))))
    ∙ sym (rw (h, a) refl)

pub means_first : (tokenizer : Tokenizer) (commands : Commands) → HasRemainingScan tokenizer scan → HoldsPartialCommand commands.draft NoCommand → commands.headed ≡ false → commands.asked ≡ false → ReaderMeans (reader tokenizer commands) reading
means_first tokenizer commands s n h a = record { hand = NoCommand; holds = n; scan_of = scan; valid = s; reads = λ text. read_from_start commands text h a }

written_is : (text : List ℕ) → plain_reading text ≡ commands_of NoCommand (without_lines (tokens text))
unfolding plain_reading
written_is text = refl

pub counts_first : (tokenizer : Tokenizer) (commands : Commands) → HasRemainingScan tokenizer scan → HoldsPartialCommand commands.draft NoCommand → ReaderMeansIf false (reader tokenizer commands) plain_reading
counts_first tokenizer commands s n = record { hand = NoCommand; holds = n; scan_of = scan; valid = s; reads = λ text. written_is text }
