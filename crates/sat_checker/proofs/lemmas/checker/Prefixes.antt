-- The clauses of a prefix of a formula's text are the same whatever follows.
use Rattle.std.proofs.Common.{◌≡◌, ℕ, ◌+◌, inl, inr, List, [], ◌∷◌, ◌++◌, Bool, true, false, Option, Some, None, refl, sym, ap, subst, ◌∙◌, append_assoc, arith}
use Rattle.std.specs.Prelude.{nat_eq, ◌||◌}
use Rattle.std.proofs.lemmas.List.{append-nil}
use Rattle.std.proofs.lemmas.Bool.Decides.{nat_tests}
use Rattle.sat_base.specs.text.Text.{is_blank, Token, Scan, scan}
use Rattle.sat_base.specs.text.Position.{HeaderStage, Begun, token_of_stage, stage_after, Position, Fresh, Leading, Comment, Between, Within, HeaderBetween, HeaderWithin, WrongHeader, Over, IsValidPosition, remaining_scan, unfinished_token, position_after_LF, lines_after, position_after_word, position_after_blank, token_ended_by_blank, prepend_tokens}
use Rattle.sat_base.specs.text.Tokenizing.{HasNoNumberOrLetter}
use Rattle.sat_base.specs.dimacs.Dimacs.{PartialClause, TokenEffect, Continues, EndsClause, Fails, Dimacs, token_effect, after_token_effect, clauses_of, dimacs, has_blank, up_to_last_blank}
use Rattle.sat_base.proofs.lemmas.text.Positions.{Solid-more, start, LF_left, fresh_leads, blank_left, leading_comment, leading_end, leading_header, leading_late_header, leading_word, comment_more, between_word, within_more, header_between_word, header_within_more, spoilt_more, over_more, end_left}
use Rattle.sat_base.proofs.lemmas.text.TextRuns.{QuietTokens, of_header}
use Rattle.sat_base.proofs.lemmas.dimacs.Collected.{clauses_of_cons, dimacs_is, quiet_clauses}
use Rattle.sat_checker.specs.DimacsView.{AreFirstClauses, AreClausesRead}
use Rattle.sat_checker.proofs.lemmas.checker.Texts.{no_clauses}

-- POSITIONS IN A TEXT

-- the tokens that one byte completes, and the position after it
record Stepped (spot : Position) (n b : ℕ) : Type 0 where
  gives : List (ℕ × Token)
  next : Position
  lines : ℕ
  good : IsValidPosition next
  leaves : (rest : List ℕ) → remaining_scan spot n (b ∷ rest) ≡ prepend_tokens gives (remaining_scan next lines rest)

LF_good : (spot : Position) → IsValidPosition (position_after_LF spot)
LF_good (Fresh may) = tt
LF_good e = tt

LF_quiet : (spot : Position) (n : ℕ) → unfinished_token (position_after_LF spot) n ≡ []
LF_quiet (Fresh may) n = refl
LF_quiet e n = refl

header_good : (o : Option HeaderStage) → IsValidPosition (position_after_word o)
header_good None = tt
header_good (Some stage) = tt

header_quiet : (o : Option HeaderStage) (n : ℕ) → QuietTokens (unfinished_token (position_after_word o) n)
header_quiet None n = inl refl
header_quiet (Some stage) n = inr (n + 1, token_of_stage stage, of_header stage, refl)

blank_good : (spot : Position) → IsValidPosition (position_after_blank spot)
blank_good (HeaderWithin stage x w) = header_good (stage_after stage (x ∷ w))
blank_good e = tt

blank_quiet : (spot : Position) (n : ℕ) → QuietTokens (unfinished_token (position_after_blank spot) n)
blank_quiet (HeaderBetween stage) n = inr (n + 1, token_of_stage stage, of_header stage, refl)
blank_quiet (HeaderWithin stage x w) n = header_quiet (stage_after stage (x ∷ w)) n
blank_quiet e n = inl refl

-- a blank ends the current word
record Blanked (spot : Position) (n b : ℕ) : Type 0 where
  step : Stepped spot n b
  quiet : QuietTokens (unfinished_token step.next step.lines)

by_blank : (spot : Position) (n b : ℕ) (is_LF : Bool) → nat_eq b 10 ≡ is_LF → is_blank b ≡ true → IsValidPosition spot → Blanked spot n b
by_blank spot n b true e f g =
    let ten : b ≡ 10 = grind (arith, nat_tests) in
    record {
      step = record {
        gives = unfinished_token spot n;
        next = position_after_LF spot;
        lines = lines_after spot n;
        good = LF_good spot;
        leaves = λ rest. ap (λ (k : ℕ). remaining_scan spot n (k ∷ rest)) ten ∙ LF_left spot n rest g;
      };
      quiet = inl (LF_quiet spot (lines_after spot n));
    }
by_blank spot n b false e f g = record {
  step = record {
    gives = token_ended_by_blank spot n;
    next = position_after_blank spot;
    lines = n;
    good = blank_good spot;
    leaves = λ rest. blank_left spot n b rest g e f;
  };
  quiet = blank_quiet spot n;
}

-- a byte that completes no token
leads : (spot next : Position) (n b : ℕ) → IsValidPosition next → ((rest : List ℕ) → remaining_scan spot n (b ∷ rest) ≡ remaining_scan next n rest) → Stepped spot n b
leads spot next n b good h = record { gives = []; next = next; lines = n; good = good; leaves = h }

same_byte : (b c : ℕ) → nat_eq b c ≡ true → b ≡ c
same_byte b c e = grind (arith, nat_tests)

at_header : (may : Bool) (n b : ℕ) → b ≡ 112 → Stepped (Leading may) n b
at_header true n b e = leads (Leading true) (HeaderWithin Begun 112 []) n b (refl, tt) (λ rest. ap (λ (k : ℕ). remaining_scan (Leading true) n (k ∷ rest)) e ∙ leading_header n rest)
at_header false n b e = leads (Leading false) WrongHeader n b tt (λ rest. ap (λ (k : ℕ). remaining_scan (Leading false) n (k ∷ rest)) e ∙ leading_late_header n rest)

at_line : (may : Bool) (n b : ℕ) (percent comment header : Bool) → nat_eq b 37 ≡ percent → nat_eq b 99 ≡ comment → nat_eq b 112 ≡ header → nat_eq b 10 ≡ false → is_blank b ≡ false → Stepped (Leading may) n b
at_line may n b true comment header p c h e f =
    leads (Leading may) Over n b tt (λ rest. ap (λ (k : ℕ). remaining_scan (Leading may) n (k ∷ rest)) (same_byte b 37 p) ∙ leading_end may n rest)
at_line may n b false true header p c h e f =
    leads (Leading may) (Comment may) n b tt (λ rest. ap (λ (k : ℕ). remaining_scan (Leading may) n (k ∷ rest)) (same_byte b 99 c) ∙ leading_comment may n rest)
at_line may n b false false true p c h e f = at_header may n b (same_byte b 112 h)
at_line may n b false false false p c h e f = leads (Leading may) (Within b []) n b (f, tt) (λ rest. leading_word may n b rest e f p c h)

freshly : (may : Bool) (n b : ℕ) → nat_eq b 10 ≡ false → Stepped (Leading may) n b → Stepped (Fresh may) n b
freshly may n b e s = record { gives = s.gives; next = s.next; lines = s.lines; good = s.good; leaves = λ rest. fresh_leads may n b rest e ∙ s.leaves rest }

by_byte : (spot : Position) (n b : ℕ) → nat_eq b 10 ≡ false → is_blank b ≡ false → IsValidPosition spot → Stepped spot n b
by_byte (Fresh may) n b e f g = freshly may n b e (at_line may n b (nat_eq b 37) (nat_eq b 99) (nat_eq b 112) refl refl refl e f)
by_byte (Leading may) n b e f g = at_line may n b (nat_eq b 37) (nat_eq b 99) (nat_eq b 112) refl refl refl e f
by_byte (Comment may) n b e f g = leads (Comment may) (Comment may) n b tt (λ rest. comment_more may n b rest e)
by_byte Between n b e f g = leads Between (Within b []) n b (f, tt) (λ rest. between_word n b rest e)
by_byte (Within x w) n b e f g = leads (Within x w) (Within x (w ++ b ∷ [])) n b (Solid-more (x ∷ w) b g f) (λ rest. within_more x w n b rest e)
by_byte (HeaderBetween stage) n b e f g = leads (HeaderBetween stage) (HeaderWithin stage b []) n b (f, tt) (λ rest. header_between_word stage n b rest e)
by_byte (HeaderWithin stage x w) n b e f g =
    leads (HeaderWithin stage x w) (HeaderWithin stage x (w ++ b ∷ [])) n b (Solid-more (x ∷ w) b g f) (λ rest. header_within_more stage x w n b rest e)
by_byte WrongHeader n b e f g = leads WrongHeader WrongHeader n b tt (λ rest. spoilt_more n b rest e)
by_byte Over n b e f g = leads Over Over n b tt (λ rest. over_more n b rest)

no_LF : (b : ℕ) (is_LF : Bool) → nat_eq b 10 ≡ is_LF → is_blank b ≡ false → nat_eq b 10 ≡ false
no_LF b true e f = grind (arith, nat_tests)
no_LF b false e f = e

step_if : (spot : Position) (n b : ℕ) (blank : Bool) → is_blank b ≡ blank → IsValidPosition spot → Stepped spot n b
step_if spot n b true e g = (by_blank spot n b (nat_eq b 10) refl e g).step
step_if spot n b false e g = by_byte spot n b (no_LF b (nat_eq b 10) refl e) e g

-- the tokens that these bytes complete, and the position after them
record Reached (spot : Position) (n : ℕ) (text : List ℕ) : Type 0 where
  gives : List (ℕ × Token)
  next : Position
  lines : ℕ
  good : IsValidPosition next
  leaves : (rest : List ℕ) → remaining_scan spot n (text ++ rest) ≡ prepend_tokens gives (remaining_scan next lines rest)

onto_both : (xs ys : List (ℕ × Token)) (s : Scan) → prepend_tokens xs (prepend_tokens ys s) ≡ prepend_tokens (xs ++ ys) s
onto_both xs ys s = ap (λ (ts : List (ℕ × Token)). record { tokens = ts; last = s.last }) (sym (append_assoc xs ys s.tokens))

reach : (text : List ℕ) (spot : Position) (n : ℕ) → IsValidPosition spot → Reached spot n text
reach [] spot n g = record { gives = []; next = spot; lines = n; good = g; leaves = λ rest. refl }
reach (b ∷ bs) spot n g =
    let s = step_if spot n b (is_blank b) refl g in
    let r = reach bs s.next s.lines s.good in
    record {
      gives = s.gives ++ r.gives;
      next = r.next;
      lines = r.lines;
      good = r.good;
      leaves = λ rest. s.leaves (bs ++ rest) ∙ ap (prepend_tokens s.gives) (r.leaves rest) ∙ onto_both s.gives r.gives (remaining_scan r.next r.lines rest);
    }

-- all words of this text have ended
record Rests (text : List ℕ) : Type 0 where
  gives : List (ℕ × Token)
  left_of : List ℕ → Scan
  scans : (rest : List ℕ) → scan (text ++ rest) ≡ prepend_tokens gives (left_of rest)
  quiet : HasNoNumberOrLetter (left_of [])

quiet_at : (spot : Position) (n : ℕ) → IsValidPosition spot → QuietTokens (unfinished_token spot n) → HasNoNumberOrLetter (remaining_scan spot n [])
quiet_at spot n g q = subst QuietTokens (sym (ap (λ (s : Scan). s.tokens) (end_left spot n g))) q

rests : (front : List ℕ) (b : ℕ) → is_blank b ≡ true → Rests (front ++ b ∷ [])
rests front b e =
    let r = reach front (Fresh true) 0 tt in
    let s = by_blank r.next r.lines b (nat_eq b 10) refl e r.good in
    record {
      gives = r.gives ++ s.step.gives;
      left_of = remaining_scan s.step.next s.step.lines;
      scans = λ rest. ap scan (append_assoc front (b ∷ []) rest) ∙ start (front ++ b ∷ rest) ∙ r.leaves (b ∷ rest) ∙ ap (prepend_tokens r.gives) (s.step.leaves rest)
          ∙ onto_both r.gives s.step.gives (remaining_scan s.step.next s.step.lines rest);
      quiet = quiet_at s.step.next s.step.lines s.step.good s.quiet;
    }

-- CLAUSES

-- the clauses of these tokens are the same whatever follows
record Keeps (hand : PartialClause) (before : List (ℕ × Token)) : Type 0 where
  clauses : List (List ℕ)
  more : (last : ℕ) (ts : List (ℕ × Token)) → (remaining_scan : List (List ℕ)) × ((clauses_of hand last (before ++ ts)).clauses ≡ clauses ++ remaining_scan)
  quiet : (s : Scan) → HasNoNumberOrLetter s → (clauses_of hand s.last (before ++ s.tokens)).clauses ≡ clauses

turned : (hand : PartialClause) (t : ℕ × Token) (ts : List (ℕ × Token)) (k : TokenEffect) → token_effect hand t.0 t.1 ≡ k → (last : ℕ) → (clauses_of hand last (t ∷ ts)).clauses ≡ (after_token_effect k (λ h. clauses_of h last ts)).clauses
turned hand t ts k e last = ap (λ (d : Dimacs). d.clauses) (clauses_of_cons hand last t ts ∙ ap (λ (j : TokenEffect). after_token_effect j (λ h. clauses_of h last ts)) e)

keeps_turn : (hand : PartialClause) (t : ℕ × Token) (ts : List (ℕ × Token)) → ((h : PartialClause) → Keeps h ts) → (k : TokenEffect) → token_effect hand t.0 t.1 ≡ k → Keeps hand (t ∷ ts)
keeps_turn hand t ts later (Continues h) e =
    let k = later h in
    record {
      clauses = k.clauses;
      more = λ last us. let m = k.more last us in (m.0, turned hand t (ts ++ us) (Continues h) e last ∙ m.1);
      quiet = λ s q. turned hand t (ts ++ s.tokens) (Continues h) e s.last ∙ k.quiet s q;
    }
keeps_turn hand t ts later (EndsClause c) e =
    let k = later None in
    record {
      clauses = c ∷ k.clauses;
      more = λ last us. let m = k.more last us in (m.0, turned hand t (ts ++ us) (EndsClause c) e last ∙ ap (λ (cs : List (List ℕ)). c ∷ cs) m.1);
      quiet = λ s q. turned hand t (ts ++ s.tokens) (EndsClause c) e s.last ∙ ap (λ (cs : List (List ℕ)). c ∷ cs) (k.quiet s q);
    }
keeps_turn hand t ts later (Fails ending) e = record {
  clauses = [];
  more = λ last us. ([], turned hand t (ts ++ us) (Fails ending) e last);
  quiet = λ s q. turned hand t (ts ++ s.tokens) (Fails ending) e s.last;
}

keeps : (before : List (ℕ × Token)) (hand : PartialClause) → Keeps hand before
keeps [] hand = record {
  clauses = [];
  more = λ last ts. ((clauses_of hand last ts).clauses, refl);
  quiet = λ s q. quiet_clauses hand s q;
}
keeps (t ∷ ts) hand = keeps_turn hand t ts (λ h. keeps ts h) (token_effect hand t.0 t.1) refl

after_rest : (text rest : List ℕ) → Rests text → AreFirstClauses (dimacs text).clauses (text ++ rest)
after_rest text rest r =
    let k = keeps r.gives None in
    let m = k.more (r.left_of rest).last (r.left_of rest).tokens in
    let all : (dimacs (text ++ rest)).clauses ≡ k.clauses ++ m.0 = ap (λ (d : Dimacs). d.clauses) (dimacs_is (text ++ rest) r.gives (r.left_of rest) (r.scans rest)) ∙ m.1 in
    let here : (dimacs text).clauses ≡ k.clauses =
    ap (λ (d : Dimacs). d.clauses) (dimacs_is text r.gives (r.left_of []) (ap scan (sym (append-nil text)) ∙ r.scans [])) ∙ k.quiet (r.left_of []) r.quiet in
    (m.0, all ∙ ap (λ (cs : List (List ℕ)). cs ++ m.0) (sym here))

-- THE TEXT UP TO ITS LAST BLANK

settled_none : (text : List ℕ) → has_blank text ≡ false → up_to_last_blank text ≡ []
settled_none [] e = refl
settled_none (b ∷ bs) e = rw e refl

-- the text up to its last blank ends with a blank
record Cut (text : List ℕ) : Type 0 where
  front : List ℕ
  byte : ℕ
  blank : is_blank byte ≡ true
  cut : up_to_last_blank text ≡ front ++ byte ∷ []

or_left : (a b : Bool) → (a || b) ≡ true → b ≡ false → a ≡ true
or_left true b e f = refl
or_left false true e f = absurd cc
or_left false false e f = absurd cc

cut_if : (b : ℕ) (bs : List ℕ) (later : Bool) → has_blank bs ≡ later → has_blank (b ∷ bs) ≡ true → (has_blank bs ≡ true → Cut bs) → Cut (b ∷ bs)
cut_if b bs true f e c =
    let h = c f in
    record { front = b ∷ h.front; byte = h.byte; blank = h.blank; cut = rw e (ap (λ (ys : List ℕ). b ∷ ys) h.cut) }
cut_if b bs false f e c = record { front = []; byte = b; blank = or_left (is_blank b) (has_blank bs) e f; cut = rw e (ap (λ (ys : List ℕ). b ∷ ys) (settled_none bs f)) }

cuts : (text : List ℕ) → has_blank text ≡ true → Cut text
cuts [] e = absurd cc
cuts (b ∷ bs) e = cut_if b bs (has_blank bs) refl e (λ f. cuts bs f)

-- the text up to the last blank is a prefix of the text
unsettled_if : (b : ℕ) (bs : List ℕ) (blank : Bool) → has_blank (b ∷ bs) ≡ blank → (more : List ℕ) × (bs ≡ up_to_last_blank bs ++ more) → (more : List ℕ) × (b ∷ bs ≡ up_to_last_blank (b ∷ bs) ++ more)
unsettled_if b bs true e h = (h.0, rw e (ap (λ (ys : List ℕ). b ∷ ys) h.1))
unsettled_if b bs false e h = (b ∷ bs, rw e refl)

unsettled : (text : List ℕ) → (more : List ℕ) × (text ≡ up_to_last_blank text ++ more)
unsettled [] = ([], refl)
unsettled (b ∷ bs) = unsettled_if b bs (has_blank (b ∷ bs)) refl (unsettled bs)

first_if : (text rest : List ℕ) (blank : Bool) → has_blank text ≡ blank → AreFirstClauses (dimacs (up_to_last_blank text)).clauses (up_to_last_blank text ++ rest)
first_if text rest true e =
    let c = cuts text e in
    subst (λ (s : List ℕ). AreFirstClauses (dimacs s).clauses (s ++ rest)) (sym c.cut) (after_rest (c.front ++ c.byte ∷ []) rest (rests c.front c.byte c.blank))
first_if text rest false e = subst (λ (s : List ℕ). AreFirstClauses (dimacs s).clauses (s ++ rest)) (sym (settled_none text e)) ((dimacs rest).clauses, ap (λ (cs : List (List ℕ)). cs ++ (dimacs rest).clauses) (sym no_clauses))

-- the clauses of the words that have ended stay the first, whatever follows
pub settled_first : (text rest : List ℕ) → AreFirstClauses (dimacs (up_to_last_blank text)).clauses (text ++ rest)
settled_first text rest =
    let u = unsettled text in
    subst (λ (s : List ℕ). AreFirstClauses (dimacs (up_to_last_blank text)).clauses s) (sym (ap (λ (s : List ℕ). s ++ rest) u.1 ∙ append_assoc (up_to_last_blank text) u.0 rest)) (first_if text (u.0 ++ rest) (has_blank text) refl)

pub read_first : (text : List ℕ) (clauses : List (List ℕ)) → AreClausesRead text clauses → AreFirstClauses clauses text
read_first text clauses (inl f) = subst (λ (s : List ℕ). AreFirstClauses clauses s) (sym f.2) (subst (λ (cs : List (List ℕ)). AreFirstClauses cs (f.0 ++ f.1)) (sym f.3) (settled_first f.0 f.1))
read_first text clauses (inr e) = ([], sym e ∙ sym (append-nil clauses))
