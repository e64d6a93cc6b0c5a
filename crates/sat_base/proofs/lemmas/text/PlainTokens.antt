-- Only the end of a line completes a header.
use Rattle.std.proofs.Common.{◌≡◌, ℕ, ◌+◌, List, [], ◌∷◌, ◌++◌, Bool, true, false, Option, Some, None, refl, sym, ap, subst, inl, inr, ◌∙◌, arith}
use Rattle.std.proofs.lemmas.Bool.Decides.{nat_tests}
use Rattle.std.specs.Prelude.{nat_eq}
use Rattle.sat_base.specs.declared.text.Tokenizer.{Tokenizer}
use Rattle.sat_base.specs.text.Text.{is_blank, digits, Token, Header, Wrong, token, Scan, header_of_token}
use Rattle.sat_base.specs.text.Position.{HeaderStage, Begun, stage_after, token_of_stage, Position, Fresh, Leading, Comment, Between, Within, HeaderBetween, HeaderWithin, WrongHeader, Over, IsValidPosition, remaining_scan, unfinished_token, wrong_word_token, position_after_word, token_ended_by_blank, position_after_blank, position_after_LF, lines_after, prepend_tokens}
use Rattle.sat_base.specs.text.Tokenizing.{BeginsWrongHeaderWord, HasRemainingScan, IsHeaderOrWrong, HasNoNumberOrLetter}
use Rattle.sat_base.proofs.lemmas.text.HeaderFirst.{IsWord, word_token}
use Rattle.sat_base.proofs.lemmas.text.Positions.{LF_left, blank_left, end_left, header_between_word, header_spoilt}
use Rattle.sat_base.proofs.lemmas.text.Places.{IsSpot_of}
use Rattle.sat_base.proofs.lemmas.text.TextRuns.{of_header, QuietTokens}

pub no_header : (t : Token) → IsWord t → header_of_token t ≡ None
no_header (Header v c) h = absurd h
no_header e h = refl

abbrev token_first : List (ℕ × Token) → Token → Token
token_first [] t = t
token_first (x ∷ xs) t = x.1

pub first_token : (l m : ℕ) (t u : Token) (ts us : List (ℕ × Token)) → ◌≡◌ {A = List (ℕ × Token)} ((l, t) ∷ ts) ((m, u) ∷ us) → t ≡ u
first_token l m t u ts us e = ap (λ (vs : List (ℕ × Token)). token_first vs t) e

cons_not_nil : (x : ℕ × Token) (xs : List (ℕ × Token)) (A : Type 0) → ◌≡◌ {A = List (ℕ × Token)} [] (x ∷ xs) → A
cons_not_nil x xs A e = absurd (let f = e in cc)

-- no word of a header line begins with `x`
x_spoils : (s : HeaderStage) → BeginsWrongHeaderWord s (120 ∷ [])
unfolding digits
x_spoils Begun more = refl
x_spoils e more = refl

spoilt_next : (s : HeaderStage) (n : ℕ) → (remaining_scan (HeaderBetween s) n (120 ∷ [])).tokens ≡ (n + 1, Wrong) ∷ []
spoilt_next s n =
    ap (λ (k : Scan). k.tokens) (header_between_word s n 120 [] refl ∙ header_spoilt s 120 [] n [] (refl, tt) (x_spoils s) ∙ end_left WrongHeader n tt)

-- `GivesThen spot n l t after` holds if a blank ends the token `t`, whatever follows.
abbrev GivesThen : Position → ℕ → ℕ → Token → (List ℕ → Scan) → Type 0
GivesThen spot n l t after = (rest : List ℕ) → token_ended_by_blank spot n ++ (remaining_scan (position_after_blank spot) n rest).tokens ≡ (l, t) ∷ (after rest).tokens

none_left : (spot : Position) (n l : ℕ) (t : Token) (after : List ℕ → Scan) → IsValidPosition spot → unfinished_token spot n ≡ [] → (remaining_scan spot n []).tokens ≡ (l, t) ∷ (after []).tokens → header_of_token t ≡ None
none_left spot n l t after i h e =
    cons_not_nil (l, t) (after []).tokens (header_of_token t ≡ None) (sym (ap (λ (k : Scan). k.tokens) (end_left spot n i) ∙ h) ∙ e)

wrong_given : (n l : ℕ) (t : Token) (ts us : List (ℕ × Token)) → ◌≡◌ {A = List (ℕ × Token)} ((n, Wrong) ∷ ts) ((l, t) ∷ us) → header_of_token t ≡ None
wrong_given n l t ts us e = ap header_of_token (sym (first_token n l Wrong t ts us e))

header_given : (s : HeaderStage) (n l : ℕ) (t : Token) (after : List ℕ → Scan) → ((rest : List ℕ) → (remaining_scan (HeaderBetween s) n rest).tokens ≡ (l, t) ∷ (after rest).tokens) → header_of_token t ≡ None
header_given s n l t after h = wrong_given (n + 1) l t [] (after (120 ∷ [])).tokens (sym (spoilt_next s n) ∙ h (120 ∷ []))

word_given : (o : Option HeaderStage) (n l : ℕ) (t : Token) (after : List ℕ → Scan) → ((rest : List ℕ) → wrong_word_token o n ++ (remaining_scan (position_after_word o) n rest).tokens ≡ (l, t) ∷ (after rest).tokens) → header_of_token t ≡ None
word_given None n l t after h = wrong_given (n + 1) l t (remaining_scan (Comment false) n []).tokens (after []).tokens (h [])
word_given (Some s) n l t after h = header_given s n l t after h

blank_gives : (spot : Position) (n l : ℕ) (t : Token) (after : List ℕ → Scan) → GivesThen spot n l t after → header_of_token t ≡ None
blank_gives (Fresh may) n l t after h = none_left (Leading may) n l t after tt refl (h [])
blank_gives (Within x w) n l t after h =
    ap header_of_token (sym (first_token (n + 1) l (token (x ∷ w)) t (remaining_scan Between n []).tokens (after []).tokens (h []))) ∙ no_header (token (x ∷ w)) (word_token (x ∷ w))
blank_gives (HeaderBetween s) n l t after h = header_given s n l t after h
blank_gives (HeaderWithin s x w) n l t after h = word_given (stage_after s (x ∷ w)) n l t after h
blank_gives WrongHeader n l t after h = wrong_given (n + 1) l t (remaining_scan (Comment false) n []).tokens (after []).tokens (h [])
blank_gives e n l t after h = none_left e n l t after tt refl (h [])

pub plain_given : (machine : Tokenizer) (b l : ℕ) (t : Token) (left_of after : List ℕ → Scan) → HasRemainingScan machine left_of → nat_eq b 10 ≡ false → is_blank b ≡ true
    → ((rest : List ℕ) → left_of (b ∷ rest) ≡ prepend_tokens ((l, t) ∷ []) (after rest)) → header_of_token t ≡ None
unfolding HasRemainingScan
plain_given machine b l t left_of after s e f h =
    blank_gives s.0 s.1 l t after (λ rest. ap (λ (k : Scan). k.tokens) (sym (blank_left s.0 s.1 b rest (IsSpot_of machine.place s.0 s.2) e f) ∙ sym (s.4 (b ∷ rest)) ∙ h rest))

-- A blank that ends a token leaves none unfinished.
abbrev tail_of : List (ℕ × Token) → List (ℕ × Token)
tail_of [] = []
tail_of (x ∷ xs) = xs

-- the tokens that are left where the text ends
left_at : (spot : Position) (n : ℕ) → IsValidPosition spot → (remaining_scan spot n []).tokens ≡ unfinished_token spot n
left_at spot n i = ap (λ (k : Scan). k.tokens) (end_left spot n i)

none_then : (spot : Position) (n l : ℕ) (t : Token) (ts : List (ℕ × Token)) → IsValidPosition spot → unfinished_token spot n ≡ [] → (remaining_scan spot n []).tokens ≡ (l, t) ∷ ts → ts ≡ []
none_then spot n l t ts i h e = cons_not_nil (l, t) ts (ts ≡ []) (sym (left_at spot n i ∙ h) ∙ e)

word_then : (o : Option HeaderStage) (n l : ℕ) (t : Token) (ts : List (ℕ × Token)) → wrong_word_token o n ++ (remaining_scan (position_after_word o) n []).tokens ≡ (l, t) ∷ ts → ts ≡ []
word_then None n l t ts e = sym (ap tail_of e) ∙ left_at (Comment false) n tt
word_then (Some s) n l t ts e = sym (ap tail_of (sym (left_at (HeaderBetween s) n tt) ∙ e))

blank_then : (spot : Position) (n l : ℕ) (t : Token) (ts : List (ℕ × Token)) → token_ended_by_blank spot n ++ (remaining_scan (position_after_blank spot) n []).tokens ≡ (l, t) ∷ ts → ts ≡ []
blank_then (Fresh may) n l t ts e = none_then (Leading may) n l t ts tt refl e
blank_then (Within x w) n l t ts e = sym (ap tail_of e) ∙ left_at Between n tt
blank_then (HeaderBetween s) n l t ts e = sym (ap tail_of (sym (left_at (HeaderBetween s) n tt) ∙ e))
blank_then (HeaderWithin s x w) n l t ts e = word_then (stage_after s (x ∷ w)) n l t ts e
blank_then WrongHeader n l t ts e = sym (ap tail_of e) ∙ left_at (Comment false) n tt
blank_then z n l t ts e = none_then z n l t ts tt refl e

pub alone_given : (machine : Tokenizer) (b l : ℕ) (t : Token) (left_of after : List ℕ → Scan) → HasRemainingScan machine left_of → nat_eq b 10 ≡ false → is_blank b ≡ true
    → ((rest : List ℕ) → left_of (b ∷ rest) ≡ prepend_tokens ((l, t) ∷ []) (after rest)) → (after []).tokens ≡ []
unfolding HasRemainingScan
alone_given machine b l t left_of after s e f h =
    blank_then s.0 s.1 l t (after []).tokens (ap (λ (k : Scan). k.tokens) (sym (blank_left s.0 s.1 b [] (IsSpot_of machine.place s.0 s.2) e f) ∙ sym (s.4 (b ∷ [])) ∙ h []))

-- If no word is unfinished, a blank ends no word.
first_of : (l m : ℕ) (t u : Token) (ts us : List (ℕ × Token)) → IsHeaderOrWrong t → ◌≡◌ {A = List (ℕ × Token)} ((l, t) ∷ ts) ((m, u) ∷ us) → IsHeaderOrWrong u
first_of l m t u ts us h e = subst IsHeaderOrWrong (first_token l m t u ts us e) h

quiet_first : (xs ys : List (ℕ × Token)) (l : ℕ) (t : Token) (ts : List (ℕ × Token)) → QuietTokens xs → ys ≡ [] → xs ++ ys ≡ (l, t) ∷ ts → IsHeaderOrWrong t
quiet_first xs ys l t ts (inl q) h e = cons_not_nil (l, t) ts (IsHeaderOrWrong t) (rw (q, h) at e)
quiet_first xs ys l t ts (inr (m, u, i, q)) h e = first_of m l u t [] ts i (rw (q, h) at e)

word_quiet : (o : Option HeaderStage) (n l : ℕ) (t : Token) (ts : List (ℕ × Token)) → wrong_word_token o n ++ unfinished_token (position_after_word o) n ≡ (l, t) ∷ ts → IsHeaderOrWrong t
word_quiet None n l t ts e = first_of (n + 1) l Wrong t [] ts tt e
word_quiet (Some s) n l t ts e = first_of (n + 1) l (token_of_stage s) t [] ts (of_header s) e

blank_quiet : (spot : Position) (n l : ℕ) (t : Token) (ts : List (ℕ × Token)) → QuietTokens (unfinished_token spot n) → token_ended_by_blank spot n ++ unfinished_token (position_after_blank spot) n ≡ (l, t) ∷ ts → IsHeaderOrWrong t
blank_quiet (Within x w) n l t ts q e = quiet_first ((n + 1, token (x ∷ w)) ∷ []) [] l t ts q refl e
blank_quiet (HeaderBetween s) n l t ts q e = first_of (n + 1) l (token_of_stage s) t [] ts (of_header s) e
blank_quiet (HeaderWithin s x w) n l t ts q e = word_quiet (stage_after s (x ∷ w)) n l t ts e
blank_quiet WrongHeader n l t ts q e = first_of (n + 1) l Wrong t [] ts tt e
blank_quiet z n l t ts q e = cons_not_nil (l, t) ts (IsHeaderOrWrong t) e

below_quiet : (spot : Position) (n : ℕ) → (remaining_scan (position_after_LF spot) (lines_after spot n) []).tokens ≡ []
below_quiet Over n = left_at Over n tt
below_quiet (Fresh may) n = left_at (Fresh may) (n + 1) tt
below_quiet (Leading may) n = left_at (Fresh may) (n + 1) tt
below_quiet (Comment may) n = left_at (Fresh may) (n + 1) tt
below_quiet e n = left_at (Fresh false) (n + 1) tt

IsSpot_word : (o : Option HeaderStage) → IsValidPosition (position_after_word o)
IsSpot_word None = tt
IsSpot_word (Some s) = tt

IsSpot_after : (spot : Position) → IsValidPosition (position_after_blank spot)
IsSpot_after (HeaderWithin s x w) = IsSpot_word (stage_after s (x ∷ w))
IsSpot_after e = tt

quiet_blank : (spot : Position) (n b l : ℕ) (t : Token) (ts : List (ℕ × Token)) → IsValidPosition spot → QuietTokens (unfinished_token spot n) → is_blank b ≡ true → (is_LF : Bool) → nat_eq b 10 ≡ is_LF
    → (remaining_scan spot n (b ∷ [])).tokens ≡ (l, t) ∷ ts → IsHeaderOrWrong t
quiet_blank spot n b l t ts i q k true m e =
    let ten : b ≡ 10 = grind (arith, nat_tests) in
    quiet_first (unfinished_token spot n) (remaining_scan (position_after_LF spot) (lines_after spot n) []).tokens l t ts q (below_quiet spot n)
    (sym (ap (λ (c : ℕ). (remaining_scan spot n (c ∷ [])).tokens) ten ∙ ap (λ (s : Scan). s.tokens) (LF_left spot n [] i)) ∙ e)
quiet_blank spot n b l t ts i q k false m e =
    blank_quiet spot n l t ts q
    (ap (λ (us : List (ℕ × Token)). token_ended_by_blank spot n ++ us) (sym (left_at (position_after_blank spot) n (IsSpot_after spot)))
    ∙ sym (ap (λ (s : Scan). s.tokens) (blank_left spot n b [] i m k)) ∙ e)

pub quiet_given : (machine : Tokenizer) (b l : ℕ) (t : Token) (left_of after : List ℕ → Scan) → HasRemainingScan machine left_of → HasNoNumberOrLetter (left_of []) → is_blank b ≡ true
    → ((rest : List ℕ) → left_of (b ∷ rest) ≡ prepend_tokens ((l, t) ∷ []) (after rest)) → IsHeaderOrWrong t
unfolding HasRemainingScan
quiet_given machine b l t left_of after s q k h =
    let i = IsSpot_of machine.place s.0 s.2 in
    let none : (left_of []).tokens ≡ unfinished_token s.0 s.1 = ap (λ (r : Scan). r.tokens) (s.4 []) ∙ left_at s.0 s.1 i in
    quiet_blank s.0 s.1 b l t (after []).tokens i (subst QuietTokens none q) k (nat_eq b 10) refl (ap (λ (r : Scan). r.tokens) (sym (s.4 (b ∷ [])) ∙ h []))
