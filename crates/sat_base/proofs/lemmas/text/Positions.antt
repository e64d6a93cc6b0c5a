-- Positions in a text, and what is still to be read from each.
use Rattle.std.proofs.Common.{◌≡◌, ℕ, ◌+◌, List, [], ◌∷◌, ◌++◌, Bool, true, false, Option, Some, None, refl, sym, ap, ◌∙◌, append_assoc}
use Rattle.std.specs.Prelude.{nat_eq, not, ◌&&◌}
use Rattle.std.proofs.lemmas.List.{append-nil}
use Rattle.sat_base.specs.text.Text.{is_blank, prepend_to_first, lines, begins_nonblank, words, first_nonblank_is, header_if, has_no_words, tokens_on_line, last_line, Wrong, tokens_of, Scan, scan}
use Rattle.sat_base.specs.text.Position.{first_line, later_lines, HeaderStage, Begun, stage_after, token_of_stage, after_word, stage_token, Position, Fresh, Leading, Comment, Between, Within, HeaderBetween, HeaderWithin, WrongHeader, Over, HasNoBlank, IsValidPosition, remaining_scan, unfinished_token, position_after_LF, lines_after, position_after_word, position_after_blank, wrong_word_token, token_ended_by_blank, line_of_last_byte, prepend_tokens}
use Rattle.sat_base.specs.text.Tokenizing.{BeginsWrongHeaderWord}
use Rattle.sat_base.proofs.lemmas.text.Headers.{stage_nil, stage_cons, header_in_is}

lines_LF : (bs : List ℕ) → lines (10 ∷ bs) ≡ (10 ∷ []) ∷ lines bs
unfolding lines
lines_LF bs = refl

onto_first_is : (b : ℕ) (ls : List (List ℕ)) → prepend_to_first b ls ≡ (b ∷ first_line ls) ∷ later_lines ls
onto_first_is b [] = refl
onto_first_is b (l ∷ ls) = refl

-- a byte other than LF is added to the first line
lines_more : (b : ℕ) (bs : List ℕ) → nat_eq b 10 ≡ false → lines (b ∷ bs) ≡ (b ∷ first_line (lines bs)) ∷ later_lines (lines bs)
unfolding lines
lines_more b bs e = rw e (onto_first_is b (lines bs))

lines_nil : lines [] ≡ []
unfolding lines
lines_nil = refl

words_nil : words [] ≡ []
unfolding words
words_nil = refl

words_blank : (b : ℕ) (bs : List ℕ) → is_blank b ≡ true → words (b ∷ bs) ≡ words bs
unfolding words
words_blank b bs e = rw e refl

words_blank_one : (b : ℕ) → is_blank b ≡ true → words (b ∷ []) ≡ []
words_blank_one b e = words_blank b [] e ∙ words_nil

words_more : (b : ℕ) (bs : List ℕ) → is_blank b ≡ false → begins_nonblank bs ≡ true → words (b ∷ bs) ≡ prepend_to_first b (words bs)
unfolding words
words_more b bs e g = rw (e, g) refl

words_one : (b : ℕ) (bs : List ℕ) → is_blank b ≡ false → begins_nonblank bs ≡ false → words (b ∷ bs) ≡ (b ∷ []) ∷ words bs
unfolding words
words_one b bs e g = rw (e, g) refl

begins_nil : (c : ℕ) → first_nonblank_is c [] ≡ false
unfolding first_nonblank_is
begins_nil c = refl

begins_blank : (c b : ℕ) (bs : List ℕ) → is_blank b ≡ true → first_nonblank_is c (b ∷ bs) ≡ first_nonblank_is c bs
unfolding first_nonblank_is
begins_blank c b bs e = rw e refl

begins_at : (c b : ℕ) (bs : List ℕ) → is_blank b ≡ false → first_nonblank_is c (b ∷ bs) ≡ nat_eq b c
unfolding first_nonblank_is
begins_at c b bs e = rw e refl

-- a line of one blank
begins_one : (c b : ℕ) → is_blank b ≡ true → first_nonblank_is c (b ∷ []) ≡ false
begins_one c b e = begins_blank c b [] e ∙ begins_nil c

pub Solid-more : (w : List ℕ) (b : ℕ) → HasNoBlank w → is_blank b ≡ false → HasNoBlank (w ++ b ∷ [])
Solid-more [] b s e = (e, tt)
Solid-more (x ∷ w) b s e = (s.0, Solid-more w b s.1 e)

-- a word ends where the line does
word_ends : (x : ℕ) (w : List ℕ) → HasNoBlank (x ∷ w) → words (x ∷ w) ≡ (x ∷ w) ∷ []
word_ends x [] s = words_one x [] s.0 refl ∙ ap (λ (ws : List (List ℕ)). (x ∷ []) ∷ ws) words_nil
word_ends x (y ∷ w) s = words_more x (y ∷ w) s.0 (ap not s.1.0) ∙ ap (prepend_to_first x) (word_ends y w s.1)

-- a word ends at a blank
word_cut : (x : ℕ) (w : List ℕ) (b : ℕ) (bs : List ℕ) → HasNoBlank (x ∷ w) → is_blank b ≡ true → words ((x ∷ w) ++ b ∷ bs) ≡ (x ∷ w) ∷ words bs
word_cut x [] b bs s e = words_one x (b ∷ bs) s.0 (ap not e) ∙ ap (λ (ws : List (List ℕ)). (x ∷ []) ∷ ws) (words_blank b bs e)
word_cut x (y ∷ w) b bs s e = words_more x ((y ∷ w) ++ b ∷ bs) s.0 (ap not s.1.0) ∙ ap (prepend_to_first x) (word_cut y w b bs s.1 e)

-- `BeginsWord x w bs` holds if the first word of the bytes `(x ∷ w) ++ bs` begins with `x ∷ w`.
abbrev pub BeginsWord : ℕ → List ℕ → List ℕ → Type 0
BeginsWord x w bs = (more : List ℕ) × (ws : List (List ℕ)) × (words ((x ∷ w) ++ bs) ≡ ((x ∷ w) ++ more) ∷ ws)

onto_some : (x : ℕ) (ws : List (List ℕ)) → (more : List ℕ) × (us : List (List ℕ)) × (prepend_to_first x ws ≡ (x ∷ more) ∷ us)
onto_some x [] = ([], [], refl)
onto_some x (w ∷ ws) = (w, ws, refl)

first_word_if : (x : ℕ) (bs : List ℕ) (more : Bool) → is_blank x ≡ false → begins_nonblank bs ≡ more → BeginsWord x [] bs
first_word_if x bs true e g = let o = onto_some x (words bs) in (o.0, o.1, words_more x bs e g ∙ o.2)
first_word_if x bs false e g = ([], words bs, words_one x bs e g)

pub first_word : (x : ℕ) (w bs : List ℕ) → HasNoBlank (x ∷ w) → BeginsWord x w bs
first_word x [] bs s = first_word_if x bs (begins_nonblank bs) s.0 refl
first_word x (y ∷ w) bs s = let h = first_word y w bs s.1 in (h.0, h.1, words_more x ((y ∷ w) ++ bs) s.0 (ap not s.1.0) ∙ ap (prepend_to_first x) h.2)

-- bytes that begin with a nonblank byte have a word
some_words : (x : ℕ) (bs : List ℕ) → is_blank x ≡ false → has_no_words (words (x ∷ bs)) ≡ false
some_words x bs e = let h = first_word x [] bs (e, tt) in ap has_no_words h.2

-- LINES
and_false : (may : Bool) → (may && false) ≡ false
and_false true = refl
and_false false = refl

and_true : (may : Bool) → (may && true) ≡ may
and_true true = refl
and_true false = refl

-- `Begins l percent comment header` holds if the flags say whether the first nonblank byte of the line is `%`, `c` or
-- `p`.
pub record Begins (l : List ℕ) (percent comment header : Bool) : Type 0 where
  pub ends : first_nonblank_is 37 l ≡ percent
  pub comments : first_nonblank_is 99 l ≡ comment
  pub heads : first_nonblank_is 112 l ≡ header

of_words : (may : Bool) (n : ℕ) (l : List ℕ) (ls : List (List ℕ)) → Begins l false false false → tokens_of may n (l ∷ ls) ≡ tokens_on_line (n + 1) (words l) ++ tokens_of (may && has_no_words (words l)) (n + 1) ls
unfolding tokens_of
of_words may n l ls e = rw (e.ends, e.comments, e.heads) refl

of_end : (may : Bool) (n : ℕ) (l : List ℕ) (ls : List (List ℕ)) → first_nonblank_is 37 l ≡ true → tokens_of may n (l ∷ ls) ≡ []
unfolding tokens_of
of_end may n l ls e = rw e refl

of_comment : (may : Bool) (n : ℕ) (l : List ℕ) (ls : List (List ℕ)) → first_nonblank_is 37 l ≡ false → first_nonblank_is 99 l ≡ true → tokens_of may n (l ∷ ls) ≡ tokens_of may (n + 1) ls
unfolding tokens_of
of_comment may n l ls e f = rw (e, f) refl

of_header : (may : Bool) (n : ℕ) (l : List ℕ) (ls : List (List ℕ)) → Begins l false false true → tokens_of may n (l ∷ ls) ≡ (n + 1, header_if may l) ∷ tokens_of false (n + 1) ls
unfolding tokens_of
of_header may n l ls e = rw (e.ends, e.comments, e.heads) refl

of_none : (may : Bool) (n : ℕ) → tokens_of may n [] ≡ []
unfolding tokens_of
of_none may n = refl

-- a line with no words
of_blanks : (may : Bool) (n : ℕ) (l : List ℕ) (ls : List (List ℕ)) → Begins l false false false → words l ≡ [] → tokens_of may n (l ∷ ls) ≡ tokens_of may (n + 1) ls
of_blanks may n l ls e f =
    of_words may n l ls e
    ∙ ap (λ (ws : List (List ℕ)). tokens_on_line (n + 1) ws ++ tokens_of (may && has_no_words ws) (n + 1) ls) f
    ∙ ap (λ (m : Bool). tokens_of m (n + 1) ls) (and_true may)

no_words_begin : Begins [] false false false
no_words_begin = record { ends = begins_nil 37; comments = begins_nil 99; heads = begins_nil 112 }

LF_begins : Begins (10 ∷ []) false false false
LF_begins = record { ends = begins_one 37 10 refl; comments = begins_one 99 10 refl; heads = begins_one 112 10 refl }

byte_begins : (b : ℕ) (l : List ℕ) → is_blank b ≡ false → Begins (b ∷ l) (nat_eq b 37) (nat_eq b 99) (nat_eq b 112)
byte_begins b l e = record { ends = begins_at 37 b l e; comments = begins_at 99 b l e; heads = begins_at 112 b l e }

last_line_cons : (n : ℕ) (l : List ℕ) (ls : List (List ℕ)) → first_nonblank_is 37 l ≡ false → last_line n (l ∷ ls) ≡ last_line (n + 1) ls
unfolding last_line
last_line_cons n l ls e = rw e refl

last_line_end : (n : ℕ) (l : List ℕ) (ls : List (List ℕ)) → first_nonblank_is 37 l ≡ true → last_line n (l ∷ ls) ≡ n + 1
unfolding last_line
last_line_end n l ls e = rw e refl

last_line_nil : (n : ℕ) → last_line n [] ≡ n
unfolding last_line
last_line_nil n = refl

-- a blank at the start of a line does not change its tokens
skips : (may : Bool) (n b : ℕ) (l : List ℕ) (ls : List (List ℕ)) → is_blank b ≡ true → tokens_of may n ((b ∷ l) ∷ ls) ≡ tokens_of may n (l ∷ ls)
unfolding tokens_of
skips may n b l ls e = rw (begins_blank 37 b l e, begins_blank 99 b l e, begins_blank 112 b l e, words_blank b l e) refl

last_skips : (n b : ℕ) (l : List ℕ) (ls : List (List ℕ)) → is_blank b ≡ true → last_line n ((b ∷ l) ∷ ls) ≡ last_line n (l ∷ ls)
unfolding last_line
last_skips n b l ls e = rw (begins_blank 37 b l e) refl

-- THE START
pub start : (text : List ℕ) → scan text ≡ remaining_scan (Fresh true) 0 text
unfolding remaining_scan scan
start text = refl

-- the last word of a header line
last_word : (o : Option HeaderStage) → after_word o (λ s. stage_token s []) ≡ after_word o token_of_stage
last_word None = refl
last_word (Some s) = stage_nil s

stage_one : (stage : HeaderStage) (w : List ℕ) → stage_token stage (w ∷ []) ≡ after_word (stage_after stage w) token_of_stage
stage_one stage w = stage_cons stage w [] ∙ last_word (stage_after stage w)

-- LF ends the line and completes the unfinished token
pub LF_left : (spot : Position) (n : ℕ) (bs : List ℕ) → IsValidPosition spot → remaining_scan spot n (10 ∷ bs) ≡ prepend_tokens (unfinished_token spot n) (remaining_scan (position_after_LF spot) (lines_after spot n) bs)
unfolding remaining_scan
LF_left (Fresh may) n bs s = rw (lines_LF bs, of_blanks may n (10 ∷ []) (lines bs) LF_begins (words_blank_one 10 refl), last_line_cons n (10 ∷ []) (lines bs) (LF_begins.ends)) refl
LF_left (Leading may) n bs s = rw (lines_LF bs, of_blanks may n (10 ∷ []) (lines bs) LF_begins (words_blank_one 10 refl), last_line_cons n (10 ∷ []) (lines bs) (LF_begins.ends)) refl
LF_left (Comment may) n bs s = rw (lines_LF bs) refl
LF_left Between n bs s = rw (lines_LF bs, words_blank_one 10 refl) refl
LF_left (Within x w) n bs s = rw (lines_LF bs, word_cut x w 10 [] s refl, words_nil) refl
LF_left (HeaderBetween stage) n bs s = rw (lines_LF bs, words_blank_one 10 refl, stage_nil stage) refl
LF_left (HeaderWithin stage x w) n bs s = rw (lines_LF bs, word_cut x w 10 [] s refl, words_nil, stage_one stage (x ∷ w)) refl
LF_left WrongHeader n bs s = rw (lines_LF bs) refl
LF_left Over n bs s = refl

-- any other byte at the start of a line has the same effect as after blanks
pub fresh_leads : (may : Bool) (n b : ℕ) (bs : List ℕ) → nat_eq b 10 ≡ false → remaining_scan (Fresh may) n (b ∷ bs) ≡ remaining_scan (Leading may) n (b ∷ bs)
unfolding remaining_scan
fresh_leads may n b bs e = rw (lines_more b bs e) refl

leading_blank : (may : Bool) (n b : ℕ) (bs : List ℕ) → nat_eq b 10 ≡ false → is_blank b ≡ true → remaining_scan (Leading may) n (b ∷ bs) ≡ remaining_scan (Leading may) n bs
unfolding remaining_scan
leading_blank may n b bs e f =
    rw (lines_more b bs e, skips may n b (first_line (lines bs)) (later_lines (lines bs)) f, last_skips n b (first_line (lines bs)) (later_lines (lines bs)) f) refl

-- a blank after a word of a header line
header_blank : (o : Option HeaderStage) (n : ℕ) (bs : List ℕ)
    → record { tokens = (n + 1, after_word o (λ s. stage_token s (words (first_line (lines bs))))) ∷ tokens_of false (n + 1) (later_lines (lines bs)); last = last_line (n + 1) (later_lines (lines bs)) }
    ≡ prepend_tokens (wrong_word_token o n) (remaining_scan (position_after_word o) n bs)
unfolding remaining_scan
header_blank None n bs = refl
header_blank (Some stage) n bs = refl

-- a blank other than LF ends the unfinished word
pub blank_left : (spot : Position) (n b : ℕ) (bs : List ℕ) → IsValidPosition spot → nat_eq b 10 ≡ false → is_blank b ≡ true → remaining_scan spot n (b ∷ bs) ≡ prepend_tokens (token_ended_by_blank spot n) (remaining_scan (position_after_blank spot) n bs)
unfolding remaining_scan
blank_left (Fresh may) n b bs s e f = fresh_leads may n b bs e ∙ leading_blank may n b bs e f
blank_left (Leading may) n b bs s e f = leading_blank may n b bs e f
blank_left (Comment may) n b bs s e f = rw (lines_more b bs e) refl
blank_left Between n b bs s e f = rw (lines_more b bs e, words_blank b (first_line (lines bs)) f) refl
blank_left (Within x w) n b bs s e f = rw (lines_more b bs e, word_cut x w b (first_line (lines bs)) s f) refl
blank_left (HeaderBetween stage) n b bs s e f = rw (lines_more b bs e, words_blank b (first_line (lines bs)) f) refl
blank_left (HeaderWithin stage x w) n b bs s e f =
    rw (lines_more b bs e, word_cut x w b (first_line (lines bs)) s f, stage_cons stage (x ∷ w) (words (first_line (lines bs)))) (header_blank (stage_after stage (x ∷ w)) n bs)
blank_left WrongHeader n b bs s e f = rw (lines_more b bs e) refl
blank_left Over n b bs s e f = refl

-- A NONBLANK BYTE
-- at the start of a line
abbrev line_with : ℕ → List ℕ → List ℕ
line_with b bs = b ∷ first_line (lines bs)

pub leading_comment : (may : Bool) (n : ℕ) (bs : List ℕ) → remaining_scan (Leading may) n (99 ∷ bs) ≡ remaining_scan (Comment may) n bs
unfolding remaining_scan
leading_comment may n bs =
    let b = byte_begins 99 (first_line (lines bs)) refl in
    rw (lines_more 99 bs refl, of_comment may n (line_with 99 bs) (later_lines (lines bs)) b.ends b.comments, last_line_cons n (line_with 99 bs) (later_lines (lines bs)) b.ends) refl

pub leading_end : (may : Bool) (n : ℕ) (bs : List ℕ) → remaining_scan (Leading may) n (37 ∷ bs) ≡ remaining_scan Over n bs
unfolding remaining_scan
leading_end may n bs =
    let b = byte_begins 37 (first_line (lines bs)) refl in
    rw (lines_more 37 bs refl, of_end may n (line_with 37 bs) (later_lines (lines bs)) b.ends, last_line_end n (line_with 37 bs) (later_lines (lines bs)) b.ends) refl

pub leading_header : (n : ℕ) (bs : List ℕ) → remaining_scan (Leading true) n (112 ∷ bs) ≡ remaining_scan (HeaderWithin Begun 112 []) n bs
unfolding remaining_scan
leading_header n bs =
    let b = byte_begins 112 (first_line (lines bs)) refl in
    rw (lines_more 112 bs refl, of_header true n (line_with 112 bs) (later_lines (lines bs)) b, last_line_cons n (line_with 112 bs) (later_lines (lines bs)) b.ends, header_in_is (words (line_with 112 bs))) refl

pub leading_late_header : (n : ℕ) (bs : List ℕ) → remaining_scan (Leading false) n (112 ∷ bs) ≡ remaining_scan WrongHeader n bs
unfolding remaining_scan
leading_late_header n bs =
    let b = byte_begins 112 (first_line (lines bs)) refl in
    rw (lines_more 112 bs refl, of_header false n (line_with 112 bs) (later_lines (lines bs)) b, last_line_cons n (line_with 112 bs) (later_lines (lines bs)) b.ends) refl

-- a line that begins with a word
of_word : (may : Bool) (n b : ℕ) (l : List ℕ) (ls : List (List ℕ)) → Begins (b ∷ l) false false false → is_blank b ≡ false
    → tokens_of may n ((b ∷ l) ∷ ls) ≡ tokens_on_line (n + 1) (words (b ∷ l)) ++ tokens_of false (n + 1) ls
of_word may n b l ls e f =
    of_words may n (b ∷ l) ls e
    ∙ ap (λ (none : Bool). tokens_on_line (n + 1) (words (b ∷ l)) ++ tokens_of (may && none) (n + 1) ls) (some_words b l f)
    ∙ ap (λ (m : Bool). tokens_on_line (n + 1) (words (b ∷ l)) ++ tokens_of m (n + 1) ls) (and_false may)

pub leading_word : (may : Bool) (n b : ℕ) (bs : List ℕ) → nat_eq b 10 ≡ false → is_blank b ≡ false → nat_eq b 37 ≡ false → nat_eq b 99 ≡ false → nat_eq b 112 ≡ false
    → remaining_scan (Leading may) n (b ∷ bs) ≡ remaining_scan (Within b []) n bs
unfolding remaining_scan
leading_word may n b bs e f g h k =
    let l = first_line (lines bs) in
    let starts : Begins (b ∷ l) false false false = record { ends = begins_at 37 b l f ∙ g; comments = begins_at 99 b l f ∙ h; heads = begins_at 112 b l f ∙ k } in
    rw (lines_more b bs e, of_word may n b l (later_lines (lines bs)) starts f, last_line_cons n (b ∷ l) (later_lines (lines bs)) starts.ends) refl

pub comment_more : (may : Bool) (n b : ℕ) (bs : List ℕ) → nat_eq b 10 ≡ false → remaining_scan (Comment may) n (b ∷ bs) ≡ remaining_scan (Comment may) n bs
unfolding remaining_scan
comment_more may n b bs e = rw (lines_more b bs e) refl

pub between_word : (n b : ℕ) (bs : List ℕ) → nat_eq b 10 ≡ false → remaining_scan Between n (b ∷ bs) ≡ remaining_scan (Within b []) n bs
unfolding remaining_scan
between_word n b bs e = rw (lines_more b bs e) refl

pub within_more : (x : ℕ) (w : List ℕ) (n b : ℕ) (bs : List ℕ) → nat_eq b 10 ≡ false → remaining_scan (Within x w) n (b ∷ bs) ≡ remaining_scan (Within x (w ++ b ∷ [])) n bs
unfolding remaining_scan
within_more x w n b bs e = rw (lines_more b bs e, sym (append_assoc w (b ∷ []) (first_line (lines bs)))) refl

-- in a header line
pub header_between_word : (stage : HeaderStage) (n b : ℕ) (bs : List ℕ) → nat_eq b 10 ≡ false → remaining_scan (HeaderBetween stage) n (b ∷ bs) ≡ remaining_scan (HeaderWithin stage b []) n bs
unfolding remaining_scan
header_between_word stage n b bs e = rw (lines_more b bs e) refl

pub header_within_more : (stage : HeaderStage) (x : ℕ) (w : List ℕ) (n b : ℕ) (bs : List ℕ) → nat_eq b 10 ≡ false
    → remaining_scan (HeaderWithin stage x w) n (b ∷ bs) ≡ remaining_scan (HeaderWithin stage x (w ++ b ∷ [])) n bs
unfolding remaining_scan
header_within_more stage x w n b bs e = rw (lines_more b bs e, sym (append_assoc w (b ∷ []) (first_line (lines bs)))) refl

spoils_line : (stage : HeaderStage) (x : ℕ) (w bs : List ℕ) → HasNoBlank (x ∷ w) → BeginsWrongHeaderWord stage (x ∷ w) → stage_token stage (words ((x ∷ w) ++ bs)) ≡ Wrong
spoils_line stage x w bs s h =
    let front = first_word x w bs s in
    ap (stage_token stage) front.2 ∙ stage_cons stage ((x ∷ w) ++ front.0) front.1 ∙ ap (λ (o : Option HeaderStage). after_word o (λ s. stage_token s front.1)) (h front.0)

pub header_spoilt : (stage : HeaderStage) (x : ℕ) (w : List ℕ) (n : ℕ) (bs : List ℕ) → HasNoBlank (x ∷ w) → BeginsWrongHeaderWord stage (x ∷ w) → remaining_scan (HeaderWithin stage x w) n bs ≡ remaining_scan WrongHeader n bs
unfolding remaining_scan
header_spoilt stage x w n bs s h = rw (spoils_line stage x w (first_line (lines bs)) s h) refl

pub spoilt_more : (n b : ℕ) (bs : List ℕ) → nat_eq b 10 ≡ false → remaining_scan WrongHeader n (b ∷ bs) ≡ remaining_scan WrongHeader n bs
unfolding remaining_scan
spoilt_more n b bs e = rw (lines_more b bs e) refl

pub over_more : (n b : ℕ) (bs : List ℕ) → remaining_scan Over n (b ∷ bs) ≡ remaining_scan Over n bs
unfolding remaining_scan
over_more n b bs = refl

-- THE END
-- the end of the text completes the unfinished token, on the line of the last byte
pub end_left : (spot : Position) (n : ℕ) → IsValidPosition spot → remaining_scan spot n [] ≡ record { tokens = unfinished_token spot n; last = line_of_last_byte spot n }
unfolding remaining_scan
end_left (Fresh may) n s = rw (lines_nil, of_none may n, last_line_nil n) refl
end_left (Leading may) n s = rw (lines_nil, of_blanks may n [] [] no_words_begin words_nil, of_none may (n + 1), last_line_cons n [] [] no_words_begin.ends, last_line_nil (n + 1)) refl
end_left (Comment may) n s = rw (lines_nil, of_none may (n + 1), last_line_nil (n + 1)) refl
end_left Between n s = rw (lines_nil, words_nil, of_none false (n + 1), last_line_nil (n + 1)) refl
end_left (Within x w) n s = rw (lines_nil, append-nil (x ∷ w), word_ends x w s, of_none false (n + 1), last_line_nil (n + 1)) refl
end_left (HeaderBetween stage) n s = rw (lines_nil, words_nil, stage_nil stage, of_none false (n + 1), last_line_nil (n + 1)) refl
end_left (HeaderWithin stage x w) n s = rw (lines_nil, append-nil (x ∷ w), word_ends x w s, stage_one stage (x ∷ w), of_none false (n + 1), last_line_nil (n + 1)) refl
end_left WrongHeader n s = rw (lines_nil, of_none false (n + 1), last_line_nil (n + 1)) refl
end_left Over n s = refl

-- if the text ends here, its last line is that of the last byte
pub last_left_end : (spot : Position) (n : ℕ) → IsValidPosition spot → (remaining_scan spot n []).last ≡ line_of_last_byte spot n
last_left_end spot n s = ap (λ (r : Scan). r.last) (end_left spot n s)
