-- A tokenizer's places, byte by byte.
use Rattle.std.proofs.Common.{◌≡◌, ℕ, ◌+◌, ◌-◌, ◌^◌, ◌<◌, List, [], ◌∷◌, ◌++◌, Bool, true, false, min, Option, Some, None, refl, ap, ◌∙◌, arith}
use Rattle.std.proofs.lemmas.Bool.Decides.{nat_tests}
use Rattle.std.specs.Prelude.{nat_eq}
use Rattle.sat_base.specs.declared.text.Place.{Place}
use Rattle.sat_base.specs.declared.text.Place.TheVariants as at
use Rattle.sat_base.specs.declared.text.header.HeaderPlace.{HeaderPlace}
use Rattle.sat_base.specs.declared.text.header.HeaderPlace.TheVariants as header
use Rattle.sat_base.specs.declared.text.Token.{Token as CodeToken}
use Rattle.sat_base.specs.declared.text.Token.TheVariants as code
use Rattle.sat_base.specs.text.Text.{is_blank, is_digit, negative_token, token, Token, Number, Letter, Wrong}
use Rattle.sat_base.specs.text.Position.{HeaderStage, Position, Fresh, Leading, Comment, Within, HeaderWithin, WrongHeader, Over, IsValidPosition, unfinished_token, position_after_word, position_after_blank, line_of_last_byte}
use Rattle.sat_base.specs.text.Tokenizing.{capped, capped_token, RepresentsHeaderPosition, RepresentsPosition, MovesPositionByByte, MovesPlaceByByte, IsInWordOfByte, with_digit, GivesCappedToken, CompletesAtLineEnd, stage_at_word_end, MovesPlaceByBlank, MovesPlaceByLF, place_allows_header}
use Rattle.sat_base.proofs.lemmas.text.Positions.{Solid-more, fresh_leads, leading_comment, leading_end, leading_header, leading_late_header, leading_word, comment_more, between_word, within_more, spoilt_more, over_more}
use Rattle.sat_base.proofs.lemmas.text.Words.{SpellsHeld_one, SpellsHeld_more, BeginsWrong_more, BeginsWrong_letter, BeginsWrong_plain, BeginsWrong_minus, BeginsWrong_negative, word_plain, word_minus, word_bare, word_letter, word_wrong}

pub no_LF : (b : ℕ) → is_blank b ≡ false → nat_eq b 10 ≡ false
no_LF b e = grind (arith, nat_tests)

some : (w : List ℕ) (b : ℕ) → w ++ b ∷ [] ≡ [] → ⊥
some [] b e = cc
some (x ∷ w) b e = cc

-- at the start of a line
pub moves_comment : (may : Bool) → MovesPlaceByByte (at.Leading may) 99 (at.Comment may)
moves_comment may spot e = rw e (Comment may, refl, leading_comment may)

pub moves_end : (may : Bool) → MovesPlaceByByte (at.Leading may) 37 at.Over
moves_end may spot e = rw e (Over, refl, leading_end may)

pub moves_header : (may : Bool) → may ≡ true → MovesPlaceByByte (at.Leading may) 112 (at.Header header.P)
moves_header may m spot e = rw (e, m) (HeaderWithin _ 112 [], refl, leading_header)

pub moves_late_header : (may : Bool) → may ≡ false → MovesPlaceByByte (at.Leading may) 112 at.WrongHeader
moves_late_header may m spot e = rw (e, m) (WrongHeader, refl, leading_late_header)

pub moves_word : (may : Bool) (new : Place) (b : ℕ) → is_blank b ≡ false → nat_eq b 37 ≡ false → nat_eq b 99 ≡ false → nat_eq b 112 ≡ false → IsInWordOfByte b new → MovesPlaceByByte (at.Leading may) b new
moves_word may new b f g h k began spot e = rw e (Within b [], began, λ n rest. leading_word may n b rest (no_LF b f) f g h k)

pub moves_fresh : (may : Bool) (new : Place) (b : ℕ) → is_blank b ≡ false → MovesPlaceByByte (at.Leading may) b new → MovesPlaceByByte (at.Fresh may) b new
moves_fresh may new b f m spot e = let h = m (Leading may) refl in rw e (h.0, h.1, λ n rest. fresh_leads may n b rest (no_LF b f) ∙ h.2 n rest)

pub moves_between : (new : Place) (b : ℕ) → is_blank b ≡ false → IsInWordOfByte b new → MovesPlaceByByte at.Between b new
moves_between new b f began spot e = rw e (Within b [], began, λ n rest. between_word n b rest (no_LF b f))

pub moves_in_comment : (may : Bool) (b : ℕ) → is_blank b ≡ false → MovesPlaceByByte (at.Comment may) b (at.Comment may)
moves_in_comment may b f spot e = rw e (Comment may, refl, λ n rest. comment_more may n b rest (no_LF b f))

pub moves_spoilt : (b : ℕ) → is_blank b ≡ false → MovesPlaceByByte at.WrongHeader b at.WrongHeader
moves_spoilt b f spot e = rw e (WrongHeader, refl, λ n rest. spoilt_more n b rest (no_LF b f))

pub moves_over : (b : ℕ) → MovesPlaceByByte at.Over b at.Over
moves_over b spot e = rw e (Over, refl, λ n rest. over_more n b rest)

-- in a word
goes_on_within : (x : ℕ) (w : List ℕ) (b : ℕ) → is_blank b ≡ false → MovesPositionByByte (Within x w) b (Within x (w ++ b ∷ []))
goes_on_within x w b f n rest = within_more x w n b rest (no_LF b f)

pub moves_minus_digit : (b : ℕ) → is_blank b ≡ false → is_digit b ≡ true → b < 256 → MovesPlaceByByte at.Minus b (at.Digits true (b - 48))
moves_minus_digit b f d small spot e = rw e (Within 45 (b ∷ []), (b ∷ [], (f, tt), some [] b, SpellsHeld_one b d small, refl), goes_on_within 45 [] b f)

pub moves_minus_bad : (b : ℕ) → is_blank b ≡ false → is_digit b ≡ false → MovesPlaceByByte at.Minus b at.Bad
moves_minus_bad b f d spot e = rw e (Within 45 (b ∷ []), (45, b ∷ [], (refl, (f, tt)), BeginsWrong_minus b d, refl), goes_on_within 45 [] b f)

pub moves_digit : (negative : Bool) (v b : ℕ) → is_blank b ≡ false → is_digit b ≡ true → MovesPlaceByByte (at.Digits negative v) b (at.Digits negative (with_digit v b))
moves_digit false v b f d spot (x, w, s, h, n, l, e) =
    rw e (Within x (w ++ b ∷ []), (x, w ++ b ∷ [], Solid-more (x ∷ w) b s f, SpellsHeld_more (x ∷ w) v b h d, n, l, refl), goes_on_within x w b f)
moves_digit true v b f d spot (w, s, some_w, h, e) =
    rw e (Within 45 (w ++ b ∷ []), (w ++ b ∷ [], Solid-more w b s f, some w b, SpellsHeld_more w v b h d, refl), goes_on_within 45 w b f)

pub moves_digits_bad : (negative : Bool) (v b : ℕ) → is_blank b ≡ false → is_digit b ≡ false → MovesPlaceByByte (at.Digits negative v) b at.Bad
moves_digits_bad false v b f d spot (x, w, s, h, n, l, e) =
    rw e (Within x (w ++ b ∷ []), (x, w ++ b ∷ [], Solid-more (x ∷ w) b s f, BeginsWrong_plain x w v b h n l d, refl), goes_on_within x w b f)
moves_digits_bad true v b f d spot (w, s, some_w, h, e) =
    rw e (Within 45 (w ++ b ∷ []), (45, w ++ b ∷ [], Solid-more (45 ∷ w) b (refl, s) f, BeginsWrong_negative w v b h d, refl), goes_on_within 45 w b f)

pub moves_letter : (l b : ℕ) → is_blank b ≡ false → MovesPlaceByByte (at.Letter l) b at.Bad
moves_letter l b f spot ((s, k), e) = rw e (Within l (b ∷ []), (l, b ∷ [], (s.0, (f, tt)), BeginsWrong_letter l b k, refl), goes_on_within l [] b f)

pub moves_bad : (b : ℕ) → is_blank b ≡ false → MovesPlaceByByte at.Bad b at.Bad
moves_bad b f spot (x, w, s, h, e) = rw e (Within x (w ++ b ∷ []), (x, w ++ b ∷ [], Solid-more (x ∷ w) b s f, BeginsWrong_more (x ∷ w) b h, refl), goes_on_within x w b f)

-- PLACES AND POSITIONS
IsSpot_header : (p : HeaderPlace) (spot : Position) → RepresentsHeaderPosition p spot → IsValidPosition spot
IsSpot_header (header.Between ended) spot (s, h, e) = rw e tt
IsSpot_header header.P spot e = rw e (refl, tt)
IsSpot_header header.C spot e = rw e (refl, tt)
IsSpot_header header.Cn spot e = rw e (refl, (refl, tt))
IsSpot_header header.Cnf spot e = rw e (refl, (refl, (refl, tt)))
IsSpot_header (header.Vars value) spot (x, w, s, h, e) = rw e s
IsSpot_header (header.Clauses vars value) spot (v, x, w, k, s, h, e) = rw e s

pub IsSpot_of : (p : Place) (spot : Position) → RepresentsPosition p spot → IsValidPosition spot
IsSpot_of at.Minus spot e = rw e (refl, tt)
IsSpot_of (at.Digits false value) spot (x, w, s, h, n, l, e) = rw e s
IsSpot_of (at.Digits true value) spot (w, s, some_w, h, e) = rw e (refl, s)
IsSpot_of (at.Letter b) spot (s, e) = rw e s.0
IsSpot_of at.Bad spot (x, w, s, h, e) = rw e s
IsSpot_of (at.Header place) spot h = IsSpot_header place spot h
IsSpot_of z spot e = rw e tt

-- if a token is unfinished, so is its line
pub line-in_hand : (spot : Position) (n : ℕ) (t : ℕ × Token) → unfinished_token spot n ≡ t ∷ [] → line_of_last_byte spot n ≡ n + 1
line-in_hand (Fresh may) n t e = absurd (cc)
line-in_hand x n t e = refl

line-header_word : (o : Option HeaderStage) (n : ℕ) → line_of_last_byte (position_after_word o) n ≡ n + 1
line-header_word None n = refl
line-header_word (Some s) n = refl

pub line-following_blank : (spot : Position) (n : ℕ) → line_of_last_byte (position_after_blank spot) n ≡ n + 1
line-following_blank (HeaderWithin s x w) n = line-header_word _ n
line-following_blank e n = refl

pub line-Fresh : (p : Place) (may : Bool) (spot : Position) (n : ℕ) → p ≡ at.Fresh may → RepresentsPosition p spot → line_of_last_byte spot n ≡ n
line-Fresh p may spot n e i = let f : RepresentsPosition (at.Fresh may) spot = rw e at i in rw f refl

header-line : (p : HeaderPlace) (spot : Position) (n : ℕ) → RepresentsHeaderPosition p spot → line_of_last_byte spot n ≡ n + 1
header-line (header.Between ended) spot n (s, h, e) = rw e refl
header-line (header.Vars value) spot n (x, w, s, h, e) = rw e refl
header-line (header.Clauses vars value) spot n (v, x, w, k, s, h, e) = rw e refl
header-line z spot n e = rw e refl

pub line-other : (p : Place) (spot : Position) (n : ℕ) → ((may : Bool) → p ≡ at.Fresh may → ⊥) → RepresentsPosition p spot → line_of_last_byte spot n ≡ n + 1
line-other (at.Fresh may) spot n h i = absurd (h may refl)
line-other (at.Digits false value) spot n h (x, w, s, k, m, l, e) = rw e refl
line-other (at.Digits true value) spot n h (w, s, some_w, k, e) = rw e refl
line-other (at.Letter b) spot n h (s, e) = rw e refl
line-other at.Bad spot n h (x, w, s, k, e) = rw e refl
line-other (at.Header place) spot n h i = header-line place spot n i
line-other z spot n h e = rw e refl

-- AFTER BLANKS
pub after_number : (negative : Bool) (v : ℕ) → MovesPlaceByBlank (at.Digits negative v) at.Between
after_number false v spot (x, w, s, h, n, l, e) = rw e refl
after_number true v spot (w, s, some_w, h, e) = rw e refl

pub after_word_in_header : (p : HeaderPlace) (spot : Position) → RepresentsHeaderPosition p spot → position_after_blank spot ≡ position_after_word (stage_at_word_end spot)
after_word_in_header (header.Between ended) spot (s, h, e) = rw e refl
after_word_in_header (header.Vars value) spot (x, w, s, h, e) = rw e refl
after_word_in_header (header.Clauses vars value) spot (v, x, w, k, s, h, e) = rw e refl
after_word_in_header z spot e = rw e refl

-- LF leads from every place, except after `%`, to the start of a line
pub below : (p : Place) → (p ≡ at.Over → ⊥) → MovesPlaceByLF p (at.Fresh (place_allows_header p))
below (at.Digits false value) h spot (x, w, s, k, m, l, e) = rw e refl
below (at.Digits true value) h spot (w, s, some_w, k, e) = rw e refl
below (at.Letter b) h spot (s, e) = rw e refl
below at.Bad h spot (x, w, s, k, e) = rw e refl
below (at.Header (header.Between ended)) h spot (s, i, e) = rw e refl
below (at.Header (header.Vars value)) h spot (x, w, s, k, e) = rw e refl
below (at.Header (header.Clauses vars value)) h spot (v, x, w, k, s, i, e) = rw e refl
below at.Over h spot e = absurd (h refl)
below z h spot e = rw e refl

-- THE UNFINISHED WORD
abbrev one : Token → ℕ → List (ℕ × Token)
one t n = (n + 1, t) ∷ []

-- the token of an unfinished word when the line ends
given_word : (x : ℕ) (w : List ℕ) (t : Token) (given : CodeToken) (spot : Position) → token (x ∷ w) ≡ t → given ≡ capped_token t → spot ≡ Within x w → GivesCappedToken (Some given) (unfinished_token spot)
given_word x w t given spot e h s = rw s (t, h, λ n. ap (λ (u : Token). one u n) e)

pub says_minus : CompletesAtLineEnd (Some code.Wrong) at.Minus
says_minus spot e = given_word 45 [] Wrong code.Wrong spot word_bare refl e

pub says_bad : CompletesAtLineEnd (Some code.Wrong) at.Bad
says_bad spot (x, w, s, h, e) = given_word x w Wrong code.Wrong spot (word_wrong (x ∷ w) h) refl e

pub says_letter : (b : ℕ) → CompletesAtLineEnd (Some (code.Letter b)) (at.Letter b)
says_letter b spot ((s, l), e) = given_word b [] (Letter b) (code.Letter b) spot (word_letter b l) refl e

minus_zero : (m : ℕ) → m ≡ 0 → negative_token (Some m) ≡ Wrong
minus_zero m e = rw e refl

minus_some : (m : ℕ) → 0 < m → negative_token (Some m) ≡ Number true m
minus_some m h = let e : nat_eq m 0 ≡ false = grind (arith, nat_tests) in rw e refl

pub says_zero : (v : ℕ) → v ≡ 0 → CompletesAtLineEnd (Some code.Wrong) (at.Digits true v)
says_zero v z spot (w, s, some_w, (m, d, h), e) =
    given_word 45 w Wrong code.Wrong spot (word_minus w m d some_w ∙ minus_zero m (omega (arith, h, z))) refl e

pub says_number : (negative : Bool) (v : ℕ) → (negative ≡ true → 0 < v) → CompletesAtLineEnd (Some (code.Number negative v)) (at.Digits negative v)
says_number true v z spot (w, s, some_w, (m, d, h), e) =
    given_word 45 w (Number true m) (code.Number true v) spot (word_minus w m d some_w ∙ minus_some m (omega (arith, h, z refl))) (ap (code.Number true) h) e
says_number false v z spot (x, w, s, (m, d, h), n, l, e) =
    given_word x w (Number false m) (code.Number false v) spot (word_plain x w m d n l) (ap (code.Number false) h) e

pub held_next : (lines n k : ℕ) → lines ≡ capped n → k ≡ min (lines + 1) (2 ^ 64 - 1) → k ≡ capped (n + 1)
held_next lines n k h e = omega (arith, h, e)
