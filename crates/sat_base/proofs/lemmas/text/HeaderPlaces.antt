-- A tokenizer's places in header lines, byte by byte.
use Rattle.std.proofs.Common.{◌≡◌, ℕ, ◌+◌, ◌-◌, ◌<◌, List, [], ◌∷◌, ◌++◌, true, false, Option, Some, None, refl, ap, ◌∙◌}
use Rattle.std.specs.Prelude.{nat_eq}
use Rattle.sat_base.specs.declared.text.Place.TheVariants as at
use Rattle.sat_base.specs.declared.text.header.HeaderPlace.{HeaderPlace}
use Rattle.sat_base.specs.declared.text.header.HeaderPlace.TheVariants as header
use Rattle.sat_base.specs.declared.text.header.Stage.{Stage as CodeStage}
use Rattle.sat_base.specs.declared.text.header.Stage.TheVariants as stage
use Rattle.sat_base.specs.declared.text.Token.{Token as CodeToken}
use Rattle.sat_base.specs.declared.text.Token.TheVariants as code
use Rattle.sat_base.specs.text.Text.{is_blank, is_digit, digits, Token, Header}
use Rattle.sat_base.specs.text.Position.{HeaderStage, Begun, Named, Format, Vars, Both, stage_with_number, token_of_stage, after_word, Position, HeaderWithin, WrongHeader, HasNoBlank, unfinished_token, position_after_word}
use Rattle.sat_base.specs.text.Tokenizing.{capped_token, BeginsWrongHeaderWord, RepresentsHeaderPosition, MovesPositionByByte, MovesHeaderByByte, IsInHeaderWordOfByte, with_digit, GivesCappedToken, CompletesAtLineEnd, stage_at_word_end, RepresentsStageOrNone, MovesPlaceByBlank}
use Rattle.sat_base.proofs.lemmas.text.Positions.{Solid-more, header_between_word, header_within_more, header_spoilt}
use Rattle.sat_base.proofs.lemmas.text.Words.{SpellsHeld_one, SpellsHeld_more, digits_stop, digits_wrong_in}
use Rattle.sat_base.proofs.lemmas.text.Places.{no_LF, after_word_in_header}

-- a word that begins with a byte other than a digit is not a number
spoilt_number : (d : ℕ) (w : List ℕ) → is_digit d ≡ false → (s : ℕ → HeaderStage) → (more : List ℕ) → stage_with_number s (digits 0 ((d ∷ w) ++ more)) ≡ None
spoilt_number d w e s more = ap (stage_with_number s) (digits_stop 0 d (w ++ more) e)

-- WORDS BEGIN
pub begun_c : IsInHeaderWordOfByte stage.Named 99 (Some header.C)
begun_c s e = rw e refl

pub begun_no_c : (b : ℕ) → nat_eq b 99 ≡ false → IsInHeaderWordOfByte stage.Named b None
begun_no_c b f s e more = rw (e, f) refl

pub begun_vars : (b : ℕ) → is_blank b ≡ false → is_digit b ≡ true → b < 256 → IsInHeaderWordOfByte stage.Format b (Some (header.Vars (b - 48)))
begun_vars b f d small s e = rw e (b, [], (f, tt), SpellsHeld_one b d small, refl)

pub begun_no_vars : (b : ℕ) → is_digit b ≡ false → IsInHeaderWordOfByte stage.Format b None
begun_no_vars b d s e more = rw e (spoilt_number b [] d Vars more)

pub begun_clauses : (vars b : ℕ) → is_blank b ≡ false → is_digit b ≡ true → b < 256 → IsInHeaderWordOfByte (stage.Vars vars) b (Some (header.Clauses vars (b - 48)))
begun_clauses vars b f d small s (v, h, e) = rw e (v, b, [], h, (f, tt), SpellsHeld_one b d small, refl)

pub begun_no_clauses : (vars b : ℕ) → is_digit b ≡ false → IsInHeaderWordOfByte (stage.Vars vars) b None
begun_no_clauses vars b d s (v, h, e) more = rw e (spoilt_number b [] d (Both v) more)

pub begun_after_both : (vars clauses b : ℕ) → IsInHeaderWordOfByte (stage.Both vars clauses) b None
begun_after_both vars clauses b s (v, c, h, k, e) more = rw e refl

-- WORDS CONTINUE
-- a byte that begins a word
pub between_moves : (ended : CodeStage) (b : ℕ) (o : Option HeaderPlace) → is_blank b ≡ false → IsInHeaderWordOfByte ended b o → MovesHeaderByByte (header.Between ended) b o
between_moves ended b None f began = λ spot i.
    let s = i.0 in
    let h = i.1 in
    rw i.2 (λ n rest. header_between_word s n b rest (no_LF b f) ∙ header_spoilt s b [] n rest (f, tt) (began s h))
between_moves ended b (Some place) f began = λ spot i.
    let s = i.0 in
    let h = i.1 in
    rw i.2 (HeaderWithin s b [], began s h, λ n rest. header_between_word s n b rest (no_LF b f))

-- a byte with which the word is not allowed
spoilt_by : (s : HeaderStage) (x : ℕ) (w : List ℕ) (b : ℕ) → HasNoBlank (x ∷ w) → is_blank b ≡ false → BeginsWrongHeaderWord s ((x ∷ w) ++ b ∷ []) → MovesPositionByByte (HeaderWithin s x w) b WrongHeader
spoilt_by s x w b solid f h n rest = header_within_more s x w n b rest (no_LF b f) ∙ header_spoilt s x (w ++ b ∷ []) n rest (Solid-more (x ∷ w) b solid f) h

goes_on_within : (s : HeaderStage) (x : ℕ) (w : List ℕ) (b : ℕ) → is_blank b ≡ false → MovesPositionByByte (HeaderWithin s x w) b (HeaderWithin s x (w ++ b ∷ []))
goes_on_within s x w b f n rest = header_within_more s x w n b rest (no_LF b f)

pub c_n : MovesHeaderByByte header.C 110 (Some header.Cn)
c_n spot e = rw e (HeaderWithin Named 99 (110 ∷ []), refl, goes_on_within Named 99 [] 110 refl)

pub c_no_n : (b : ℕ) → is_blank b ≡ false → nat_eq b 110 ≡ false → MovesHeaderByByte header.C b None
c_no_n b f g spot e = rw e (spoilt_by Named 99 [] b (refl, tt) f (λ more. rw g refl))

pub cn_f : MovesHeaderByByte header.Cn 102 (Some header.Cnf)
cn_f spot e = rw e (HeaderWithin Named 99 (110 ∷ 102 ∷ []), refl, goes_on_within Named 99 (110 ∷ []) 102 refl)

pub cn_no_f : (b : ℕ) → is_blank b ≡ false → nat_eq b 102 ≡ false → MovesHeaderByByte header.Cn b None
cn_no_f b f g spot e = rw e (spoilt_by Named 99 (110 ∷ []) b (refl, (refl, tt)) f (λ more. rw g refl))

pub p_more : (b : ℕ) → is_blank b ≡ false → MovesHeaderByByte header.P b None
p_more b f spot e = rw e (spoilt_by Begun 112 [] b (refl, tt) f (λ more. refl))

pub cnf_more : (b : ℕ) → is_blank b ≡ false → MovesHeaderByByte header.Cnf b None
cnf_more b f spot e = rw e (spoilt_by Named 99 (110 ∷ 102 ∷ []) b (refl, (refl, (refl, tt))) f (λ more. refl))

pub vars_digit : (value b : ℕ) → is_blank b ≡ false → is_digit b ≡ true → MovesHeaderByByte (header.Vars value) b (Some (header.Vars (with_digit value b)))
vars_digit value b f d spot (x, w, s, h, e) =
    rw e (HeaderWithin Format x (w ++ b ∷ []), (x, w ++ b ∷ [], Solid-more (x ∷ w) b s f, SpellsHeld_more (x ∷ w) value b h d, refl), goes_on_within Format x w b f)

pub vars_no_digit : (value b : ℕ) → is_blank b ≡ false → is_digit b ≡ false → MovesHeaderByByte (header.Vars value) b None
vars_no_digit value b f d spot (x, w, s, (m, h, k), e) =
    rw e (spoilt_by Format x w b s f (λ more. ap (stage_with_number Vars) (digits_wrong_in m b (x ∷ w) more h d)))

pub clauses_digit : (vars value b : ℕ) → is_blank b ≡ false → is_digit b ≡ true → MovesHeaderByByte (header.Clauses vars value) b (Some (header.Clauses vars (with_digit value b)))
clauses_digit vars value b f d spot (v, x, w, k, s, h, e) =
    rw e (HeaderWithin (Vars v) x (w ++ b ∷ []), (v, x, w ++ b ∷ [], k, Solid-more (x ∷ w) b s f, SpellsHeld_more (x ∷ w) value b h d, refl), goes_on_within (Vars v) x w b f)

pub clauses_no_digit : (vars value b : ℕ) → is_blank b ≡ false → is_digit b ≡ false → MovesHeaderByByte (header.Clauses vars value) b None
clauses_no_digit vars value b f d spot (v, x, w, k, s, (m, h, j), e) =
    rw e (spoilt_by (Vars v) x w b s f (λ more. ap (stage_with_number (Both v)) (digits_wrong_in m b (x ∷ w) more h d)))

-- WORDS END
pub ended_vars : (value : ℕ) (spot : Position) → RepresentsHeaderPosition (header.Vars value) spot → RepresentsStageOrNone (Some (stage.Vars value)) (stage_at_word_end spot)
ended_vars value spot (x, w, s, (m, h, k), e) = rw e (Vars m, (m, k, refl), ap (stage_with_number Vars) h)

pub ended_clauses : (vars value : ℕ) (spot : Position) → RepresentsHeaderPosition (header.Clauses vars value) spot → RepresentsStageOrNone (Some (stage.Both vars value)) (stage_at_word_end spot)
ended_clauses vars value spot (v, x, w, k, s, (m, h, j), e) = rw e (Both v m, (v, m, k, j, refl), ap (stage_with_number (Both v)) h)

abbrev pub EndsAs : HeaderPlace → Option CodeStage → Type 0
EndsAs place o = (spot : Position) → RepresentsHeaderPosition place spot → RepresentsStageOrNone o (stage_at_word_end spot)

-- the end of the line
in_hand_is : (p : HeaderPlace) (spot : Position) (n : ℕ) → RepresentsHeaderPosition p spot → unfinished_token spot n ≡ (n + 1, after_word (stage_at_word_end spot) token_of_stage) ∷ []
in_hand_is (header.Between ended) spot n (s, h, e) = rw e refl
in_hand_is (header.Vars value) spot n (x, w, s, h, e) = rw e refl
in_hand_is (header.Clauses vars value) spot n (v, x, w, k, s, h, e) = rw e refl
in_hand_is z spot n e = rw e refl

given_at_end : (p : HeaderPlace) (spot : Position) (t : Token) (given : CodeToken) → RepresentsHeaderPosition p spot → given ≡ capped_token t → after_word (stage_at_word_end spot) token_of_stage ≡ t → GivesCappedToken (Some given) (unfinished_token spot)
given_at_end p spot t given i h e = (t, h, λ n. in_hand_is p spot n i ∙ ap (λ (u : Token). (n + 1, u) ∷ []) e)

pub says_header : (p : HeaderPlace) (vars clauses : ℕ) → EndsAs p (Some (stage.Both vars clauses)) → CompletesAtLineEnd (Some (code.Header vars clauses)) (at.Header p)
says_header p vars clauses ends spot i =
    let h = ends spot i in
    let both = h.1 in
    given_at_end p spot (Header both.0 both.1) (code.Header vars clauses) i (rw (both.2, both.3) refl)
    (ap (λ (o : Option HeaderStage). after_word o token_of_stage) h.2 ∙ ap token_of_stage both.4)

pub after_spoilt : (p : HeaderPlace) → EndsAs p None → MovesPlaceByBlank (at.Header p) (at.Comment false)
after_spoilt p ends spot i = after_word_in_header p spot i ∙ ap position_after_word (ends spot i)

pub after_ended : (p : HeaderPlace) (ended : CodeStage) → EndsAs p (Some ended) → MovesPlaceByBlank (at.Header p) (at.Header (header.Between ended))
after_ended p ended ends spot i = let h = ends spot i in (h.0, h.1, after_word_in_header p spot i ∙ ap position_after_word h.2)
