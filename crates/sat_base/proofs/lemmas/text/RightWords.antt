-- Places from which a text can continue without a wrong word.
use Rattle.std.proofs.Common.{◌≡◌, ℕ, ◌+◌, ◌<◌, List, [], ◌∷◌, ◌++◌, Bool, true, false, Option, Some, None, refl, sym, ap, subst, ◌∙◌, arith}
use Rattle.sat_base.specs.declared.text.Place.{Place}
use Rattle.sat_base.specs.declared.text.Place.TheVariants as at
use Rattle.sat_base.specs.declared.text.header.HeaderPlace.{HeaderPlace}
use Rattle.sat_base.specs.declared.text.header.HeaderPlace.TheVariants as header
use Rattle.sat_base.specs.declared.text.header.Stage.{Stage as CodeStage}
use Rattle.sat_base.specs.declared.text.header.Stage.TheVariants as stage
use Rattle.sat_base.specs.declared.text.Token.{Token as CodeToken}
use Rattle.sat_base.specs.declared.text.Token.TheVariants as code
use Rattle.sat_base.specs.declared.text.Tokenizer.{Tokenizer}
use Rattle.sat_base.specs.text.Text.{is_blank, lines, tokens_on_line, tokens_of, Token, Wrong, Scan}
use Rattle.sat_base.specs.text.Position.{first_line, later_lines, HeaderStage, Named, Format, Position, Within, WrongHeader, HasNoBlank, remaining_scan, unfinished_token, wrong_word_token, token_ended_by_blank, position_after_blank}
use Rattle.sat_base.specs.text.WrongWords.{HaveNoWrongWord, HasValidContinuation, HasNoValidContinuation}
use Rattle.sat_base.specs.text.Tokenizing.{capped_token, BeginsWrongWord, RepresentsHeaderPosition, RepresentsPosition, MovesPlaceByByte, IsInHeaderWordOfByte, with_digit, GivesCappedToken, CompletesAtLineEnd, CompletesAtBlank, stage_at_word_end, MovesPlaceByBlank, IsBetweenWords, HasRemainingScan}
use Rattle.sat_base.proofs.lemmas.text.Positions.{first_word, blank_left, end_left, last_left_end}
use Rattle.sat_base.proofs.lemmas.text.Places.{IsSpot_of, moves_minus_digit, moves_digit, says_letter, says_number}
use Rattle.sat_base.proofs.lemmas.text.HeaderPlaces.{EndsAs, begun_c, begun_vars, begun_clauses, between_moves, c_n, cn_f, ended_vars, ended_clauses, says_header, after_ended}

-- `MayBeRight p` holds if a text can continue from this place without a wrong word.
abbrev MayBeRight : Place → Type 0
MayBeRight p = (spot : Position) → RepresentsPosition p spot → (n : ℕ) → HasValidContinuation (remaining_scan spot n)

-- `IsRight given` holds if the token is not wrong, or there is none.
abbrev IsRight : Option CodeToken → Type 0
IsRight None = Unit {0}
IsRight (Some t) = t ≡ code.Wrong → ⊥

right_in_hand : (given : Option CodeToken) (tokens : ℕ → List (ℕ × Token)) (n : ℕ) → GivesCappedToken given tokens → IsRight given → HaveNoWrongWord (tokens n)
right_in_hand None tokens n e r = rw (e n) tt
right_in_hand (Some t) tokens n g r = rw (g.2 n) ((λ e. r (g.1 ∙ ap capped_token e)), tt)

-- the text may end here
right_at_end : (p : Place) (given : Option CodeToken) → CompletesAtLineEnd given p → IsRight given → MayBeRight p
right_at_end p given says r spot i n =
    ([], subst HaveNoWrongWord (sym (ap (λ (s : Scan). s.tokens) (end_left spot n (IsSpot_of p spot i)))) (right_in_hand given (unfinished_token spot) n (says spot i) r))

-- a byte may follow
right_before : (p q : Place) (b : ℕ) → MovesPlaceByByte p b q → MayBeRight q → MayBeRight p
right_before p q b m r spot i n =
    let k = m spot i in
    let h = r k.0 k.1 n in
    (b ∷ h.0, subst (λ (s : Scan). HaveNoWrongWord s.tokens) (sym (k.2 n h.0)) h.1)

-- a space may follow
right_before_blank : (p q : Place) → MovesPlaceByBlank p q → CompletesAtBlank None p → MayBeRight q → MayBeRight p
right_before_blank p q leads says r spot i n =
    let h = r (position_after_blank spot) (leads spot i) n in
    (32 ∷ h.0, subst (λ (s : Scan). HaveNoWrongWord s.tokens) (sym (blank_left spot n 32 h.0 (IsSpot_of p spot i) refl refl)) (rw (says spot i n) h.1))

-- WORDS
letter_right : (b : ℕ) → MayBeRight (at.Letter b)
letter_right b = right_at_end (at.Letter b) (Some (code.Letter b)) (says_letter b) (λ e. cc)

number_right : (negative : Bool) (v : ℕ) → (negative ≡ true → 0 < v) → MayBeRight (at.Digits negative v)
number_right negative v z = right_at_end (at.Digits negative v) (Some (code.Number negative v)) (says_number negative v z) (λ e. cc)

-- a number with a minus sign may still get a digit that isn't 0
digits_right : (negative : Bool) (v : ℕ) → MayBeRight (at.Digits negative v)
digits_right false v = number_right false v (λ e. absurd (cc))
digits_right true v = right_before (at.Digits true v) (at.Digits true (with_digit v 49)) 49 (moves_digit true v 49 refl refl) (number_right true (with_digit v 49) (λ e. omega arith))

minus_right : MayBeRight at.Minus
minus_right = right_before at.Minus (at.Digits true 1) 49 (moves_minus_digit 49 refl refl (omega arith)) (number_right true 1 (λ e. omega arith))

-- HEADER LINES
ended_in_header : (p : HeaderPlace) (spot : Position) (n : ℕ) → RepresentsHeaderPosition p spot → token_ended_by_blank spot n ≡ wrong_word_token (stage_at_word_end spot) n
ended_in_header (header.Between ended) spot n (s, h, e) = rw e refl
ended_in_header (header.Vars value) spot n (x, w, s, h, e) = rw e refl
ended_in_header (header.Clauses vars value) spot n (v, x, w, k, s, h, e) = rw e refl
ended_in_header z spot n e = rw e refl

-- a space may end a word that is allowed there
right_before_space : (p : HeaderPlace) (ended : CodeStage) → EndsAs p (Some ended) → MayBeRight (at.Header (header.Between ended)) → MayBeRight (at.Header p)
right_before_space p ended ends = right_before_blank (at.Header p) (at.Header (header.Between ended)) (after_ended p ended ends)
    (λ spot i n. let h = ends spot i in ended_in_header p spot n i ∙ ap (λ (o : Option HeaderStage). wrong_word_token o n) h.2)

header_right : (p : HeaderPlace) (vars clauses : ℕ) → EndsAs p (Some (stage.Both vars clauses)) → MayBeRight (at.Header p)
header_right p vars clauses ends = right_at_end (at.Header p) (Some (code.Header vars clauses)) (says_header p vars clauses ends) (λ e. cc)

both_right : (vars clauses : ℕ) → MayBeRight (at.Header (header.Between (stage.Both vars clauses)))
both_right vars clauses = header_right (header.Between (stage.Both vars clauses)) vars clauses ends
  where
    ends : EndsAs (header.Between (stage.Both vars clauses)) (Some (stage.Both vars clauses))
    ends spot (s, h, e) = rw e (s, h, refl)

clauses_right : (vars value : ℕ) → MayBeRight (at.Header (header.Clauses vars value))
clauses_right vars value = header_right (header.Clauses vars value) vars value (ended_clauses vars value)

-- a byte that begins a word may follow
begun_right : (ended : CodeStage) (b : ℕ) (p : HeaderPlace) → is_blank b ≡ false → IsInHeaderWordOfByte ended b (Some p) → MayBeRight (at.Header p) → MayBeRight (at.Header (header.Between ended))
begun_right ended b p f began = right_before (at.Header (header.Between ended)) (at.Header p) b (between_moves ended b (Some p) f began)

after_vars_right : (vars : ℕ) → MayBeRight (at.Header (header.Between (stage.Vars vars)))
after_vars_right vars = begun_right (stage.Vars vars) 49 (header.Clauses vars 1) refl (begun_clauses vars 49 refl refl (omega arith)) (clauses_right vars 1)

vars_right : (value : ℕ) → MayBeRight (at.Header (header.Vars value))
vars_right value = right_before_space (header.Vars value) (stage.Vars value) (ended_vars value) (after_vars_right value)

after_format_right : MayBeRight (at.Header (header.Between stage.Format))
after_format_right = begun_right stage.Format 49 (header.Vars 1) refl (begun_vars 49 refl refl (omega arith)) (vars_right 1)

cnf_right : MayBeRight (at.Header header.Cnf)
cnf_right = right_before_space header.Cnf stage.Format (λ spot e. rw e (Format, refl, refl)) after_format_right

cn_right : MayBeRight (at.Header header.Cn)
cn_right = right_before (at.Header header.Cn) (at.Header header.Cnf) 102 cn_f cnf_right

c_right : MayBeRight (at.Header header.C)
c_right = right_before (at.Header header.C) (at.Header header.Cn) 110 c_n cn_right

after_p_right : MayBeRight (at.Header (header.Between stage.Named))
after_p_right = begun_right stage.Named 99 header.C refl begun_c c_right

p_right : MayBeRight (at.Header header.P)
p_right = right_before_space header.P stage.Named (λ spot e. rw e (Named, refl, refl)) after_p_right

after_stage_right : (ended : CodeStage) → MayBeRight (at.Header (header.Between ended))
after_stage_right stage.Named = after_p_right
after_stage_right stage.Format = after_format_right
after_stage_right (stage.Vars vars) = after_vars_right vars
after_stage_right (stage.Both vars clauses) = both_right vars clauses

in_header_right : (p : HeaderPlace) → MayBeRight (at.Header p)
in_header_right (header.Between ended) = after_stage_right ended
in_header_right header.P = p_right
in_header_right header.C = c_right
in_header_right header.Cn = cn_right
in_header_right header.Cnf = cnf_right
in_header_right (header.Vars value) = vars_right value
in_header_right (header.Clauses vars value) = clauses_right vars value

-- ALL PLACES
-- `IsWrongPlace place` holds if the place is in a wrong word, or in a header line after a wrong word.
abbrev IsWrongPlace : Place → Type 0
IsWrongPlace at.Bad = Unit {0}
IsWrongPlace at.WrongHeader = Unit {0}
IsWrongPlace place = ⊥

none_right : (p : Place) → CompletesAtLineEnd None p → MayBeRight p
none_right p says = right_at_end p None says tt

place_right : (p : Place) → (IsWrongPlace p → ⊥) → MayBeRight p
place_right at.Minus w = minus_right
place_right (at.Digits negative value) w = digits_right negative value
place_right (at.Letter b) w = letter_right b
place_right at.Bad w = absurd (w tt)
place_right (at.Header p) w = in_header_right p
place_right at.WrongHeader w = absurd (w tt)
place_right x w = none_right x (λ spot e. rw e (λ n. refl))

-- a text can continue without a wrong word from every place that is not in a wrong word or header line
pub right_ahead : (machine : Tokenizer) → (machine.place ≡ at.Bad → ⊥) → (machine.place ≡ at.WrongHeader → ⊥) → (before : List ℕ → Scan) → HasRemainingScan machine before → HasValidContinuation before
unfolding HasRemainingScan
right_ahead machine b s before (spot, n, i, l, e) =
    let h = place_right machine.place (apart machine.place b s) spot i n in
    (h.0, subst (λ (k : Scan). HaveNoWrongWord k.tokens) (sym (e h.0)) h.1)
  where
    apart : (p : Place) → (p ≡ at.Bad → ⊥) → (p ≡ at.WrongHeader → ⊥) → IsWrongPlace p → ⊥
    apart at.Bad b s w = b refl
    apart at.WrongHeader b s w = s refl
    apart p b s w = w

-- no word is unfinished
pub right_after : (machine : Tokenizer) → IsBetweenWords machine.place → (before : List ℕ → Scan) → HasRemainingScan machine before → HasValidContinuation before
right_after machine q = right_ahead machine (λ e. subst IsBetweenWords e q) (λ e. subst IsBetweenWords e q)

-- WRONG WORDS
-- if the unfinished word is wrong however it continues, the next token is wrong
word_wrong : (x : ℕ) (w : List ℕ) (n : ℕ) (rest : List ℕ) → HasNoBlank (x ∷ w) → BeginsWrongWord (x ∷ w) → (more : List (ℕ × Token)) × ((remaining_scan (Within x w) n rest).tokens ≡ (n + 1, Wrong) ∷ more)
unfolding remaining_scan
word_wrong x w n rest s h =
    let ls = lines rest in
    let f = first_word x w (first_line ls) s in
    let more = tokens_on_line (n + 1) f.1 ++ tokens_of false (n + 1) (later_lines ls) in
    (more, ap (λ (ws : List (List ℕ)). tokens_on_line (n + 1) ws ++ tokens_of false (n + 1) (later_lines ls)) f.2 ∙ ap (λ (t : Token). (n + 1, t) ∷ more) (h f.0))

line_wrong : (n : ℕ) (rest : List ℕ) → (more : List (ℕ × Token)) × ((remaining_scan WrongHeader n rest).tokens ≡ (n + 1, Wrong) ∷ more)
unfolding remaining_scan
line_wrong n rest = (tokens_of false (n + 1) (later_lines (lines rest)), refl)

-- on the line of the last byte
on_last : (before : List ℕ → Scan) (spot : Position) (n : ℕ) → ((rest : List ℕ) → before rest ≡ remaining_scan spot n rest) → (remaining_scan spot n []).last ≡ n + 1
    → ((rest : List ℕ) → (more : List (ℕ × Token)) × ((remaining_scan spot n rest).tokens ≡ (n + 1, Wrong) ∷ more)) → HasNoValidContinuation before
on_last before spot n e l h rest =
    let k = h rest in
    let last : n + 1 ≡ (before []).last = sym (ap (λ (s : Scan). s.last) (e []) ∙ l) in
    (k.0, ap (λ (s : Scan). s.tokens) (e rest) ∙ k.1 ∙ ap (λ (m : ℕ). (m, Wrong) ∷ k.0) last)

pub wrong_word : (machine : Tokenizer) → machine.place ≡ at.Bad → (before : List ℕ → Scan) → HasRemainingScan machine before → HasNoValidContinuation before
unfolding HasRemainingScan
wrong_word machine p before (spot, n, i, l, e) = let j : RepresentsPosition at.Bad spot = rw p at i in of_word spot n e j
  where
    of_word : (spot : Position) (n : ℕ) → ((rest : List ℕ) → before rest ≡ remaining_scan spot n rest) → RepresentsPosition at.Bad spot → HasNoValidContinuation before
    of_word spot n e (x, w, s, h, f) =
        let g : (rest : List ℕ) → before rest ≡ remaining_scan (Within x w) n rest = λ rest. e rest ∙ ap (λ (k : Position). remaining_scan k n rest) f in
        on_last before (Within x w) n g (last_left_end (Within x w) n s) (λ rest. word_wrong x w n rest s h)

pub wrong_line : (machine : Tokenizer) → machine.place ≡ at.WrongHeader → (before : List ℕ → Scan) → HasRemainingScan machine before → HasNoValidContinuation before
unfolding HasRemainingScan
wrong_line machine p before (spot, n, i, l, e) =
    let j : spot ≡ WrongHeader = rw p at i in
    let g : (rest : List ℕ) → before rest ≡ remaining_scan WrongHeader n rest = λ rest. e rest ∙ ap (λ (k : Position). remaining_scan k n rest) j in
    on_last before WrongHeader n g (last_left_end WrongHeader n tt) (line_wrong n)
