-- The effect of bytes on a tokenizer.
use Rattle.std.proofs.Common.{◌≡◌, ℕ, ◌+◌, ◌-◌, ◌^◌, ◌⊎◌, inl, inr, List, [], ◌∷◌, Bool, true, false, min, Option, Some, None, refl, sym, ap, ◌∙◌, ◌≤◌, arith}
use Rattle.std.specs.Prelude.{nat_eq}
use Rattle.sat_base.specs.declared.text.Place.{Place}
use Rattle.sat_base.specs.declared.text.Place.TheVariants as at
use Rattle.sat_base.specs.declared.text.header.HeaderPlace.TheVariants as header
use Rattle.sat_base.specs.declared.text.Token.{Token as CodeToken}
use Rattle.sat_base.specs.declared.text.Tokenizer.{Tokenizer}
use Rattle.sat_base.specs.text.Text.{is_blank, Token, Scan, scan}
use Rattle.sat_base.specs.text.Position.{HeaderStage, Begun, token_of_stage, Position, Fresh, Over, IsValidPosition, remaining_scan, unfinished_token, position_after_LF, lines_after, position_after_blank, token_ended_by_blank, line_of_last_byte, prepend_tokens}
use Rattle.sat_base.specs.text.Chunks.{IgnoresRest}
use Rattle.sat_base.specs.text.Tokenizing.{capped, RepresentsPosition, MovesPlaceByByte, place_allows_header, GivesCappedToken, CompletesAtLineEnd, CompletesAtBlank, MovesPlaceByBlank, HasRemainingScan, GivesTokenAtByte, ReceivesByte, IsBetweenWords, IsHeaderOrWrong, HasNoNumberOrLetter, GivesTokenAtEnd}
use Rattle.sat_base.proofs.lemmas.text.Positions.{start, LF_left, blank_left, end_left, last_left_end, over_more}
use Rattle.sat_base.proofs.lemmas.text.Places.{IsSpot_of, line-Fresh, line-other, line-in_hand, line-following_blank, below, held_next}

abbrev pub standing : Place → ℕ → Tokenizer
standing place lines = record { place = place; lines = lines }

pub stands_first : HasRemainingScan (standing (at.Fresh true) 0) scan
unfolding HasRemainingScan
stands_first = (Fresh true, 0, refl, refl, start)

-- a completed token precedes what is left
gives : (given : Option CodeToken) (tokens : ℕ → List (ℕ × Token)) (n b : ℕ) (before after : List ℕ → Scan) → GivesCappedToken given tokens → (after []).last ≡ n + 1
    → ((rest : List ℕ) → before (b ∷ rest) ≡ prepend_tokens (tokens n) (after rest)) → GivesTokenAtByte given b before after
gives None tokens n b before after s l h = λ rest. h rest ∙ ap (λ (ts : List (ℕ × Token)). prepend_tokens ts (after rest)) (s n)
gives (Some t) tokens n b before after s l h =
    (s.0, s.1, λ rest. h rest ∙ ap (λ (ts : List (ℕ × Token)). prepend_tokens ts (after rest)) (s.2 n) ∙ ap (λ (k : ℕ). prepend_tokens ((k, s.0) ∷ []) (after rest)) (sym l))

pub takes_byte : (old : Tokenizer) (b : ℕ) (place : Place) → MovesPlaceByByte old.place b place → ReceivesByte old b None (standing place old.lines)
unfolding HasRemainingScan
takes_byte old b place m before (spot, n, i, h, e) =
    let k = m spot i in
    (remaining_scan k.0 n, (k.0, n, k.1, h, λ rest. refl), λ rest. e (b ∷ rest) ∙ k.2 n rest)

-- LF
fresh_below : (p : Place) (spot : Position) → (p ≡ at.Over → ⊥) → RepresentsPosition p spot → position_after_LF spot ≡ Fresh (place_allows_header p)
fresh_below p spot h i = below p h spot i

lines_below : (spot : Position) (n : ℕ) (may : Bool) → position_after_LF spot ≡ Fresh may → lines_after spot n ≡ n + 1
lines_below Over n may e = absurd (cc)
lines_below x n may e = refl

pub takes_LF : (old : Tokenizer) (given : Option CodeToken) (k : ℕ) → (old.place ≡ at.Over → ⊥) → CompletesAtLineEnd given old.place → k ≡ min (old.lines + 1) (2 ^ 64 - 1)
    → ReceivesByte old 10 given (standing (at.Fresh (place_allows_header old.place)) k)
unfolding HasRemainingScan
takes_LF old given k h says e before (spot, n, i, l, f) =
    let may = place_allows_header old.place in
    let fresh = fresh_below old.place spot h i in
    let more = lines_below spot n may fresh in
    let after = remaining_scan (Fresh may) (n + 1) in (
      after,
      (Fresh may, n + 1, refl, held_next old.lines n k l e, λ rest. refl),
      gives given (unfinished_token spot) n 10 before after (says spot i) (last_left_end (Fresh may) (n + 1) tt)
          (λ rest. f (10 ∷ rest) ∙ LF_left spot n rest (IsSpot_of old.place spot i) ∙ ap (λ (s : Position). prepend_tokens (unfinished_token spot n) (remaining_scan s (lines_after spot n) rest)) fresh ∙ ap (λ (m : ℕ). prepend_tokens (unfinished_token spot n) (remaining_scan (Fresh may) m rest)) more),
    )

-- after `%`, LF has no effect
pub over_LF : (old : Tokenizer) → old.place ≡ at.Over → ReceivesByte old 10 None old
unfolding HasRemainingScan
over_LF old e before (spot, n, i, l, f) =
    let j : spot ≡ Over = rw e at i in
    (remaining_scan spot n, (spot, n, i, l, λ rest. refl), λ rest. f (10 ∷ rest) ∙ ap (λ (s : Position). remaining_scan s n (10 ∷ rest)) j ∙ over_more n 10 rest ∙ ap (λ (s : Position). remaining_scan s n rest) (sym j))

pub takes_blank : (old : Tokenizer) (b : ℕ) (given : Option CodeToken) (place : Place) → CompletesAtBlank given old.place → MovesPlaceByBlank old.place place → nat_eq b 10 ≡ false → is_blank b ≡ true
    → ReceivesByte old b given (standing place old.lines)
unfolding HasRemainingScan
takes_blank old b given place says leads e f before (spot, n, i, l, h) =
    let next = position_after_blank spot in
    let good = IsSpot_of old.place spot i in
    let last : (remaining_scan next n []).last ≡ n + 1 = last_left_end next n (IsSpot_of place next (leads spot i)) ∙ line-following_blank spot n in (
      remaining_scan next n,
      (next, n, leads spot i, l, λ rest. refl),
      gives given (token_ended_by_blank spot) n b before (remaining_scan next n) (says spot i) last (λ rest. h (b ∷ rest) ∙ blank_left spot n b rest good e f),
    )

-- NO UNFINISHED WORD
-- if the text ends here, only the unfinished token is left
left_in_hand : (machine : Tokenizer) (spot : Position) (n : ℕ) (before : List ℕ → Scan) → RepresentsPosition machine.place spot → ((rest : List ℕ) → before rest ≡ remaining_scan spot n rest)
    → (before []).tokens ≡ unfinished_token spot n
left_in_hand machine spot n before i e = ap (λ (s : Scan). s.tokens) (e [] ∙ end_left spot n (IsSpot_of machine.place spot i))

pub none_fresh : (machine : Tokenizer) (may : Bool) → machine.place ≡ at.Fresh may → (before : List ℕ → Scan) → HasRemainingScan machine before → (before []).tokens ≡ []
unfolding HasRemainingScan
none_fresh machine may e before (spot, n, i, l, f) =
    let j : spot ≡ Fresh may = rw e at i in
    left_in_hand machine spot n before i f ∙ ap (λ (s : Position). unfinished_token s n) j

pub none_over : (machine : Tokenizer) → machine.place ≡ at.Over → (before : List ℕ → Scan) → HasRemainingScan machine before → (before []).tokens ≡ []
unfolding HasRemainingScan
none_over machine e before (spot, n, i, l, f) =
    let j : spot ≡ Over = rw e at i in
    left_in_hand machine spot n before i f ∙ ap (λ (s : Position). unfinished_token s n) j

abbrev pub QuietTokens : List (ℕ × Token) → Type 0
QuietTokens ts = (ts ≡ []) ⊎ ((line : ℕ) × (t : Token) × IsHeaderOrWrong t × (ts ≡ (line, t) ∷ []))

pub of_header : (s : HeaderStage) → IsHeaderOrWrong (token_of_stage s)
of_header Begun = tt
of_header e = tt

quiet_at : (p : Place) (spot : Position) (n : ℕ) → IsBetweenWords p → RepresentsPosition p spot → QuietTokens (unfinished_token spot n)
quiet_at (at.Leading may) spot n q e = rw e (inl refl)
quiet_at (at.Comment may) spot n q e = rw e (inl refl)
quiet_at at.Between spot n q e = rw e (inl refl)
quiet_at (at.Header (header.Between ended)) spot n q (s, h, e) = rw e (inr (n + 1, token_of_stage s, of_header s, refl))
quiet_at at.Over spot n q e = rw e (inl refl)
quiet_at x spot n q e = absurd q

pub quiet_after : (machine : Tokenizer) → IsBetweenWords machine.place → (before : List ℕ → Scan) → HasRemainingScan machine before → HasNoNumberOrLetter (before [])
unfolding HasRemainingScan
quiet_after machine q before (spot, n, i, l, f) = rw (left_in_hand machine spot n before i f) (quiet_at machine.place spot n q i)

gives_last : (given : Option CodeToken) (spot : Position) (n : ℕ) (rest : Scan) → GivesCappedToken given (unfinished_token spot) → rest ≡ record { tokens = unfinished_token spot n; last = line_of_last_byte spot n } → GivesTokenAtEnd given rest
gives_last None spot n rest s h = ap (λ (r : Scan). r.tokens) h ∙ s n
gives_last (Some t) spot n rest s h =
    let last : rest.last ≡ n + 1 = ap (λ (r : Scan). r.last) h ∙ line-in_hand spot n (n + 1, s.0) (s.2 n) in
    (s.0, s.1, ap (λ (r : Scan). r.tokens) h ∙ s.2 n ∙ ap (λ (k : ℕ). (k, s.0) ∷ []) (sym last))

pub ended : (machine : Tokenizer) (given : Option CodeToken) → CompletesAtLineEnd given machine.place → (before : List ℕ → Scan) → HasRemainingScan machine before → GivesTokenAtEnd given (before [])
unfolding HasRemainingScan
ended machine given says before (spot, n, i, l, f) = gives_last given spot n (before []) (says spot i) (f [] ∙ end_left spot n (IsSpot_of machine.place spot i))

line_is : (machine : Tokenizer) (before : List ℕ → Scan) (spot : Position) (n : ℕ) → RepresentsPosition machine.place spot → ((rest : List ℕ) → before rest ≡ remaining_scan spot n rest) → (before []).last ≡ line_of_last_byte spot n
line_is machine before spot n i h = ap (λ (r : Scan). r.last) (h []) ∙ last_left_end spot n (IsSpot_of machine.place spot i)

pub line_fresh : (machine : Tokenizer) (may : Bool) → machine.place ≡ at.Fresh may → (before : List ℕ → Scan) → HasRemainingScan machine before → machine.lines ≡ capped (before []).last
unfolding HasRemainingScan
line_fresh machine may e before (spot, n, i, l, f) = l ∙ ap capped (sym (line_is machine before spot n i f ∙ line-Fresh machine.place may spot n e i))

pub line_other : (machine : Tokenizer) (k : ℕ) → ((may : Bool) → machine.place ≡ at.Fresh may → ⊥) → k ≡ min (machine.lines + 1) (2 ^ 64 - 1) → (before : List ℕ → Scan) → HasRemainingScan machine before → k ≡ capped (before []).last
unfolding HasRemainingScan
line_other machine k o e before (spot, n, i, l, f) = held_next machine.lines n k l e ∙ ap capped (sym (line_is machine before spot n i f ∙ line-other machine.place spot n o i))

-- AFTER A LINE THAT ENDS THE TEXT
over_left : (n : ℕ) (rest : List ℕ) → remaining_scan Over n rest ≡ remaining_scan Over n []
unfolding remaining_scan
over_left n rest = refl

pub over_ignores : (machine : Tokenizer) → machine.place ≡ at.Over → (before : List ℕ → Scan) → HasRemainingScan machine before → IgnoresRest before
unfolding HasRemainingScan
over_ignores machine e before (spot, n, i, l, f) rest =
    let j : spot ≡ Over = rw e at i in
    f rest ∙ ap (λ (s : Position). remaining_scan s n rest) j ∙ over_left n rest ∙ ap (λ (s : Position). remaining_scan s n []) (sym j) ∙ sym (f [])

-- at any other place, the bytes that follow are not ignored: two LFs change the number of the last line
line_most : (spot : Position) (n : ℕ) → line_of_last_byte spot n ≤ n + 1
line_most (Fresh may) n = omega arith
line_most x n = omega arith

below_once : (spot next : Position) (n m : ℕ) (rest : List ℕ) → IsValidPosition spot → position_after_LF spot ≡ next → lines_after spot n ≡ m → (remaining_scan spot n (10 ∷ rest)).last ≡ (remaining_scan next m rest).last
below_once spot next n m rest s e f = ap (λ (r : Scan). r.last) (LF_left spot n rest s) ∙ ap (λ (k : Position). (remaining_scan k (lines_after spot n) rest).last) e ∙ ap (λ (k : ℕ). (remaining_scan next k rest).last) f

below_twice : (p : Place) (spot : Position) (n : ℕ) → (p ≡ at.Over → ⊥) → RepresentsPosition p spot → (remaining_scan spot n (10 ∷ 10 ∷ [])).last ≡ n + 1 + 1
below_twice p spot n o i =
    let may = place_allows_header p in
    let fresh = fresh_below p spot o i in
    below_once spot (Fresh may) n (n + 1) (10 ∷ []) (IsSpot_of p spot i) fresh (lines_below spot n may fresh)
    ∙ below_once (Fresh may) (Fresh may) (n + 1) (n + 1 + 1) [] tt refl refl
    ∙ last_left_end (Fresh may) (n + 1 + 1) tt

below_line : (n k : ℕ) → n + 1 + 1 ≡ k → k ≤ n + 1 → ⊥
below_line n k e h = absurd (omega arith)

pub open_looks : (machine : Tokenizer) → (machine.place ≡ at.Over → ⊥) → (before : List ℕ → Scan) → HasRemainingScan machine before → IgnoresRest before → ⊥
unfolding HasRemainingScan
open_looks machine o before (spot, n, i, l, f) same =
    let lines = 10 ∷ 10 ∷ [] in
    let e : n + 1 + 1 ≡ line_of_last_byte spot n =
    sym (below_twice machine.place spot n o i) ∙ ap (λ (r : Scan). r.last) (sym (f lines) ∙ same lines ∙ f []) ∙ last_left_end spot n (IsSpot_of machine.place spot i) in
    let most : line_of_last_byte spot n ≤ n + 1 = line_most spot n in
    below_line n (line_of_last_byte spot n) e most

-- if a token is unfinished, the bytes that follow are not ignored
pub given_goes_on : (machine : Tokenizer) (before : List ℕ → Scan) → HasRemainingScan machine before → ((before []).tokens ≡ [] → ⊥) → IgnoresRest before → ⊥
given_goes_on machine before s some = open_looks machine (λ e. some (none_over machine e before s)) before s
