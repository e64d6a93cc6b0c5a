-- When a script is decided.
use Rattle.std.proofs.Common.{◌≡◌, ◌⊎◌, ℕ, ◌+◌, ◌<◌, ◌≤◌, List, [], ◌∷◌, ◌++◌, Bool, true, false, Option, Some, None, refl, sym, ap, subst, ◌∙◌, append_assoc, length, length-append, arith, inl, inr}
use Rattle.std.proofs.lemmas.Bool.Decides.{nat_tests}
use Rattle.std.proofs.lemmas.List.{append-nil}
use Rattle.std.specs.List.{AllByRecursion}
use Rattle.std.specs.Prelude.{nat_eq, nat_lt, codes, ◌&&◌}
use Rattle.sat_base.specs.declared.text.Tokenizer.{Tokenizer}
use Rattle.sat_base.specs.device.Device.{max_read_size}
use Rattle.sat_base.specs.script.Language.{PartialCommand, NoCommand, InCommand, commands_of, without_lines}
use Rattle.sat_base.specs.script.Script.{ScriptEnding, Clean, Malformed}
use Rattle.sat_base.specs.text.Position.{first_line, later_lines, HeaderStage, Begun, Named, Format, Vars, Both, Position, Fresh, Leading, Comment, Between, Within, HeaderBetween, HeaderWithin, WrongHeader, Over, IsValidPosition, HasNoBlank, remaining_scan, stage_after, stage_token, after_word}
use Rattle.sat_base.specs.text.Text.{Token, Number, Wrong, Scan, HasEnded, scan, tokens, token, digits, is_digit, is_letter, letter_token, negative_token, unsigned_token, same_bytes, lines, words, tokens_of, tokens_on_line, first_nonblank_is}
use Rattle.sat_base.specs.text.Tokenizing.{HasRemainingScan}
use Rattle.sat_base.specs.text.WrongWords.{HaveNoWrongWord, HasValidContinuation}
use Rattle.sat_base.proofs.lemmas.dimacs.ReadToEnd.{none_has_ended}
use Rattle.sat_base.proofs.lemmas.text.Headers.{stage_cons}
use Rattle.sat_base.proofs.lemmas.text.Places.{IsSpot_of}
use Rattle.sat_base.proofs.lemmas.text.Positions.{Solid-more, first_word}
use Rattle.certify.specs.script.Decided.{AreMalformed, IsMalformedSoFar, IsDecided, IsDecidedInLastPiece}

-- A BYTE THAT NO WORD CAN HAVE

-- the byte `!`
abbrev mark : ℕ
mark = 33

-- it's in no number
digits_marked_if : (n d : ℕ) (ds more : List ℕ) (b : Bool) → is_digit d ≡ b → ((m : ℕ) → digits m (ds ++ mark ∷ more) ≡ None) → digits n ((d ∷ ds) ++ mark ∷ more) ≡ None
unfolding digits
digits_marked_if n d ds more true e h = rw e (h _)
digits_marked_if n d ds more false e h = rw e refl

digits_marked : (n : ℕ) (ds more : List ℕ) → digits n (ds ++ mark ∷ more) ≡ None
unfolding digits
digits_marked n [] more = refl
digits_marked n (d ∷ ds) more = digits_marked_if n d ds more (is_digit d) refl (λ m. digits_marked m ds more)

letter_marked : (x : ℕ) (w more : List ℕ) → letter_token x (w ++ mark ∷ more) ≡ Wrong
letter_marked x [] more = refl
letter_marked x (y ∷ w) more = refl

-- a word that has it is wrong
token_marked : (x : ℕ) (w more : List ℕ) → token (x ∷ (w ++ mark ∷ more)) ≡ Wrong
unfolding token
token_marked x w more = by_sign (nat_eq x 45) refl
  where
    negative : (w : List ℕ) → nat_eq x 45 ≡ true → token (x ∷ (w ++ mark ∷ more)) ≡ Wrong
    negative [] e = rw e (ap negative_token (digits_marked 0 [] more))
    negative (d ∷ w) e = rw e (ap negative_token (digits_marked 0 (d ∷ w) more))

    by_letter : (b : Bool) → nat_eq x 45 ≡ false → is_letter x ≡ b → token (x ∷ (w ++ mark ∷ more)) ≡ Wrong
    by_letter true e f = rw (e, f) (letter_marked x w more)
    by_letter false e f = rw (e, f) (ap unsigned_token (digits_marked 0 (x ∷ w) more))

    by_sign : (b : Bool) → nat_eq x 45 ≡ b → token (x ∷ (w ++ mark ∷ more)) ≡ Wrong
    by_sign true e = negative w e
    by_sign false e = by_letter (is_letter x) e refl

-- `HasNoMark bytes` holds if none of the bytes is `!`.
abbrev HasNoMark : List ℕ → Type 0
HasNoMark [] = Unit {0}
HasNoMark (b ∷ bs) = (nat_eq mark b ≡ false) × HasNoMark bs

and_false : (b : Bool) → (b && false) ≡ false
and_false true = refl
and_false false = refl

same_marked : (w more cs : List ℕ) → HasNoMark cs → same_bytes (w ++ mark ∷ more) cs ≡ false
same_marked [] more [] h = refl
same_marked [] more (c ∷ cs) h = rw h.0 refl
same_marked (b ∷ w) more [] h = refl
same_marked (b ∷ w) more (c ∷ cs) h = ap (λ (k : Bool). nat_eq b c && k) (same_marked w more cs h.1) ∙ and_false (nat_eq b c)

-- no word of a header has it
stage_marked : (stage : HeaderStage) (w more : List ℕ) → stage_after stage (w ++ mark ∷ more) ≡ None
stage_marked Begun w more = rw (same_marked w more (codes "p") (refl, tt)) refl
stage_marked Named w more = rw (same_marked w more (codes "cnf") (refl, (refl, (refl, tt)))) refl
stage_marked Format w more = rw (digits_marked 0 w more) refl
stage_marked (Vars v) w more = rw (digits_marked 0 w more) refl
stage_marked (Both v c) w more = refl

stage_token_marked : (stage : HeaderStage) (w more : List ℕ) (ws : List (List ℕ)) → stage_token stage ((w ++ mark ∷ more) ∷ ws) ≡ Wrong
stage_token_marked stage w more ws = stage_cons stage (w ++ mark ∷ more) ws ∙ ap (λ (o : Option HeaderStage). after_word o (λ s. stage_token s ws)) (stage_marked stage w more)

-- the first word of a marked word
marked_word : (x : ℕ) (w : List ℕ) → HasNoBlank (x ∷ w) → (more : List ℕ) × (ws : List (List ℕ)) × (words ((x ∷ w) ++ mark ∷ []) ≡ (x ∷ (w ++ mark ∷ more)) ∷ ws)
marked_word x w s =
    let h = first_word x (w ++ mark ∷ []) [] (s.0, Solid-more w mark s.1 refl) in
    (h.0, h.1, ap words (sym (append-nil ((x ∷ w) ++ mark ∷ []))) ∙ h.2 ∙ ap (λ (v : List ℕ). (x ∷ v) ∷ h.1) (append_assoc w (mark ∷ []) h.0))

-- `BeginsWrongly ts` holds if there are no tokens, or the first is wrong.
abbrev pub BeginsWrongly : List (ℕ × Token) → Type 0
BeginsWrongly [] = Unit {0}
BeginsWrongly (t ∷ ts) = t.1 ≡ Wrong

-- from no position does a right token begin with `!`
spot_marked : (spot : Position) (n : ℕ) → IsValidPosition spot → BeginsWrongly (remaining_scan spot n (mark ∷ [])).tokens
unfolding remaining_scan lines words tokens_of token digits first_nonblank_is stage_token
spot_marked (Fresh true) n h = refl
spot_marked (Fresh false) n h = refl
spot_marked (Leading true) n h = refl
spot_marked (Leading false) n h = refl
spot_marked (Comment may) n h = tt
spot_marked Between n h = refl
spot_marked (Within x w) n h =
    let k = marked_word x w h in
    rw k.2 (token_marked x w k.0)
spot_marked (HeaderBetween stage) n h = stage_token_marked stage [] [] []
spot_marked (HeaderWithin stage x w) n h =
    let k = marked_word x w h in
    rw k.2 (stage_token_marked stage (x ∷ w) k.0 k.1)
spot_marked WrongHeader n h = refl
spot_marked Over n h = tt

-- nor from any state of a tokenizer
marked : (machine : Tokenizer) (left_of : List ℕ → Scan) → HasRemainingScan machine left_of → BeginsWrongly (left_of (mark ∷ [])).tokens
unfolding HasRemainingScan
marked machine left_of (spot, n, i, l, e) = subst (λ (s : Scan). BeginsWrongly s.tokens) (sym (e (mark ∷ []))) (spot_marked spot n (IsSpot_of machine.place spot i))

-- TOKENS THAT ALL CONTINUATIONS HAVE

-- a list of which two longer lists with a common first part are known
common : (ts before more left : List (ℕ × Token)) (more' left' : List (ℕ × Token)) → before ++ left ≡ ts ++ more → before ++ left' ≡ ts ++ more' → HaveNoWrongWord left → BeginsWrongly left' → (d : List (ℕ × Token)) × (before ≡ ts ++ d)
common [] before more left more' left' e f h w = (before, refl)
common (t ∷ ts) [] more [] more' left' e f h w = absurd (cc)
common (t ∷ ts) [] more (x ∷ left) more' [] e f h w = absurd (cc)
common (t ∷ ts) [] more (x ∷ left) more' (y ∷ left') e f h w = let same : x ≡ y = cc in absurd (h.0 (ap (λ (z : ℕ × Token). z.1) same ∙ w))
common (t ∷ ts) (b ∷ before) more left more' left' e f h w =
    let head : b ≡ t = cc in
    let first : before ++ left ≡ ts ++ more = cc in
    let second : before ++ left' ≡ ts ++ more' = cc in
    let k = common ts before more left more' left' first second h w in
    (k.0, grow b t before (ts ++ k.0) head k.1)
  where
    grow : (a c : ℕ × Token) (us vs : List (ℕ × Token)) → a ≡ c → us ≡ vs → a ∷ us ≡ c ∷ vs
    grow a c us vs p q = cc

-- the token of a zero
abbrev zero_token : Token
zero_token = Number false 0

ends_clean : (hand : PartialCommand) → (commands_of hand (zero_token ∷ [])).1 ≡ Clean
unfolding commands_of
ends_clean NoCommand = refl
ends_clean (InCommand kind ls) = refl

pub without_append : (us vs : List (ℕ × Token)) → without_lines (us ++ vs) ≡ without_lines us ++ without_lines vs
without_append [] vs = refl
without_append (u ∷ us) vs = ap (λ (ts : List Token). u.1 ∷ ts) (without_append us vs)

-- `MeansHand before hand` holds if, after these tokens, a script ends as the unfinished command `hand` and the later
-- tokens do.
abbrev pub MeansHand : List (ℕ × Token) → PartialCommand → Type 0
MeansHand before hand = (ts : List Token) → (commands_of NoCommand (without_lines before ++ ts)).1 ≡ (commands_of hand ts).1

-- after valid tokens, a zero gives a script that is not malformed
valid_tokens : (before ts d : List (ℕ × Token)) (hand : PartialCommand) → MeansHand before hand → before ≡ ts ++ d → AreMalformed (without_lines ts) → ⊥
valid_tokens before ts d hand means e bad =
    let zero_next : List Token = zero_token ∷ [] in
    let whole : without_lines before ++ zero_next ≡ without_lines ts ++ (without_lines d ++ zero_next) =
    ap (λ (z : List (ℕ × Token)). without_lines z ++ zero_next) e ∙ ap (λ (z : List Token). z ++ zero_next) (without_append ts d) ∙ append_assoc (without_lines ts) (without_lines d) zero_next in
    let clean : (commands_of NoCommand (without_lines before ++ zero_next)).1 ≡ Clean = means zero_next ∙ ends_clean hand in
    let malformed : (commands_of NoCommand (without_lines before ++ zero_next)).1 ≡ Malformed = ap (λ (z : List Token). (commands_of NoCommand z).1) whole ∙ bad (without_lines d ++ zero_next) in
    let both : ◌≡◌ {A = ScriptEnding} Clean Malformed = sym clean ∙ malformed in
    cc

-- a text whose tokens are valid so far, and which can continue so, is not malformed
pub valid_so_far : (machine : Tokenizer) (text : List ℕ) (before : List (ℕ × Token)) (left_of : List ℕ → Scan) (hand : PartialCommand) → HasRemainingScan machine left_of → ((rest : List ℕ) → tokens (text ++ rest) ≡ before ++ (left_of rest).tokens)
    → MeansHand before hand → HasValidContinuation left_of → IsMalformedSoFar text → ⊥
valid_so_far machine text before left_of hand valid scans means right (ts, all, bad) =
    let good = all right.0 in
    let wrong = all (mark ∷ []) in
    let k = common ts before good.0 (left_of right.0).tokens wrong.0 (left_of (mark ∷ [])).tokens (sym (scans right.0) ∙ good.1) (sym (scans (mark ∷ [])) ∙ wrong.1) right.1 (marked machine left_of valid) in
    valid_tokens before ts k.0 hand means k.1 bad

-- DECIDED TEXTS

ended_longer : (front more : List ℕ) → HasEnded front → HasEnded (front ++ more)
ended_longer front more h rest = ap scan (append_assoc front more rest) ∙ h (more ++ rest) ∙ sym (h more)

malformed_longer : (front more : List ℕ) → IsMalformedSoFar front → IsMalformedSoFar (front ++ more)
malformed_longer front more (ts, all, bad) = (ts, λ rest. let h = all (more ++ rest) in (h.0, ap tokens (append_assoc front more rest) ∙ h.1), bad)

-- whatever is decided stays so
pub decided_longer : (front more : List ℕ) → IsDecided front → IsDecided (front ++ more)
decided_longer front more (inl ended) = inl (ended_longer front more ended)
decided_longer front more (inr bad) = inr (malformed_longer front more bad)

prefix_of : (front rest text piece : List ℕ) → text ++ piece ≡ front ++ rest → length front ≤ length text → (mid : List ℕ) × (text ≡ front ++ mid)
prefix_of [] rest text piece e h = (text, refl)
prefix_of (x ∷ xs) rest [] piece e h = absurd (omega arith)
prefix_of (x ∷ xs) rest (y ∷ ys) piece e h =
    let t : ys ++ piece ≡ xs ++ rest = cc in
    let same : y ≡ x = cc in
    let m = prefix_of xs rest ys piece t (omega arith) in
    (m.0, grow x y ys (xs ++ m.0) same m.1)
  where
    grow : (a b : ℕ) (us vs : List ℕ) → b ≡ a → us ≡ vs → b ∷ us ≡ a ∷ vs
    grow a b us vs f g = cc

-- a piece after a text that is not decided
pub decided_after : (text piece : List ℕ) → (IsDecided text → ⊥) → length piece ≤ max_read_size → IsDecidedInLastPiece (text ++ piece)
decided_after text piece going h front rest e decided = go (nat_lt (length rest) max_read_size) refl
  where
    go : (b : Bool) → nat_lt (length rest) max_read_size ≡ b → length rest < max_read_size
    go true t = grind (arith, nat_tests)
    go false t =
        let far : max_read_size ≤ length rest = grind (arith, nat_tests) in
        let l : length (text ++ piece) ≡ length (front ++ rest) = ap length e in
        let a = length-append text piece in
        let b = length-append front rest in
        let m = prefix_of front rest text piece e (omega arith) in
        absurd (going (subst IsDecided (sym m.1) (decided_longer front m.0 decided)))

pub decided_none : IsDecidedInLastPiece []
decided_none front rest e h = let l = ap length e ∙ length-append front rest in omega arith
