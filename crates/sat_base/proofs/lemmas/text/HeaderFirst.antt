-- Only the first token of a text can be a header.
use Rattle.std.proofs.Common.{◌≡◌, ℕ, ◌+◌, List, [], ◌∷◌, ◌++◌, Bool, true, false, cond, Option, Some, None, refl, sym, subst, ◌⊎◌, inl, inr}
use Rattle.std.specs.Prelude.{nat_eq, ◌&&◌}
use Rattle.sat_base.specs.text.Text.{words, first_nonblank_is, is_letter, digits, unsigned_token, negative_token, after_minus, letter_token, token, header_if, has_no_words, tokens_on_line, Token, Number, Header, Wrong, tokens_of, lines, scan, tokens}
use Rattle.sat_base.specs.script.Language.{without_lines}

-- `IsWord token` holds if the token is not a header.
abbrev pub IsWord : Token → Type 0
IsWord (Header v c) = ⊥
IsWord e = Unit {0}

abbrev pub AreWords : List Token → Type 0
AreWords [] = Unit {0}
AreWords (t ∷ ts) = IsWord t × AreWords ts

abbrev pub AreScript : List Token → Type 0
AreScript ts = AreWords ts ⊎ ((v : ℕ) × (c : ℕ) × (rest : List Token) × AreWords rest × (ts ≡ Header v c ∷ rest))

either : (b : Bool) (t u : Token) → IsWord t → IsWord u → IsWord (cond b t u)
either true t u h k = h
either false t u h k = k

minus_word : (o : Option ℕ) → IsWord (negative_token o)
minus_word None = tt
minus_word (Some n) = either (nat_eq n 0) Wrong (Number true n) tt tt

after_minus_word : (w : List ℕ) → IsWord (after_minus w)
after_minus_word [] = tt
after_minus_word (b ∷ bs) = minus_word (digits 0 (b ∷ bs))

plain_word : (o : Option ℕ) → IsWord (unsigned_token o)
plain_word None = tt
plain_word (Some n) = tt

alone_word : (b : ℕ) (bs : List ℕ) → IsWord (letter_token b bs)
alone_word b [] = tt
alone_word b (c ∷ bs) = tt

pub word_token : (w : List ℕ) → IsWord (token w)
unfolding token
word_token [] = tt
word_token (b ∷ bs) = either (nat_eq b 45) _ _ (after_minus_word bs) (either (is_letter b) _ _ (alone_word b bs) (plain_word (digits 0 (b ∷ bs))))

line_words : (n : ℕ) (ws : List (List ℕ)) (more : List (ℕ × Token)) → AreWords (without_lines more) → AreWords (without_lines (tokens_on_line n ws ++ more))
line_words n [] more h = h
line_words n (w ∷ ws) more h = (word_token w, line_words n ws more h)

-- LINES
of_none : (may : Bool) (n : ℕ) → tokens_of may n [] ≡ []
unfolding tokens_of
of_none may n = refl

of_line : (may : Bool) (n : ℕ) (line : List ℕ) (lines : List (List ℕ)) → tokens_of may n (line ∷ lines)
    ≡ cond (first_nonblank_is 37 line) []
    (cond (first_nonblank_is 99 line) (tokens_of may (n + 1) lines)
    (cond (first_nonblank_is 112 line) ((n + 1, header_if may line) ∷ tokens_of false (n + 1) lines)
    (tokens_on_line (n + 1) (words line) ++ tokens_of (may && has_no_words (words line)) (n + 1) lines)))
unfolding tokens_of
of_line may n line lines = refl

chosen : (P : List (ℕ × Token) → Type 0) (ends comments heads : Bool) (none later headed worded : List (ℕ × Token)) → P none → P later → P headed → P worded
    → P (cond ends none (cond comments later (cond heads headed worded)))
chosen P true comments heads none later headed worded a b c d = a
chosen P false true heads none later headed worded a b c d = b
chosen P false false true none later headed worded a b c d = c
chosen P false false false none later headed worded a b c d = d

-- lines where no header is allowed
late : (n : ℕ) (ls : List (List ℕ)) → AreWords (without_lines (tokens_of false n ls))
late n [] = rw (of_none false n) tt
late n (line ∷ ls) =
    let rest = late (n + 1) ls in
    subst (λ (ts : List (ℕ × Token)). AreWords (without_lines ts)) (sym (of_line false n line ls))
    (chosen (λ ts. AreWords (without_lines ts)) (first_nonblank_is 37 line) (first_nonblank_is 99 line) (first_nonblank_is 112 line) _ _ _ _ tt rest (tt, rest) (line_words (n + 1) (words line) _ rest))

after_header : (t : Token) (ts : List Token) → AreWords ts → AreScript (t ∷ ts)
after_header (Header v c) ts h = inr (v, c, ts, h, refl)
after_header e ts h = inl (tt, h)

after_words : (n : ℕ) (ws : List (List ℕ)) (ls : List (List ℕ)) → AreScript (without_lines (tokens_of true n ls)) → AreScript (without_lines (tokens_on_line n ws ++ tokens_of (has_no_words ws) n ls))
after_words n [] ls h = h
after_words n (w ∷ ws) ls h = inl (line_words n (w ∷ ws) _ (late n ls))

-- lines where a header is allowed
early : (n : ℕ) (ls : List (List ℕ)) → AreScript (without_lines (tokens_of true n ls))
early n [] = rw (of_none true n) (inl tt)
early n (line ∷ ls) =
    let rest = early (n + 1) ls in
    subst (λ (ts : List (ℕ × Token)). AreScript (without_lines ts)) (sym (of_line true n line ls))
    (chosen (λ ts. AreScript (without_lines ts)) (first_nonblank_is 37 line) (first_nonblank_is 99 line) (first_nonblank_is 112 line) _ _ _ _ (inl tt) rest (after_header _ _ (late (n + 1) ls)) (after_words (n + 1) (words line) ls rest))

pub text_is : (text : List ℕ) → AreScript (without_lines (tokens text))
unfolding scan
text_is text = early 0 (lines text)
