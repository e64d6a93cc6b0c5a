-- The short definition of tokens agrees with that which the code is proved against.
use Rattle.std.proofs.Common.{ℕ, ◌+◌, ◌*◌, ◌-◌, ◌≡◌, ◌<◌, ◌≤◌, ◌∙◌, Bool, true, false, not, cond, if◌then◌else◌, ◌&&◌, ◌||◌, Option, Some, None, List, [], ◌∷◌, ◌++◌, map, nat_eq, nat_lt, is_some, codes, refl, sym, ap, subst, arith, ltb-true, ne_eqb, le-ltb, ⊎_elim, inl, inr}
use Rattle.std.proofs.lemmas.Bool.{agree_below_at, cases_lt, cases_eq, or_from, or_cases, and_parts, and_left, and_right}
use Rattle.sat_base.specs.script.Script.{Command, Clause, Ask, Hide, Witness, Sample}
use Rattle.sat_base.specs.script.Language.{without_lines}
use Rattle.sat_base.specs.text.Text.{prepend_to_first, has_no_words, is_letter, same_bytes, header_of_numbers, unsigned_token, negative_token, after_minus, token, header_if, tokens_on_line, tokens_of, lines as code_lines, words as code_words, first_nonblank_is as code_begins_with, digits as code_digits, is_blank as code_is_blank, is_digit as code_is_digit, begins_nonblank as code_goes_on, header_of_words as code_header_in, Token as CodeToken, Number as CodeNumber, Letter as CodeLetter, Header as CodeHeader, Wrong as CodeWrong}
use Rattle.certify.specs.answers.ScriptText.{is_one_of, is_blank, is_digit, lines, begins_nonblank, words, begins_with, digits, Token, Number, Begins, Header, Wrong, header_in, number_token, number_of_word, token_of_word, tokens_of_lines}

-- BYTES

or_false : (x : Bool) → (x || false) ≡ x
or_false true = refl
or_false false = refl

four : (x y z w : Bool) → (x || (y || (z || (w || false)))) ≡ (x || y || z || w)
four true y z w = refl
four false true z w = refl
four false false true w = refl
four false false false true = refl
four false false false false = refl

blank : (b : ℕ) → is_blank b ≡ code_is_blank b
blank b = four (nat_eq b 32) (nat_eq b 9) (nat_eq b 13) (nat_eq b 10)

abbrev are_below : ℕ → List ℕ → Bool
are_below n [] = true
are_below n (c ∷ cs) = nat_lt c n && are_below n cs

none_of : (cs : List ℕ) (n b : ℕ) → are_below n cs ≡ true → n ≤ b → is_one_of cs b ≡ false
none_of [] n b h l = refl
none_of (c ∷ cs) n b h l =
    let p = and_parts (nat_lt c n) (are_below n cs) h in
    let under : c < n = ltb-true c n p.0 in
    or_from (nat_eq b c) (is_one_of cs b) (ne_eqb b c (λ e. omega arith)) (none_of cs n b p.1 l)

not_digit : (b : ℕ) → 58 ≤ b → code_is_digit b ≡ false
not_digit b l = and_right (nat_lt 47 b) (nat_lt b 58) (le-ltb b 58 l)

digit : (b : ℕ) → is_digit b ≡ code_is_digit b
digit b = ⊎_elim
    (λ l. agree_below_at is_digit code_is_digit 58 b refl l)
    (λ l. none_of (codes "0123456789") 58 b refl l ∙ sym (not_digit b l))
    (cases_lt b 58)

letter_not_digit : (b : ℕ) → is_letter b ≡ true → is_digit b ≡ false
letter_not_digit b e = digit b ∙ not_digit b (⊎_elim
    (λ h. let under : 64 < b = ltb-true 64 b (and_parts (nat_lt 64 b) (nat_lt b 91) h).0 in omega arith)
    (λ h. let under : 96 < b = ltb-true 96 b (and_parts (nat_lt 96 b) (nat_lt b 123) h).0 in omega arith)
    (or_cases (nat_lt 64 b && nat_lt b 91) (nat_lt 96 b && nat_lt b 123) e))

-- LINES AND WORDS

pub same_lines : (t : List ℕ) → lines t ≡ code_lines t
unfolding lines code_lines
same_lines [] = refl
same_lines (b ∷ bs) = let rest = same_lines bs in λ i. cond (or_false (nat_eq b 10) i) ((b ∷ []) ∷ rest i) (prepend_to_first b (rest i))

same_goes : (t : List ℕ) → begins_nonblank t ≡ code_goes_on t
same_goes [] = refl
same_goes (b ∷ bs) = ap not (blank b)

same_words : (t : List ℕ) → words t ≡ code_words t
unfolding words code_words
same_words [] = refl
same_words (b ∷ bs) =
    let rest = same_words bs in let goes = same_goes bs in
    λ i. cond (blank b i) (rest i) (cond (goes i) (prepend_to_first b (rest i)) ((b ∷ []) ∷ rest i))

same_begins : (c : ℕ) (line : List ℕ) → begins_with (c ∷ []) line ≡ code_begins_with c line
unfolding begins_with code_begins_with
same_begins c [] = refl
same_begins c (b ∷ bs) = let rest = same_begins c bs in λ i. cond (blank b i) (rest i) (or_false (nat_eq b c) i)

same_digits : (n : ℕ) (ds : List ℕ) → digits n ds ≡ code_digits n ds
unfolding digits code_digits
same_digits n [] = refl
same_digits n (d ∷ ds) = let rest = same_digits (10 * n + (d - 48)) ds in λ i. cond (digit d i) (rest i) None

-- TOKENS

-- the command that a letter begins, still empty, or `None` if the letter begins none
abbrev pub command_of_letter : ℕ → Option Command
command_of_letter b =
    if nat_eq b 97 then Some (Ask [])
    else (if nat_eq b 104 then Some (Hide [])
    else (if nat_eq b 119 then Some (Witness [])
    else (if nat_eq b 115 then Some (Sample []) else None)))

abbrev pub begun : Option Command → Token
begun None = Wrong
begun (Some command) = Begins command

-- the short token for a token of the code
abbrev pub short_token : CodeToken → Token
short_token (CodeNumber negative n) = Number negative n
short_token (CodeLetter b) = begun (command_of_letter b)
short_token (CodeHeader v c) = Header
short_token CodeWrong = Wrong

header_case : (x : Bool) (v c : Option ℕ) → cond (x && (is_some v && is_some c)) Header Wrong ≡ short_token (cond x (header_of_numbers v c) CodeWrong)
header_case true None c = refl
header_case true (Some v) None = refl
header_case true (Some v) (Some c) = refl
header_case false v c = refl

same_header : (ws : List (List ℕ)) → header_in ws ≡ short_token (code_header_in ws)
same_header [] = refl
same_header (p ∷ []) = refl
same_header (p ∷ cnf ∷ []) = refl
same_header (p ∷ cnf ∷ v ∷ []) = refl
same_header (p ∷ cnf ∷ v ∷ c ∷ []) =
    let x = same_bytes p (codes "p") && same_bytes cnf (codes "cnf") in
    let first : cond (x && (is_some (digits 0 v) && is_some (digits 0 c))) Header Wrong ≡ cond (x && (is_some (code_digits 0 v) && is_some (code_digits 0 c))) Header Wrong
    = λ i. cond (x && (is_some (same_digits 0 v i) && is_some (same_digits 0 c i))) Header Wrong in
    first ∙ header_case x (code_digits 0 v) (code_digits 0 c)
same_header (p ∷ cnf ∷ v ∷ c ∷ w ∷ ws) = refl

negative_case : (x : Bool) (n : ℕ) → cond x Wrong (Number true n) ≡ short_token (cond x CodeWrong (CodeNumber true n))
negative_case true n = refl
negative_case false n = refl

same_negative : (o : Option ℕ) → number_token true o ≡ short_token (negative_token o)
same_negative None = refl
same_negative (Some n) = negative_case (nat_eq n 0) n

same_unsigned : (o : Option ℕ) → number_token false o ≡ short_token (unsigned_token o)
same_unsigned None = refl
same_unsigned (Some n) = refl

same_minus : (bs : List ℕ) → number_token true (digits 0 bs) ≡ short_token (after_minus bs)
unfolding digits
same_minus [] = refl
same_minus (d ∷ ds) = ap (λ (o : Option ℕ). number_token true o) (same_digits 0 (d ∷ ds)) ∙ same_negative (code_digits 0 (d ∷ ds))

-- a number, or a word that begins with a letter but is not one letter
pulled : (x y : Bool) (a c : CodeToken) → cond x (short_token a) (cond y Wrong (short_token c)) ≡ short_token (cond x a (cond y CodeWrong c))
pulled true y a c = refl
pulled false true a c = refl
pulled false false a c = refl

no_digits : (b : ℕ) (bs : List ℕ) → is_digit b ≡ false → number_token false (digits 0 (b ∷ bs)) ≡ Wrong
unfolding digits
no_digits b bs e = λ i. number_token false (cond (e i) (digits (10 * 0 + (b - 48)) bs) None)

by_letter : (b : ℕ) (bs : List ℕ) (y : Bool) → is_letter b ≡ y
    → number_token false (digits 0 (b ∷ bs)) ≡ cond y Wrong (short_token (unsigned_token (code_digits 0 (b ∷ bs))))
by_letter b bs true e = no_digits b bs (letter_not_digit b e)
by_letter b bs false e = ap (λ (o : Option ℕ). number_token false o) (same_digits 0 (b ∷ bs)) ∙ same_unsigned (code_digits 0 (b ∷ bs))

rest_token : (b : ℕ) (bs : List ℕ)
    → number_of_word (b ∷ bs) ≡ short_token (cond (nat_eq b 45) (after_minus bs) (cond (is_letter b) CodeWrong (unsigned_token (code_digits 0 (b ∷ bs)))))
rest_token b bs =
    let negative = same_minus bs in
    let plain = by_letter b bs (is_letter b) refl in
    let first : number_of_word (b ∷ bs) ≡ cond (nat_eq b 45) (short_token (after_minus bs)) (cond (is_letter b) Wrong (short_token (unsigned_token (code_digits 0 (b ∷ bs)))))
    = λ i. cond (or_false (nat_eq b 45) i) (negative i) (plain i) in
    first ∙ pulled (nat_eq b 45) (is_letter b) (after_minus bs) (unsigned_token (code_digits 0 (b ∷ bs)))

-- no letter that begins a command
none_begun : (b : ℕ) → nat_eq b 97 ≡ false → nat_eq b 104 ≡ false → nat_eq b 119 ≡ false → nat_eq b 115 ≡ false → command_of_letter b ≡ None
none_begun b a h w s = λ i. cond (a i) (Some (Ask [])) (cond (h i) (Some (Hide [])) (cond (w i) (Some (Witness [])) (cond (s i) (Some (Sample [])) None)))

letter_wrong : (x y : Bool) (b : ℕ) (a c : CodeToken) → command_of_letter b ≡ None → short_token (cond x a (cond y CodeWrong c)) ≡ short_token (cond x a (cond y (CodeLetter b) c))
letter_wrong true y b a c e = refl
letter_wrong false true b a c e = sym (ap begun e)
letter_wrong false false b a c e = refl

-- a word that is none of the four letters is a number, or wrong
not_letter : (w : List ℕ) → same_bytes w (codes "a") ≡ false → same_bytes w (codes "h") ≡ false → same_bytes w (codes "w") ≡ false → same_bytes w (codes "s") ≡ false
    → token_of_word w ≡ number_of_word w
not_letter w a h x s = λ i. cond (a i) (Begins (Ask [])) (cond (h i) (Begins (Hide [])) (cond (x i) (Begins (Witness [])) (cond (s i) (Begins (Sample [])) (number_of_word w))))

abbrev Alike : List ℕ → Type 0
Alike w = token_of_word w ≡ short_token (token w)

one_byte : (b : ℕ) → nat_eq b 97 ≡ false → nat_eq b 104 ≡ false → nat_eq b 119 ≡ false → nat_eq b 115 ≡ false → Alike (b ∷ [])
unfolding token
one_byte b a h w s =
    not_letter (b ∷ []) (and_left (nat_eq b 97) true a) (and_left (nat_eq b 104) true h) (and_left (nat_eq b 119) true w) (and_left (nat_eq b 115) true s)
    ∙ rest_token b []
    ∙ letter_wrong (nat_eq b 45) (is_letter b) b (after_minus []) (unsigned_token (code_digits 0 (b ∷ []))) (none_begun b a h w s)

same_token : (w : List ℕ) → Alike w
unfolding token
same_token [] = refl
same_token (b ∷ c ∷ cs) =
    not_letter (b ∷ c ∷ cs) (and_right (nat_eq b 97) false refl) (and_right (nat_eq b 104) false refl) (and_right (nat_eq b 119) false refl) (and_right (nat_eq b 115) false refl)
    ∙ rest_token b (c ∷ cs)
same_token (b ∷ []) = elim (cases_eq b 97) [
  | inl e ↦ subst (λ (b : ℕ). Alike (b ∷ [])) (sym e) refl
  | inr a ↦ elim (cases_eq b 104) [
    | inl e ↦ subst (λ (b : ℕ). Alike (b ∷ [])) (sym e) refl
    | inr h ↦ elim (cases_eq b 119) [
      | inl e ↦ subst (λ (b : ℕ). Alike (b ∷ [])) (sym e) refl
      | inr w ↦ elim (cases_eq b 115) [
        | inl e ↦ subst (λ (b : ℕ). Alike (b ∷ [])) (sym e) refl
        | inr s ↦ one_byte b (ne_eqb b 97 a) (ne_eqb b 104 h) (ne_eqb b 119 w) (ne_eqb b 115 s)
      ]
    ]
  ]
]

-- the short tokens for tokens with the numbers of their lines
abbrev pub short_tokens : List (ℕ × CodeToken) → List Token
short_tokens ts = map short_token (without_lines ts)

same_on_line : (n : ℕ) (ws : List (List ℕ)) → map token_of_word ws ≡ short_tokens (tokens_on_line n ws)
same_on_line n [] = refl
same_on_line n (w ∷ ws) = let first = same_token w in let rest = same_on_line n ws in λ i. first i ∷ rest i

short_append : (a b : List (ℕ × CodeToken)) → short_tokens a ++ short_tokens b ≡ short_tokens (a ++ b)
short_append [] b = refl
short_append (t ∷ a) b = let rest = short_append a b in λ i. short_token t.1 ∷ rest i

pull_line : (x y z may : Bool) (n : ℕ) (h : CodeToken) (ws t u v : List (ℕ × CodeToken))
    → cond x [] (cond y (short_tokens t) (cond z (cond may (short_token h) Wrong ∷ short_tokens u) (short_tokens ws ++ short_tokens v)))
    ≡ short_tokens (cond x [] (cond y t (cond z ((n, cond may h CodeWrong) ∷ u) (ws ++ v))))
pull_line true y z may n h ws t u v = refl
pull_line false true z may n h ws t u v = refl
pull_line false false true true n h ws t u v = refl
pull_line false false true false n h ws t u v = refl
pull_line false false false may n h ws t u v = short_append ws v

pub same_tokens : (may : Bool) (n : ℕ) (ls : List (List ℕ)) → tokens_of_lines may ls ≡ short_tokens (tokens_of may n ls)
unfolding tokens_of_lines tokens_of
same_tokens may n [] = refl
same_tokens may n (line ∷ ls) =
    let w = same_words line in
    let header = ap (λ (ws : List (List ℕ)). header_in ws) w ∙ same_header (code_words line) in
    let tokens = ap (λ (ws : List (List ℕ)). map token_of_word ws) w ∙ same_on_line (n + 1) (code_words line) in
    let first = same_tokens may (n + 1) ls in
    let second = same_tokens false (n + 1) ls in
    let third = ap (λ (ws : List (List ℕ)). tokens_of_lines (may && has_no_words ws) ls) w ∙ same_tokens (may && has_no_words (code_words line)) (n + 1) ls in
    let percent = same_begins 37 line in let comment = same_begins 99 line in let p = same_begins 112 line in
    let step : tokens_of_lines may (line ∷ ls)
    ≡ cond (code_begins_with 37 line) [] (cond (code_begins_with 99 line) (short_tokens (tokens_of may (n + 1) ls))
    (cond (code_begins_with 112 line) (cond may (short_token (code_header_in (code_words line))) Wrong ∷ short_tokens (tokens_of false (n + 1) ls))
    (short_tokens (tokens_on_line (n + 1) (code_words line)) ++ short_tokens (tokens_of (may && has_no_words (code_words line)) (n + 1) ls))))
    = λ i. cond (percent i) [] (cond (comment i) (first i) (cond (p i) (cond may (header i) Wrong ∷ second i) (tokens i ++ third i))) in
    step ∙ pull_line (code_begins_with 37 line) (code_begins_with 99 line) (code_begins_with 112 line) may (n + 1) (code_header_in (code_words line))
    (tokens_on_line (n + 1) (code_words line)) (tokens_of may (n + 1) ls) (tokens_of false (n + 1) ls) (tokens_of (may && has_no_words (code_words line)) (n + 1) ls)
