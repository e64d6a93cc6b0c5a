-- A formula that is written as DIMACS CNF is read back.
use Rattle.std.proofs.Common.{◌≡◌, ℕ, ◌+◌, ◌*◌, ◌-◌, ◌/◌, ◌%◌, ◌^◌, ◌<◌, ◌≤◌, List, [], ◌∷◌, ◌++◌, length, Bool, true, false, cond, Some, None, decimal, codes, refl, sym, ap, ap₂, ◌∙◌, append_assoc, arith}
use Rattle.std.specs.Prelude.{nat_eq, nat_lt, not, ◌&&◌}
use Rattle.std.specs.List.{AllByRecursion}
use Rattle.std.proofs.lemmas.List.{append-nil}
use Rattle.std.proofs.lemmas.Bool.Decides.{nat_tests}
use Rattle.std.proofs.lemmas.Fmt.{decimal_by_steps}
use Rattle.sat_base.specs.values.Literals.{variable, is_positive, mk_lit, var_limit}
use Rattle.sat_base.specs.values.Formulas.{clause_var_count, clauses_var_count}
use Rattle.sat_base.specs.text.Text.{is_blank, is_digit, prepend_to_first, lines, begins_nonblank, words, first_nonblank_is, Token, Number, Header, digits, negative_token, token, header_of_words, header_of_numbers, header_if, tokens_on_line, has_no_words, tokens_of, last_line, scan, header_of_tokens}
use Rattle.sat_base.specs.dimacs.Dimacs.{Clean, Dimacs, PartialClause, TokenEffect, Continues, EndsClause, literals_in, token_effect, ending_here, after_token_effect, clauses_of, dimacs}
use Rattle.sat_base.specs.dimacs.DimacsText.{number_text, clause_line, clause_lines, header_line, dimacs_text}
use Rattle.sat_base.specs.dimacs.WrittenDimacs.{WrittenIsRead}
use Rattle.sat_base.proofs.lemmas.text.Words.{word_plain, word_minus, no_minus_digit, no_letter_digit}

-- DIGITS
digits_nil : (n : ℕ) → digits n [] ≡ Some n
unfolding digits
digits_nil n = refl

digits_cons : (n d : ℕ) (ds : List ℕ) → is_digit d ≡ true → digits n (d ∷ ds) ≡ digits (10 * n + (d - 48)) ds
unfolding digits
digits_cons n d ds e = rw e refl

abbrev AreDigits : List ℕ → Type 0
AreDigits = AllByRecursion (λ d. is_digit d ≡ true)

digits_then : (n m d : ℕ) (ds : List ℕ) → AreDigits ds → digits n ds ≡ Some m → is_digit d ≡ true → digits n (ds ++ d ∷ []) ≡ Some (10 * m + (d - 48))
digits_then n m d [] a h e =
    let same : n ≡ m = let k : Some n ≡ Some m = sym (digits_nil n) ∙ h in cc in
    digits_cons n d [] e ∙ digits_nil (10 * n + (d - 48)) ∙ ap (λ (k : ℕ). Some (10 * k + (d - 48))) same
digits_then n m d (x ∷ ds) a h e =
    digits_cons n x (ds ++ d ∷ []) a.0 ∙ digits_then (10 * n + (x - 48)) m d ds a.1 (sym (digits_cons n x ds a.0) ∙ h) e

are_digits_then : (ds : List ℕ) (d : ℕ) → AreDigits ds → is_digit d ≡ true → AreDigits (ds ++ d ∷ [])
are_digits_then [] d a e = (e, tt)
are_digits_then (x ∷ ds) d a e = (a.0, are_digits_then ds d a.1 e)

some_then : (ds : List ℕ) (d : ℕ) → ds ++ d ∷ [] ≡ [] → ⊥
some_then [] d e = cc
some_then (x ∷ ds) d e = cc

-- `Says n ds` holds if the bytes `ds` are the digits of the number `n`.
record Says (n : ℕ) (ds : List ℕ) : Type 0 where
  pub all : AreDigits ds
  pub value : digits 0 ds ≡ Some n
  pub some : ds ≡ [] → ⊥

digit : (n : ℕ) → n < 10 → is_digit (48 + n) ≡ true
digit n h = grind (arith, nat_tests)

says_one : (n : ℕ) → n < 10 → Says n ((48 + n) ∷ [])
says_one n h = record {
  all = (digit n h, tt);
  value = digits_cons 0 (48 + n) [] (digit n h) ∙ digits_nil (10 * 0 + (48 + n - 48)) ∙ ap (λ (k : ℕ). Some k) (omega arith);
  some = λ e. cc;
}

says_more : (n : ℕ) (ds : List ℕ) → 10 ≤ n → Says (n / 10) ds → Says n (ds ++ ((48 + n % 10) ∷ []))
says_more n ds h s =
    let d : is_digit (48 + n % 10) ≡ true = digit (n % 10) (omega arith) in record {
      all = are_digits_then ds (48 + n % 10) s.all d;
      value = digits_then 0 (n / 10) (48 + n % 10) ds s.all s.value d ∙ ap (λ (k : ℕ). Some k) (omega arith);
      some = some_then ds (48 + n % 10);
    }

says_decimal : (n : ℕ) → n < 2 ^ 64 → Says n (decimal n)
says_decimal n h = decimal_by_steps Says says_one says_more n h

-- WORDS
abbrev Solid : List ℕ → Type 0
Solid = AllByRecursion (λ b. is_blank b ≡ false)

digit_solid : (d : ℕ) → is_digit d ≡ true → is_blank d ≡ false
digit_solid d e = grind (arith, nat_tests)

digits_solid : (ds : List ℕ) → AreDigits ds → Solid ds
digits_solid [] a = tt
digits_solid (d ∷ ds) a = (digit_solid d a.0, digits_solid ds a.1)

words_blank : (b : ℕ) (bs : List ℕ) → is_blank b ≡ true → words (b ∷ bs) ≡ words bs
unfolding words
words_blank b bs e = rw e refl

words_on : (b : ℕ) (bs : List ℕ) → is_blank b ≡ false → begins_nonblank bs ≡ true → words (b ∷ bs) ≡ prepend_to_first b (words bs)
unfolding words
words_on b bs e g = rw (e, g) refl

words_stop : (b : ℕ) (bs : List ℕ) → is_blank b ≡ false → begins_nonblank bs ≡ false → words (b ∷ bs) ≡ (b ∷ []) ∷ words bs
unfolding words
words_stop b bs e g = rw (e, g) refl

words_nil : words [] ≡ []
unfolding words
words_nil = refl

-- a word ends at a blank
first_word : (x : ℕ) (w : List ℕ) (b : ℕ) (rest : List ℕ) → is_blank x ≡ false → Solid w → is_blank b ≡ true → words ((x ∷ w) ++ b ∷ rest) ≡ (x ∷ w) ∷ words rest
first_word x [] b rest e s f =
    words_stop x (b ∷ rest) e (ap not f) ∙ ap (λ (ws : List (List ℕ)). (x ∷ []) ∷ ws) (words_blank b rest f)
first_word x (y ∷ w) b rest e s f =
    words_on x ((y ∷ w) ++ b ∷ rest) e (ap not s.0) ∙ ap (prepend_to_first x) (first_word y w b rest s.0 s.1 f)

word : (w : List ℕ) (b : ℕ) (rest : List ℕ) → (w ≡ [] → ⊥) → Solid w → is_blank b ≡ true → words (w ++ b ∷ rest) ≡ w ∷ words rest
word [] b rest n s f = absurd (n refl)
word (x ∷ w) b rest n s f = first_word x w b rest s.0 s.1 f

-- LINES
abbrev OnLine : List ℕ → Type 0
OnLine = AllByRecursion (λ b. nat_eq b 10 ≡ false)

solid_on_line : (w : List ℕ) → Solid w → OnLine w
solid_on_line [] s = tt
solid_on_line (b ∷ w) s = ((let e = s.0 in grind (arith, nat_tests)), solid_on_line w s.1)

lines_other : (b : ℕ) (bs : List ℕ) → nat_eq b 10 ≡ false → lines (b ∷ bs) ≡ prepend_to_first b (lines bs)
unfolding lines
lines_other b bs e = rw e refl

lines_LF : (bs : List ℕ) → lines (10 ∷ bs) ≡ (10 ∷ []) ∷ lines bs
unfolding lines
lines_LF bs = refl

lines_nil : lines [] ≡ []
unfolding lines
lines_nil = refl

-- bytes without LF are added to the start of the first line
lines_front : (w bs line : List ℕ) (more : List (List ℕ)) → OnLine w → lines bs ≡ line ∷ more → lines (w ++ bs) ≡ (w ++ line) ∷ more
lines_front [] bs line more o e = e
lines_front (b ∷ w) bs line more o e = lines_other b (w ++ bs) o.0 ∙ ap (prepend_to_first b) (lines_front w bs line more o.1 e)

-- THE FIRST BYTE OF A LINE
begins : (c b : ℕ) (bs : List ℕ) → is_blank b ≡ false → first_nonblank_is c (b ∷ bs) ≡ nat_eq b c
unfolding first_nonblank_is
begins c b bs e = rw e refl

-- A LITERAL'S WORD
abbrev signed_text : Bool → ℕ → List ℕ
signed_text positive n = cond positive [] (45 ∷ []) ++ decimal n

token_plain : (ds : List ℕ) (n : ℕ) → Says n ds → token ds ≡ Number false n
token_plain [] n s = absurd (s.some refl)
token_plain (d ∷ ds) n s = word_plain d ds n s.value (no_minus_digit d s.all.0) (no_letter_digit d s.all.0)

token_signed : (positive : Bool) (n : ℕ) → 0 < n → n < 2 ^ 64 → token (signed_text positive n) ≡ Number (not positive) n
token_signed true n h k = token_plain (decimal n) n (says_decimal n k)
token_signed false n h k =
    let s = says_decimal n k in
    let e : nat_eq n 0 ≡ false = grind (arith, nat_tests) in
    word_minus (decimal n) n s.value s.some ∙ (let r : negative_token (Some n) ≡ Number true n = rw e refl in r)

signed_solid : (positive : Bool) (n : ℕ) → n < 2 ^ 64 → Solid (signed_text positive n)
signed_solid true n k = digits_solid (decimal n) (says_decimal n k).all
signed_solid false n k = (refl, digits_solid (decimal n) (says_decimal n k).all)

signed_some : (positive : Bool) (n : ℕ) → n < 2 ^ 64 → signed_text positive n ≡ [] → ⊥
signed_some true n k e = (says_decimal n k).some e
signed_some false n k e = cc

plain_begins : (c : ℕ) (ds rest : List ℕ) → AreDigits ds → (ds ≡ [] → ⊥) → is_digit c ≡ false → first_nonblank_is c (ds ++ rest) ≡ false
plain_begins c [] rest a s e = absurd (s refl)
plain_begins c (d ∷ ds) rest a s e = begins c d (ds ++ rest) (digit_solid d a.0) ∙ (let f = a.0 in grind (arith, nat_tests))

signed_begins : (c : ℕ) (positive : Bool) (n : ℕ) (rest : List ℕ) → n < 2 ^ 64 → is_digit c ≡ false → (c ≡ 45 → ⊥) → first_nonblank_is c (signed_text positive n ++ rest) ≡ false
signed_begins c true n rest k e m = let s = says_decimal n k in plain_begins c (decimal n) rest s.all s.some e
signed_begins c false n rest k e m = begins c 45 (decimal n ++ rest) refl ∙ (grind (arith, nat_tests))

-- A CLAUSE'S LINE
-- `Within ls` holds if every literal is within the limit.
abbrev Within : List ℕ → Type 0
Within = AllByRecursion (λ l. variable l < var_limit)

abbrev clause_words : List ℕ → List (List ℕ)
clause_words [] = (48 ∷ []) ∷ []
clause_words (l ∷ ls) = number_text l ∷ clause_words ls

fits : (l : ℕ) → variable l < var_limit → variable l + 1 < 2 ^ 64
fits l h = omega arith

words_clause : (ls : List ℕ) → Within ls → words (clause_line ls) ≡ clause_words ls
words_clause [] w = first_word 48 [] 10 [] refl tt refl ∙ ap (λ (ws : List (List ℕ)). (48 ∷ []) ∷ ws) words_nil
words_clause (l ∷ ls) w =
    let k = fits l w.0 in
    word (number_text l) 32 (clause_line ls) (signed_some (is_positive l) (variable l + 1) k) (signed_solid (is_positive l) (variable l + 1) k) refl
    ∙ ap (λ (ws : List (List ℕ)). number_text l ∷ ws) (words_clause ls w.1)

lines_clause : (ls rest : List ℕ) → Within ls → lines (clause_line ls ++ rest) ≡ clause_line ls ∷ lines rest
lines_clause [] rest w = lines_front (48 ∷ []) (10 ∷ rest) (10 ∷ []) (lines rest) (refl, tt) (lines_LF rest)
lines_clause (l ∷ ls) rest w =
    let k = fits l w.0 in
    let more : lines (32 ∷ (clause_line ls ++ rest)) ≡ (32 ∷ clause_line ls) ∷ lines rest = lines_front (32 ∷ []) (clause_line ls ++ rest) (clause_line ls) (lines rest) (refl, tt) (lines_clause ls rest w.1) in
    ap lines (append_assoc (number_text l) (32 ∷ clause_line ls) rest)
    ∙ lines_front (number_text l) (32 ∷ (clause_line ls ++ rest)) (32 ∷ clause_line ls) (lines rest) (solid_on_line (number_text l) (signed_solid (is_positive l) (variable l + 1) k)) more

clause_begins : (c : ℕ) (ls : List ℕ) → Within ls → is_digit c ≡ false → (c ≡ 45 → ⊥) → first_nonblank_is c (clause_line ls) ≡ false
clause_begins c [] w e m = plain_begins c (48 ∷ []) (10 ∷ []) (refl, tt) (λ f. cc) e
clause_begins c (l ∷ ls) w e m = signed_begins c (is_positive l) (variable l + 1) (32 ∷ clause_line ls) (fits l w.0) e m

-- TOKENS OF LINES
tokens_nil : (may : Bool) (n : ℕ) → tokens_of may n [] ≡ []
unfolding tokens_of
tokens_nil may n = refl

tokens_header : (may : Bool) (n : ℕ) (line : List ℕ) (more : List (List ℕ)) → first_nonblank_is 37 line ≡ false → first_nonblank_is 99 line ≡ false → first_nonblank_is 112 line ≡ true
    → tokens_of may n (line ∷ more) ≡ (n + 1, header_if may line) ∷ tokens_of false (n + 1) more
unfolding tokens_of
tokens_header may n line more e f g = rw (e, f, g) refl

tokens_plain : (may : Bool) (n : ℕ) (line : List ℕ) (more : List (List ℕ)) → first_nonblank_is 37 line ≡ false → first_nonblank_is 99 line ≡ false → first_nonblank_is 112 line ≡ false
    → tokens_of may n (line ∷ more) ≡ tokens_on_line (n + 1) (words line) ++ tokens_of (may && has_no_words (words line)) (n + 1) more
unfolding tokens_of
tokens_plain may n line more e f g = rw (e, f, g) refl

tokens_clause : (n : ℕ) (ls rest : List ℕ) → Within ls → tokens_of false n (lines (clause_line ls ++ rest)) ≡ tokens_on_line (n + 1) (clause_words ls) ++ tokens_of false (n + 1) (lines rest)
tokens_clause n ls rest w =
    ap (tokens_of false n) (lines_clause ls rest w)
    ∙ tokens_plain false n (clause_line ls) (lines rest) (clause_begins 37 ls w refl (λ e. omega arith)) (clause_begins 99 ls w refl (λ e. omega arith)) (clause_begins 112 ls w refl (λ e. omega arith))
    ∙ ap (λ (ws : List (List ℕ)). tokens_on_line (n + 1) ws ++ tokens_of false (n + 1) (lines rest)) (words_clause ls w)

-- CLAUSES OF TOKENS
pub clauses_nil : (unfinished : PartialClause) (last : ℕ) → clauses_of unfinished last [] ≡ record { clauses = []; ending = ending_here unfinished last }
unfolding clauses_of
clauses_nil unfinished last = refl

pub clauses_cons : (unfinished : PartialClause) (last : ℕ) (t : ℕ × Token) (ts : List (ℕ × Token)) → clauses_of unfinished last (t ∷ ts) ≡ after_token_effect (token_effect unfinished t.0 t.1) (λ h. clauses_of h last ts)
unfolding clauses_of
clauses_cons unfinished last t ts = refl

-- the clauses and the ending of `more`, with one clause before them
abbrev ended : List ℕ → Dimacs → Dimacs
ended clause more = record { clauses = clause ∷ more.clauses; ending = more.ending }

pub coded_back : (l : ℕ) → mk_lit (variable l + 1 - 1) (not (not (is_positive l))) ≡ l
coded_back l = go (is_positive l) refl
  where
    go : (b : Bool) → is_positive l ≡ b → mk_lit (variable l + 1 - 1) (not (not b)) ≡ l
    go true e = let h : l % 2 ≡ 0 = grind (arith, nat_tests) in omega arith
    go false e = let h : l % 2 ≡ 1 = grind (arith, nat_tests) in omega arith

turn_literal : (unfinished : PartialClause) (k l : ℕ) → variable l < var_limit → token_effect unfinished k (token (number_text l)) ≡ Continues (Some (literals_in unfinished ++ l ∷ []))
turn_literal unfinished k l w =
    let v = variable l + 1 in
    let some : nat_eq v 0 ≡ false = grind (arith, nat_tests) in
    let within : nat_lt var_limit v ≡ false = grind (arith, nat_tests) in
    let spelled : token_effect unfinished k (Number (not (is_positive l)) v) ≡ Continues (Some (literals_in unfinished ++ mk_lit (v - 1) (not (not (is_positive l))) ∷ [])) = rw (some, within) refl in
    ap (token_effect unfinished k) (token_signed (is_positive l) v (omega arith) (fits l w)) ∙ spelled ∙ ap (λ (x : ℕ). Continues (Some (literals_in unfinished ++ x ∷ []))) (coded_back l)

zero_token : token (48 ∷ []) ≡ Number false 0
zero_token = token_plain (48 ∷ []) 0 (says_one 0 (omega arith))

turn_zero : (unfinished : PartialClause) (k : ℕ) → token_effect unfinished k (token (48 ∷ [])) ≡ EndsClause (literals_in unfinished)
turn_zero unfinished k = ap (token_effect unfinished k) zero_token

reads_clause : (unfinished : PartialClause) (last k : ℕ) (ls : List ℕ) (rest : List (ℕ × Token)) → Within ls
    → clauses_of unfinished last (tokens_on_line k (clause_words ls) ++ rest) ≡ ended (literals_in unfinished ++ ls) (clauses_of None last rest)
reads_clause unfinished last k [] rest w =
    clauses_cons unfinished last (k, token (48 ∷ [])) rest
    ∙ ap (λ (t : TokenEffect). after_token_effect t (λ h. clauses_of h last rest)) (turn_zero unfinished k)
    ∙ ap (λ (c : List ℕ). ended c (clauses_of None last rest)) (sym (append-nil (literals_in unfinished)))
reads_clause unfinished last k (l ∷ ls) rest w =
    let more = tokens_on_line k (clause_words ls) ++ rest in
    clauses_cons unfinished last (k, token (number_text l)) more
    ∙ ap (λ (t : TokenEffect). after_token_effect t (λ h. clauses_of h last more)) (turn_literal unfinished k l w.0)
    ∙ reads_clause (Some (literals_in unfinished ++ l ∷ [])) last k ls rest w.1
    ∙ ap (λ (c : List ℕ). ended c (clauses_of None last rest)) (append_assoc (literals_in unfinished) (l ∷ []) ls)

abbrev AllWithin : List (List ℕ) → Type 0
AllWithin = AllByRecursion Within

reads_clauses : (n last : ℕ) (cs : List (List ℕ)) → AllWithin cs → clauses_of None last (tokens_of false n (lines (clause_lines cs))) ≡ record { clauses = cs; ending = Clean }
reads_clauses n last [] w =
    ap (λ (ls : List (List ℕ)). clauses_of None last (tokens_of false n ls)) lines_nil ∙ ap (clauses_of None last) (tokens_nil false n) ∙ clauses_nil None last
reads_clauses n last (c ∷ cs) w =
    ap (clauses_of None last) (tokens_clause n c (clause_lines cs) w.0)
    ∙ reads_clause None last (n + 1) c (tokens_of false (n + 1) (lines (clause_lines cs))) w.0
    ∙ ap (ended c) (reads_clauses (n + 1) last cs w.1)

-- THE HEADER
words_header : (v c : ℕ) → v < 2 ^ 64 → c < 2 ^ 64 → words (header_line v c) ≡ (112 ∷ []) ∷ (99 ∷ 110 ∷ 102 ∷ []) ∷ decimal v ∷ decimal c ∷ []
words_header v c h k =
    let s = says_decimal v h in
    let t = says_decimal c k in
    let counts = decimal v ++ (32 ∷ (decimal c ++ 10 ∷ [])) in
    first_word 112 [] 32 (99 ∷ 110 ∷ 102 ∷ 32 ∷ counts) refl tt refl
    ∙ ap (λ (ws : List (List ℕ)). (112 ∷ []) ∷ ws) (first_word 99 (110 ∷ 102 ∷ []) 32 counts refl (refl, (refl, tt)) refl
    ∙ ap (λ (ws : List (List ℕ)). (99 ∷ 110 ∷ 102 ∷ []) ∷ ws) (word (decimal v) 32 (decimal c ++ 10 ∷ []) s.some (digits_solid (decimal v) s.all) refl
    ∙ ap (λ (ws : List (List ℕ)). decimal v ∷ ws) (word (decimal c) 10 [] t.some (digits_solid (decimal c) t.all) refl
    ∙ ap (λ (ws : List (List ℕ)). decimal c ∷ ws) words_nil)))

header_says : (v c : ℕ) → v < 2 ^ 64 → c < 2 ^ 64 → header_if true (header_line v c) ≡ Header v c
header_says v c h k =
    ap header_of_words (words_header v c h k) ∙ ap₂ header_of_numbers (says_decimal v h).value (says_decimal c k).value

lines_header : (v c : ℕ) (rest : List ℕ) → v < 2 ^ 64 → c < 2 ^ 64 → lines (header_line v c ++ rest) ≡ header_line v c ∷ lines rest
lines_header v c rest h k =
    let s = says_decimal v h in
    let t = says_decimal c k in
    let one : lines ((decimal c ++ 10 ∷ []) ++ rest) ≡ (decimal c ++ 10 ∷ []) ∷ lines rest = ap lines (append_assoc (decimal c) (10 ∷ []) rest) ∙ lines_front (decimal c) (10 ∷ rest) (10 ∷ []) (lines rest) (solid_on_line (decimal c) (digits_solid (decimal c) t.all)) (lines_LF rest) in
    let two : lines (32 ∷ ((decimal c ++ 10 ∷ []) ++ rest)) ≡ (32 ∷ (decimal c ++ 10 ∷ [])) ∷ lines rest = lines_front (32 ∷ []) ((decimal c ++ 10 ∷ []) ++ rest) (decimal c ++ 10 ∷ []) (lines rest) (refl, tt) one in
    let three : lines ((decimal v ++ (32 ∷ (decimal c ++ 10 ∷ []))) ++ rest) ≡ (decimal v ++ (32 ∷ (decimal c ++ 10 ∷ []))) ∷ lines rest =
    ap lines (append_assoc (decimal v) (32 ∷ (decimal c ++ 10 ∷ [])) rest)
    ∙ lines_front (decimal v) (32 ∷ ((decimal c ++ 10 ∷ []) ++ rest)) (32 ∷ (decimal c ++ 10 ∷ [])) (lines rest) (solid_on_line (decimal v) (digits_solid (decimal v) s.all)) two in
    lines_front (codes "p cnf ") ((decimal v ++ (32 ∷ (decimal c ++ 10 ∷ []))) ++ rest) (decimal v ++ (32 ∷ (decimal c ++ 10 ∷ []))) (lines rest) (refl, (refl, (refl, (refl, (refl, (refl, tt)))))) three

-- THE COMPLETE TEXT
text_tokens : (v c : ℕ) (cs : List (List ℕ)) → v < 2 ^ 64 → c < 2 ^ 64
    → tokens_of true 0 (lines (header_line v c ++ clause_lines cs)) ≡ (0 + 1, Header v c) ∷ tokens_of false (0 + 1) (lines (clause_lines cs))
text_tokens v c cs h k =
    let following = 32 ∷ 99 ∷ 110 ∷ 102 ∷ 32 ∷ (decimal v ++ (32 ∷ (decimal c ++ 10 ∷ []))) in
    ap (tokens_of true 0) (lines_header v c (clause_lines cs) h k)
    ∙ tokens_header true 0 (header_line v c) (lines (clause_lines cs)) (begins 37 112 following refl) (begins 99 112 following refl) (begins 112 112 following refl)
    ∙ ap (λ (t : Token). (0 + 1, t) ∷ tokens_of false (0 + 1) (lines (clause_lines cs))) (header_says v c h k)

literals_within : (ls : List ℕ) → clause_var_count ls ≤ var_limit → Within ls
literals_within [] h = tt
literals_within (l ∷ ls) h = (omega arith, literals_within ls (omega arith))

clauses_within : (cs : List (List ℕ)) → clauses_var_count cs ≤ var_limit → AllWithin cs
clauses_within [] h = tt
clauses_within (c ∷ cs) h = (literals_within c (omega arith), clauses_within cs (omega arith))

pub written_is_read : WrittenIsRead
unfolding dimacs dimacs_text scan
written_is_read f h k l =
    let cs = f.clauses in
    let text = header_line f.var_count (length cs) ++ clause_lines cs in
    let e = text_tokens f.var_count (length cs) cs (omega arith) l in
    let last = last_line 0 (lines text) in (
      ap (clauses_of None last) e ∙ clauses_cons None last (0 + 1, Header f.var_count (length cs)) (tokens_of false (0 + 1) (lines (clause_lines cs))) ∙ reads_clauses (0 + 1) last cs (clauses_within cs h),
      ap header_of_tokens e,
    )
