-- The words that the program is called with.
use Rattle.std.proofs.Common.{ℕ, ◌≡◌, ◌<◌, ◌≤◌, ◌+◌, ◌^◌, ◌∙◌, ◌&&◌, List, ◌∷◌, Result, Ok, Err, MatchOption, Bool, true, false, ap, sym, subst, length, map, String, Global, arith}
use Rattle.std.specs.Prelude.{drop, get_or}
use Rattle.std.specs.Result.{result_ok, OkIff}
use Rattle.std.specs.String.{string_bytes}
use Rattle.std.specs.Char.{is_ascii_digit}
use Rattle.std.specs.Str.{all_ascii_digits}
use Rattle.std.specs.Str.Parse.{ParsesUnsigned, digits_value}
use Rattle.std.proofs.lemmas.List.{at_drop_more, drop_all, drop_more}
use Rattle.std.proofs.lemmas.Str.Parse.{IsNumeralModel, numerals_by_value, parse_digits, tells_all_ascii_digits}
use Rattle.certify.specs.run.RoundsLeft.{most_rounds}
use Rattle.certify.specs.program.Calls.{IsRoundCount}

-- THE WORDS OF A LIST

-- the words from place `i` on are the word there and those after it
pub word_at : (words : List (String Global)) (i : ℕ) (s : String Global) (word : List ℕ) (following : List (List ℕ)) → i < length words → s ≡ get_or words i s → word ≡ string_bytes s
    → map string_bytes (drop (i + 1) words) ≡ following → map string_bytes (drop i words) ≡ word ∷ following
word_at words i s word following l e f g =
    ap (map string_bytes) (drop_more words i s l) ∙ ap (λ (t : String Global). string_bytes t ∷ map string_bytes (drop (i + 1) words)) (sym e)
    ∙ ap (λ (w : List ℕ). w ∷ map string_bytes (drop (i + 1) words)) (sym f) ∙ ap (λ (ws : List (List ℕ)). word ∷ ws) g

-- THE NUMBER OF ROUNDS

numerals : IsNumeralModel (λ ds. all_ascii_digits ds ≡ true) (digits_value 10)
numerals = numerals_by_value _ tells_all_ascii_digits

digits_from : (word : List ℕ) (i : ℕ) (b : Bool) → i < length word → is_ascii_digit (get_or word i 0) ≡ b → all_ascii_digits (drop i word) ≡ b && all_ascii_digits (drop (i + 1) word)
digits_from word i b l d =
    let step : all_ascii_digits (drop i word) ≡ is_ascii_digit (get_or word i 0) && all_ascii_digits (drop (i + 1) word) = at_drop_more all_ascii_digits word i 0 l in
    step ∙ ap (λ (x : Bool). x && all_ascii_digits (drop (i + 1) word)) d

-- after a digit, all bytes are digits exactly if the later ones are
pub one_more_digit : (word : List ℕ) (i : ℕ) → i < length word → is_ascii_digit (get_or word i 0) ≡ true → all_ascii_digits (drop i word) ≡ all_ascii_digits word
    → all_ascii_digits (drop (i + 1) word) ≡ all_ascii_digits word
one_more_digit word i l d e = sym (digits_from word i true l d) ∙ e

-- a word with a byte that is not a digit is no number of rounds
pub no_digit : (word : List ℕ) (i : ℕ) → i < length word → is_ascii_digit (get_or word i 0) ≡ false → all_ascii_digits (drop i word) ≡ all_ascii_digits word
    → (n : ℕ) → IsRoundCount word n → ⊥
no_digit word i l d e n s = let no : true ≡ false = sym s.digits ∙ sym e ∙ digits_from word i false l d in absurd (cc)

-- after the last byte, all bytes were digits
pub all_digits : (word : List ℕ) (i : ℕ) → length word ≤ i → all_ascii_digits (drop i word) ≡ all_ascii_digits word → all_ascii_digits word ≡ true
all_digits word i l e = sym e ∙ ap all_ascii_digits (drop_all i word l)

rounds_or_none : {E : Type 0} (word : List ℕ) (r : Result ℕ E) → OkIff r ((0 < length word) × (digits_value 10 word < 2 ^ 64)) (digits_value 10 word) → all_ascii_digits word ≡ true
    → MatchOption (result_ok r) ((n : ℕ) → IsRoundCount word n → ⊥) (IsRoundCount word)
rounds_or_none word (Ok n) ((some, fits), value) digits = record { digits = digits; some = some; value = value; fits = let g : n < 2 ^ 64 = rw value fits in omega arith }
rounds_or_none word (Err e) none digits = λ n s. none (s.some, let g : digits_value 10 word ≤ most_rounds = subst (λ (k : ℕ). k ≤ most_rounds) s.value s.fits in omega arith)

-- what `parse` returns for a word of digits
pub rounds_parsed : {E : Type 0} (word : List ℕ) (r : Result ℕ E) → ParsesUnsigned 64 10 word r → all_ascii_digits word ≡ true
    → MatchOption (result_ok r) ((n : ℕ) → IsRoundCount word n → ⊥) (IsRoundCount word)
rounds_parsed word r h p = rounds_or_none word r (parse_digits numerals 64 word r h p) p
