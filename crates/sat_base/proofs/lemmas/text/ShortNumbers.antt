-- What the digits at the start of bytes spell.
use Rattle.std.proofs.Common.{ℕ, zero, suc, ◌+◌, ◌-◌, ◌*◌, ◌^◌, ◌<◌, ◌≤◌, ◌≡◌, ◌∙◌, Bool, true, false, Some, List, [], ◌∷◌, ◌++◌, length, take, drop, get_or, decimal, append-nil, append_assoc, refl, sym, ap, subst, arith}
use Rattle.std.proofs.lemmas.Bool.Decides.{nat_tests}
use Rattle.std.proofs.lemmas.List.{length-drop, length-take, take-append-drop}
use Rattle.std.proofs.Math.Seq.{drop-cons, take-length}
use Rattle.sat_base.specs.declared.text.Place.{Place}
use Rattle.sat_base.specs.declared.text.Place.TheVariants as at
use Rattle.sat_base.specs.text.Text.{is_blank, is_digit, digits}
use Rattle.sat_base.specs.text.Tokenizing.{MovesPlaceByByte, MovesPlaceByBytes, CanBeginWord, with_digit}
use Rattle.sat_base.specs.text.NumberWords.{IsNumberUpTo, BeginsWithNoWord, EndsNoNumber, digits_so_far}
use Rattle.sat_base.specs.text.ShortNumbers.{BeginsWithDigits}
use Rattle.sat_base.proofs.lemmas.text.NumberWords.{next_digit, so_far, no_number_stop}
use Rattle.sat_base.proofs.lemmas.text.Places.{moves_digit}
use Rattle.sat_base.proofs.lemmas.text.SeveralBytes.{moves_first, moves_first_digit, moves_digit_after_minus}
use Rattle.sat_base.proofs.lemmas.text.Words.{digits_cons, digits_nil, front_digit}

same_end : (n m : ℕ) → digits n [] ≡ Some m → n ≡ m
same_end n m e = let k : Some n ≡ Some m = sym (digits_nil n) ∙ e in cc

following : (n m d : ℕ) (ds : List ℕ) → digits n (d ∷ ds) ≡ Some m → digits (10 * n + (d - 48)) ds ≡ Some m
following n m d ds e = sym (digits_cons n d ds (front_digit n m d ds e)) ∙ e

-- more digits make no number smaller
grows : (n m : ℕ) (ds : List ℕ) → digits n ds ≡ Some m → n ≤ m
grows n m [] e = let k = same_end n m e in omega arith
grows n m (d ∷ ds) e = let k = grows (10 * n + (d - 48)) m ds (following n m d ds e) in omega arith

-- AS A DECIMAL

-- the digits of a number, and further digits
further : (n m : ℕ) (ds : List ℕ) → 0 < n → m < 2 ^ 64 → digits n ds ≡ Some m → digits_so_far n ++ ds ≡ digits_so_far m
further n m [] h l e = append-nil (digits_so_far n) ∙ ap digits_so_far (same_end n m e)
further n m (d ∷ ds) h l e =
    let f : is_digit d ≡ true = front_digit n m d ds e in
    let low : 48 ≤ d = grind (arith, nat_tests) in
    let high : d ≤ 57 = grind (arith, nat_tests) in
    let g = following n m d ds e in
    let k = grows (10 * n + (d - 48)) m ds g in
    let next = next_digit 0 (omega arith) n d low high (omega arith) (omega arith) in
    sym (append_assoc (digits_so_far n) (d ∷ []) ds) ∙ ap (λ (z : List ℕ). z ++ ds) (sym next ∙ sym (so_far (10 * n + (d - 48)) (omega arith))) ∙ further (10 * n + (d - 48)) m ds (omega arith) l g

-- `IsDecimalOf xs m` holds if the digits `xs` are those of the number `m`, which is not 0, without leading zeros.
pub record IsDecimalOf (xs : List ℕ) (m : ℕ) : Type 0 where
  pub more : 0 < m
  pub same : xs ≡ digits_so_far m

pub is_decimal : (xs : List ℕ) (m : ℕ) → 0 < length xs → (get_or xs 0 0 ≡ 48 → ⊥) → m < 2 ^ 64 → digits 0 xs ≡ Some m → IsDecimalOf xs m
is_decimal [] m h other l e = absurd (omega arith)
is_decimal (d ∷ ds) m h other l e =
    let f : is_digit d ≡ true = front_digit 0 m d ds e in
    let low : 48 ≤ d = grind (arith, nat_tests) in
    let high : d ≤ 57 = grind (arith, nat_tests) in
    let g = following 0 m d ds e in
    let some : 0 < 10 * 0 + (d - 48) = positive d low other in
    let k = grows (10 * 0 + (d - 48)) m ds g in
    let next = next_digit 0 (omega arith) 0 d low high (omega arith) some in
    record {
      more = omega arith;
      same = ap (λ (z : List ℕ). z ++ ds) (sym next ∙ sym (so_far (10 * 0 + (d - 48)) some)) ∙ further (10 * 0 + (d - 48)) m ds some l g;
    }
  where
    by_size : (d k : ℕ) → d - 48 ≡ k → 48 ≤ d → (d ≡ 48 → ⊥) → 0 < k
    by_size d zero e low other = absurd (other (omega arith))
    by_size d (suc k) e low other = omega arith

    positive : (d : ℕ) → 48 ≤ d → (d ≡ 48 → ⊥) → 0 < 10 * 0 + (d - 48)
    positive d low other = let p = by_size d (d - 48) refl low other in omega arith

module _ (bytes : List ℕ) (value count : ℕ) (b : BeginsWithDigits bytes value count) where
  taken : length (take count bytes) ≡ count
  taken = let w = b.within in omega (arith, length-take count bytes)

  first : get_or (take count bytes) 0 0 ≡ get_or bytes 0 0
  first = go count bytes b.some
    where
      go : (n : ℕ) (xs : List ℕ) → 0 < n → get_or (take n xs) 0 0 ≡ get_or xs 0 0
      go zero xs h = absurd (omega arith)
      go (suc n) [] h = refl
      go (suc n) (x ∷ xs) h = refl

  -- the digits are the decimal of the value, if the first is not 0
  pub short_digits : (get_or bytes 0 0 ≡ 48 → ⊥) → IsDecimalOf (take count bytes) value
  short_digits other = is_decimal (take count bytes) value (let s = b.some in omega (arith, taken)) (λ e. other (sym first ∙ e)) b.small b.spelt

  pub short_whole : (get_or bytes 0 0 ≡ 48 → ⊥) → bytes ≡ digits_so_far value ++ (get_or bytes count 0 ∷ drop (suc count) bytes)
  short_whole other = sym (take-append-drop count bytes) ∙ ap (λ (z : List ℕ). z ++ drop count bytes) (short_digits other).same ∙ ap (λ (z : List ℕ). digits_so_far value ++ z) (drop-cons bytes count 0 b.within)

  pub short_decimal_is : (get_or bytes 0 0 ≡ 48 → ⊥) → get_or bytes count 0 ≡ 32 → bytes ≡ decimal value ++ (32 ∷ drop (suc count) bytes)
  short_decimal_is other space =
      short_whole other ∙ ap (λ (z : List ℕ). z ++ (get_or bytes count 0 ∷ drop (suc count) bytes)) (so_far value (short_digits other).more) ∙ ap (λ (c : ℕ). decimal value ++ (c ∷ drop (suc count) bytes)) space

  -- no number within the limit begins the bytes, if the byte after the digits does not end one
  pub no_short_number : (limit : ℕ) → limit < 2 ^ 64 → (get_or bytes 0 0 ≡ 48 → ⊥) → EndsNoNumber value (get_or bytes count 0) limit → BeginsWithNoWord decimal (IsNumberUpTo limit) bytes
  no_short_number limit fits other none =
      let ends : is_digit (get_or bytes count 0) ≡ false = b.ends in
      no_number_stop limit fits value (get_or bytes count 0) bytes (drop (suc count) bytes) b.small (λ h. no_digit_within (get_or bytes count 0) ends h) none (short_whole other)
    where
      no_digit_within : (x : ℕ) → is_digit x ≡ false → (48 ≤ x) × (x ≤ 57) → ⊥
      no_digit_within x e h = grind (arith, nat_tests)

-- the bytes after the one at `k`
pub after : (xs : List ℕ) (k : ℕ) → drop (suc k) xs ≡ take (length xs - (k + 1)) (drop (k + 1) xs)
after xs k =
    let e : suc k ≡ k + 1 = omega arith in
    ap (λ m. drop m xs) e ∙ sym (take-length (drop (k + 1) xs)) ∙ ap (λ m. take m (drop (k + 1) xs)) (length-drop (k + 1) xs)

-- AS A TOKEN

moves_digits : (negative : Bool) (n m : ℕ) (ds : List ℕ) → m < 2 ^ 64 → digits n ds ≡ Some m → MovesPlaceByBytes (at.Digits negative n) ds (at.Digits negative m)
moves_digits negative n m [] l e = subst (λ k. MovesPlaceByBytes (at.Digits negative n) [] (at.Digits negative k)) (same_end n m e) (λ spot i. (spot, i, λ k rest. refl))
moves_digits negative n m (d ∷ ds) l e =
    let f : is_digit d ≡ true = front_digit n m d ds e in
    let g = following n m d ds e in
    let k = grows (10 * n + (d - 48)) m ds g in
    let same : with_digit n d ≡ 10 * n + (d - 48) = omega arith in
    let blank : is_blank d ≡ false = grind (arith, nat_tests) in
    let more : MovesPlaceByBytes (at.Digits negative (with_digit n d)) ds (at.Digits negative m) = rw same (moves_digits negative (10 * n + (d - 48)) m ds l g) in
    moves_first (at.Digits negative n) (at.Digits negative (with_digit n d)) (at.Digits negative m) d ds (moves_digit negative n d blank f) more

from_first : (negative : Bool) (old : Place) (xs : List ℕ) (m : ℕ) → ((d : ℕ) → is_digit d ≡ true → MovesPlaceByByte old d (at.Digits negative (d - 48))) → 0 < length xs → m < 2 ^ 64 → digits 0 xs ≡ Some m → MovesPlaceByBytes old xs (at.Digits negative m)
from_first negative old [] m begin h l e = absurd (omega arith)
from_first negative old (d ∷ ds) m begin h l e =
    let same : 10 * 0 + (d - 48) ≡ d - 48 = omega arith in
    let g : digits (d - 48) ds ≡ Some m = ap (λ k. digits k ds) (sym same) ∙ following 0 m d ds e in
    moves_first old (at.Digits negative (d - 48)) (at.Digits negative m) d ds (begin d (front_digit 0 m d ds e)) (moves_digits negative (d - 48) m ds l g)

module _ (bytes : List ℕ) (value count : ℕ) (b : BeginsWithDigits bytes value count) where
  pub moves_short : (old : Place) → CanBeginWord old → MovesPlaceByBytes old (take count bytes) (at.Digits false value)
  moves_short old w = from_first false old (take count bytes) value (λ d f. moves_first_digit old d w f) (let s = b.some in omega (arith, taken bytes value count b)) b.small b.spelt

  pub moves_short_after_minus : MovesPlaceByBytes at.Minus (take count bytes) (at.Digits true value)
  moves_short_after_minus = from_first true at.Minus (take count bytes) value moves_digit_after_minus (let s = b.some in omega (arith, taken bytes value count b)) b.small b.spelt
