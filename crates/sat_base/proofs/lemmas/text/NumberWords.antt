-- Numbers before a space, digit by digit.
use Rattle.std.proofs.Common.{ℕ, zero, suc, ◌+◌, ◌-◌, ◌*◌, ◌/◌, ◌%◌, ◌^◌, ◌<◌, ◌≤◌, ◌≡◌, ◌⊎◌, inl, inr, Bool, true, false, eqb, ◌∷◌, ◌++◌, [], List, length, take, get_or, drop, decimal, append-nil, refl, sym, ◌∙◌, ap, subst, arith, append_assoc}
use Rattle.std.proofs.lemmas.Bool.{both_ways, eqb-true, eq-eqb}
use Rattle.std.proofs.lemmas.Fmt.{decimal_digit, decimal_step, decimal_is_IsNumeral, first_decimal, decimal_nonempty, decimal_injective}
use Rattle.std.proofs.lemmas.Str.Parse.{digit_from_value, digits_value-take-le}
use Rattle.std.proofs.Math.Seq.{drop-cons, take-append_seam}
use Rattle.std.specs.List.{AllByRecursion}
use Rattle.std.specs.Str.Parse.{AllDigits, digits_value}
use Rattle.std.proofs.lemmas.Int.Digits.{digits_value_push}
use Rattle.std.proofs.lemmas.Str.{digit_value_digit}
use Rattle.sat_base.specs.text.NumberWords.{IsNumberUpTo, digits_so_far, NoNumberContinues, BeginsWithNoWord, EndsNoNumber}

-- `Plain bytes` holds if none of the bytes is a space.
abbrev pub Plain : List ℕ → Type 0
Plain = AllByRecursion (λ c. c ≡ 32 → ⊥)

pub plain_digits : (ds : List ℕ) → AllDigits 10 ds → Plain ds
plain_digits [] d = tt
plain_digits (c ∷ cs) d = ((λ e. let r = digit_from_value c d.0 in omega arith), plain_digits cs d.1)

pub are_digits : (n : ℕ) → n < 2 ^ 64 → AllDigits 10 (decimal n)
are_digits n h = (decimal_is_IsNumeral n h).0.1

pub plain_number : (n : ℕ) → n < 2 ^ 64 → Plain (decimal n)
plain_number n h = plain_digits (decimal n) (are_digits n h)

digit_after : (ds : List ℕ) (b : ℕ) (more : List ℕ) → AllDigits 10 (ds ++ (b ∷ more)) → (48 ≤ b) × (b ≤ 57)
digit_after [] b more d = digit_from_value b d.0
digit_after (c ∷ ds) b more d = digit_after ds b more d.1

-- the digits of a number that has begun
pub so_far : (m : ℕ) → 1 ≤ m → digits_so_far m ≡ decimal m
so_far zero h = absurd (omega arith)
so_far (suc m) h = refl

module _ (limit : ℕ) (fits : limit < 2 ^ 64) where
  -- a byte other than a digit
  pub no_digit : (number b : ℕ) → ((48 ≤ b) × (b ≤ 57) → ⊥) → NoNumberContinues limit number b
  no_digit number b wrong n more h e = let k : n < 2 ^ 64 = omega arith in wrong (digit_after (digits_so_far number) b more (subst (AllDigits 10) e (are_digits n k)))

  -- a leading zero
  pub no_zero : (number b : ℕ) → 48 ≤ b → 10 * number + (b - 48) ≡ 0 → NoNumberContinues limit number b
  no_zero zero b low z n more h e =
      let k : n < 2 ^ 64 = omega arith in
      let f : 48 < get_or (decimal n) 0 0 = first_decimal n h.0 k in
      let g : get_or (decimal n) 0 0 ≡ b = ap (λ ds. get_or ds 0 0) e in
      omega arith
  no_zero (suc number) b low z n more h e = absurd (omega arith)

  -- a further digit
  pub next_digit : (number b : ℕ) → 48 ≤ b → b ≤ 57 → 10 * number + (b - 48) < 2 ^ 64 → 0 < 10 * number + (b - 48) → decimal (10 * number + (b - 48)) ≡ digits_so_far number ++ (b ∷ [])
  next_digit zero b low high small more =
      let e : 10 * 0 + (b - 48) ≡ b - 48 = omega arith in
      let f : 48 + (b - 48) ≡ b = omega arith in
      let one : b - 48 < 10 = omega arith in
      ap decimal e ∙ decimal_digit (b - 48) one ∙ ap (λ d. d ∷ []) f
  next_digit (suc number) b low high small more =
      let e : (10 * suc number + (b - 48)) / 10 ≡ suc number = omega arith in
      let f : 48 + (10 * suc number + (b - 48)) % 10 ≡ b = omega arith in
      let g = decimal_step (10 * suc number + (b - 48)) (omega arith) small in
      g ∙ ap (λ n. decimal n ++ ((48 + (10 * suc number + (b - 48)) % 10) ∷ [])) e ∙ ap (λ d. decimal (suc number) ++ (d ∷ [])) f

  -- a number whose decimal begins with another number's is not less; with one more digit, it is at least ten times that
  value_of : (n : ℕ) → n < 2 ^ 64 → digits_value 10 (decimal n) ≡ n
  value_of n h = (decimal_is_IsNumeral n h).1

  begun_below : (ds : List ℕ) (n : ℕ) (more : List ℕ) → n < 2 ^ 64 → decimal n ≡ ds ++ more → digits_value 10 ds ≤ n
  begun_below ds n more k e =
      let p : digits_value 10 (take (length ds) (decimal n)) ≤ digits_value 10 (decimal n) = digits_value-take-le 10 (decimal n) (length ds) (omega arith) in
      let q : take (length ds) (decimal n) ≡ ds = ap (take (length ds)) e ∙ take-append_seam ds more in
      let r : digits_value 10 (take (length ds) (decimal n)) ≡ digits_value 10 ds = ap (digits_value 10) q in
      let s = value_of n k in
      omega arith

  begun_value : (number : ℕ) → number < 2 ^ 64 → digits_value 10 (digits_so_far number) ≡ number
  begun_value zero h = refl
  begun_value (suc number) h = value_of (suc number) h

  -- a number past the limit
  pub past_limit : (number b : ℕ) → number < 2 ^ 64 → 48 ≤ b → b ≤ 57 → limit < 10 * number + (b - 48) → NoNumberContinues limit number b
  past_limit number b h low high past n more k e =
      let small : n < 2 ^ 64 = omega arith in
      let f : decimal n ≡ (digits_so_far number ++ (b ∷ [])) ++ more = e ∙ sym (append_assoc (digits_so_far number) (b ∷ []) more) in
      let g = begun_below (digits_so_far number ++ (b ∷ [])) n more small f in
      let p = digits_value_push 10 (digits_so_far number) b in
      let v = begun_value number (omega arith) in
      let d = digit_value_digit b (low, high) in
      let i : n ≤ limit = k.1 in
      omega arith

pub plain_so_far : (number : ℕ) → number < 2 ^ 64 → Plain (digits_so_far number)
plain_so_far zero h = tt
plain_so_far (suc number) h = plain_number (suc number) h

-- bytes without a space do not begin with a word and a space
no_space : (ds es y : List ℕ) → Plain ds → ds ≡ es ++ (32 ∷ y) → ⊥
no_space [] [] y p e = cc
no_space [] (c ∷ es) y p e = cc
no_space (d ∷ ds) [] y p e = p.0 (let r : d ≡ 32 = cc in r)
no_space (d ∷ ds) (c ∷ es) y p e = no_space ds es y p.1 (let r : ds ≡ es ++ (32 ∷ y) = cc in r)

-- a word that continues after the bytes of another
goes_on : (ds es : List ℕ) (b : ℕ) (x y : List ℕ) → Plain ds → (b ≡ 32 → ⊥) → ds ++ (b ∷ x) ≡ es ++ (32 ∷ y) → (more : List ℕ) × (es ≡ ds ++ (b ∷ more))
goes_on [] [] b x y p other e = absurd (other (let r : b ≡ 32 = cc in r))
goes_on [] (c ∷ es) b x y p other e = (es, let r : c ≡ b = cc in ap (λ c. c ∷ es) r)
goes_on (d ∷ ds) [] b x y p other e = absurd (p.0 (let r : d ≡ 32 = cc in r))
goes_on (d ∷ ds) (c ∷ es) b x y p other e =
    let t : ds ++ (b ∷ x) ≡ es ++ (32 ∷ y) = cc in
    let r : c ≡ d = cc in
    let more = goes_on ds es b x y p.1 other t in
    (more.0, pair c d es (ds ++ (b ∷ more.0)) r more.1)
  where
    pair : (c d : ℕ) (es ds : List ℕ) → c ≡ d → es ≡ ds → (c ∷ es) ≡ (d ∷ ds)
    pair c d es ds h t = cc

-- the first byte of a number
first_byte : (ds : List ℕ) (b : ℕ) (x y : List ℕ) → 0 < length ds → b ∷ x ≡ ds ++ (32 ∷ y) → (more : List ℕ) × (ds ≡ b ∷ more)
first_byte [] b x y h e = absurd (omega arith)
first_byte (c ∷ cs) b x y h e = (cs, let r : c ≡ b = cc in ap (λ c. c ∷ cs) r)

module _ (limit : ℕ) (fits : limit < 2 ^ 64) where
  -- a number continues after the digits so far
  pub number_goes_on : (number b : ℕ) (x : List ℕ) (n : ℕ) (tail : List ℕ) → number < 2 ^ 64 → (b ≡ 32 → number ≡ 0) → IsNumberUpTo limit n → digits_so_far number ++ (b ∷ x) ≡ decimal n ++ (32 ∷ tail) → (more : List ℕ) × (decimal n ≡ digits_so_far number ++ (b ∷ more))
  number_goes_on zero b x n tail small space k e = first_byte (decimal n) b x tail (decimal_nonempty n (omega arith)) e
  number_goes_on (suc number) b x n tail small space k e = goes_on (decimal (suc number)) (decimal n) b x tail (plain_so_far (suc number) small) (λ s. let z : suc number ≡ 0 = space s in omega arith) e

  -- no digit that can continue a number comes next
  pub no_number_so : (number b : ℕ) (bytes x : List ℕ) → number ≤ limit → (b ≡ 32 → number ≡ 0) → NoNumberContinues limit number b → bytes ≡ digits_so_far number ++ (b ∷ x) → BeginsWithNoWord decimal (IsNumberUpTo limit) bytes
  no_number_so number b bytes x h space none e n tail k f =
      let r = number_goes_on number b x n tail (omega arith) space k (sym e ∙ f) in
      none n r.0 k r.1

  -- the bytes have ended
  pub no_number_past : (number : ℕ) (bytes : List ℕ) → number < 2 ^ 64 → bytes ≡ digits_so_far number ++ [] → BeginsWithNoWord decimal (IsNumberUpTo limit) bytes
  no_number_past number bytes small e n tail k f = no_space (digits_so_far number) (decimal n) tail (plain_so_far number small) (sym (append-nil (digits_so_far number)) ∙ sym e ∙ f)

  pub no_number_end : (number : ℕ) (bytes : List ℕ) → number ≤ limit → bytes ≡ digits_so_far number ++ [] → BeginsWithNoWord decimal (IsNumberUpTo limit) bytes
  no_number_end number bytes h e = no_number_past number bytes (omega arith) e

-- DIGIT BY DIGIT
-- the first digit is not 0
pub grows : (i number b : ℕ) → i ≤ number → (i ≡ 0 → b ≡ 48 → ⊥) → 48 ≤ b → i + 1 ≤ 10 * number + (b - 48)
grows i zero b h other low = go (b - 48) refl
  where
    go : (d : ℕ) → b - 48 ≡ d → i + 1 ≤ 10 * 0 + (b - 48)
    go zero e = absurd (other (omega arith) (omega arith))
    go (suc d) e = omega arith
grows i (suc number) b h other low = omega arith

-- one more digit was read
pub one_digit_more : (bytes : List ℕ) (i number b : ℕ) → i < length bytes → b ≡ get_or bytes i 0 → 48 ≤ b → b ≤ 57 → 10 * number + (b - 48) < 2 ^ 64 → i + 1 ≤ 10 * number + (b - 48) → bytes ≡ digits_so_far number ++ drop i bytes
    → bytes ≡ digits_so_far (10 * number + (b - 48)) ++ drop (i + 1) bytes
one_digit_more bytes i number b inside is low high small more e =
    let n : suc i ≡ i + 1 = omega arith in
    let p : 0 < 10 * number + (b - 48) = omega arith in
    let d : decimal (10 * number + (b - 48)) ≡ digits_so_far number ++ (b ∷ []) = next_digit 0 (omega arith) number b low high small p in
    e
    ∙ ap (λ t. digits_so_far number ++ t) (drop-cons bytes i 0 inside ∙ ap (λ c. c ∷ drop (suc i) bytes) (sym is) ∙ ap (λ m. b ∷ drop m bytes) n)
    ∙ sym (append_assoc (digits_so_far number) (b ∷ []) (drop (i + 1) bytes))
    ∙ ap (λ ds. ds ++ drop (i + 1) bytes) (sym d ∙ sym (so_far (10 * number + (b - 48)) (omega arith)))

-- WHERE NO NUMBER BEGINS
-- two texts with a word before a space
pub at_space : (ds es x y : List ℕ) → Plain ds → Plain es → ds ++ (32 ∷ x) ≡ es ++ (32 ∷ y) → (ds ≡ es) × (x ≡ y)
at_space [] [] x y p q e = (refl, cc)
at_space [] (c ∷ cs) x y p q e = absurd (q.0 (let r : c ≡ 32 = cc in r))
at_space (d ∷ ds) [] x y p q e = absurd (p.0 (let r : d ≡ 32 = cc in r))
at_space (d ∷ ds) (c ∷ cs) x y p q e =
    let h : d ≡ c = cc in
    let t : ds ++ (32 ∷ x) ≡ cs ++ (32 ∷ y) = cc in
    let r = at_space ds cs x y p.1 q.1 t in
    (pair d c ds cs h r.0, r.1)
  where
    pair : (d c : ℕ) (ds cs : List ℕ) → d ≡ c → ds ≡ cs → (d ∷ ds) ≡ (c ∷ cs)
    pair d c ds cs h t = cc

-- a number does not begin with `0`
pub id_first : (ds : List ℕ) (rest tail : List ℕ) → 0 < length ds → 48 < get_or ds 0 0 → 48 ∷ rest ≡ ds ++ (32 ∷ tail) → ⊥
id_first [] rest tail h k e = omega arith
id_first (d ∷ ds) rest tail h k e = let r : d ≡ 48 = cc in omega arith

-- no number begins with `0`
pub no_number_zero : (limit : ℕ) → limit < 2 ^ 64 → (bytes : List ℕ) → 0 < length bytes → get_or bytes 0 0 ≡ 48 → BeginsWithNoWord decimal (IsNumberUpTo limit) bytes
no_number_zero limit fits [] h e n tail k f = omega arith
no_number_zero limit fits (b ∷ bytes) h e n tail k f =
    let g : 48 ∷ bytes ≡ decimal n ++ (32 ∷ tail) = ap (λ c. c ∷ bytes) (sym e) ∙ f in
    id_first (decimal n) bytes tail (decimal_nonempty n (omega arith)) (first_decimal n k.0 (omega arith)) g

-- digits before another byte are not a number, unless a space ends one within the limit
pub no_number_stop : (limit : ℕ) → limit < 2 ^ 64 → (number b : ℕ) (bytes x : List ℕ) → number < 2 ^ 64 → ((48 ≤ b) × (b ≤ 57) → ⊥) → EndsNoNumber number b limit → bytes ≡ digits_so_far number ++ (b ∷ x) → BeginsWithNoWord decimal (IsNumberUpTo limit) bytes
no_number_stop limit fits number b bytes x small other space e n tail k f = go (eqb b 32) refl
  where
    from : (b ≡ 32 → number ≡ 0) → ⊥
    from s = let r = number_goes_on limit fits number b x n tail small s k (sym e ∙ f) in no_digit limit fits number b other n r.0 k r.1

    over : b ≡ 32 → limit < number → ⊥
    over s past =
        let g : digits_so_far number ++ (32 ∷ x) ≡ decimal n ++ (32 ∷ tail) = ap (λ c. digits_so_far number ++ (c ∷ x)) (sym s) ∙ sym e ∙ f in
        let fit : n < 2 ^ 64 = omega arith in
        let same : digits_so_far number ≡ decimal n = (at_space (digits_so_far number) (decimal n) x tail (plain_so_far number small) (plain_number n fit) g).0 in
        let r : number ≡ n = decimal_injective number n small fit (sym (so_far number (omega arith)) ∙ same) in
        let l : n ≤ limit = k.1 in
        omega arith

    either : b ≡ 32 → (number ≡ 0) ⊎ (limit < number) → ⊥
    either s (inl z) = from (λ t. z)
    either s (inr past) = over s past

    go : (is : Bool) → eqb b 32 ≡ is → ⊥
    go true h = let s = eqb-true b 32 h in either s (space s)
    go false h = from (λ s. absurd (both_ways (eqb b 32) h (eq-eqb b 32 s)))
