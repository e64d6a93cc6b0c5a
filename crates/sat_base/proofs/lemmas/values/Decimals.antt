-- The digits of numbers.
use Rattle.std.proofs.Common.{ℕ, suc, ◌+◌, ◌/◌, ◌%◌, ◌^◌, ◌<◌, ◌≤◌, ◌≡◌, List, [], ◌∷◌, ◌++◌, length, length-append, take, set, decimal, sym, ◌∙◌, ap, arith, append_assoc}
use Rattle.std.proofs.lemmas.Fmt.{decimal_digit, decimal_step, length-decimal-le}
use Rattle.std.proofs.Math.Seq.{take-suc-set}

pub two_digits : (n : ℕ) → 10 ≤ n → n < 100 → decimal n ≡ (48 + n / 10) ∷ (48 + n % 10) ∷ []
two_digits n h l = decimal_step n h (omega arith) ∙ ap (λ ds. ds ++ (48 + n % 10) ∷ []) (decimal_digit (n / 10) (omega arith))

pub more_digits : (n : ℕ) → 100 ≤ n → n < 2 ^ 64 → decimal n ≡ decimal (n / 100) ++ (48 + n % 100 / 10) ∷ (48 + n % 100 % 10) ∷ []
more_digits n h l =
    let a : n / 10 / 10 ≡ n / 100 = omega arith in
    let b : n / 10 % 10 ≡ n % 100 / 10 = omega arith in
    let c : n % 10 ≡ n % 100 % 10 = omega arith in
    decimal_step n (omega arith) l
    ∙ ap (λ ds. ds ++ (48 + n % 10) ∷ []) (decimal_step (n / 10) (omega arith) (omega arith))
    ∙ append_assoc (decimal (n / 10 / 10)) ((48 + n / 10 % 10) ∷ []) ((48 + n % 10) ∷ [])
    ∙ ap (λ m. decimal m ++ (48 + n / 10 % 10) ∷ (48 + n % 10) ∷ []) a
    ∙ ap (λ m. decimal (n / 100) ++ (48 + m) ∷ (48 + n % 10) ∷ []) b
    ∙ ap (λ m. decimal (n / 100) ++ (48 + n % 100 / 10) ∷ (48 + m) ∷ []) c

pub more_length : (n : ℕ) → 100 ≤ n → n < 2 ^ 64 → length (decimal n) ≡ length (decimal (n / 100)) + 2
more_length n h l = ap length (more_digits n h l) ∙ length-append (decimal (n / 100)) ((48 + n % 100 / 10) ∷ (48 + n % 100 % 10) ∷ [])

pub one_put : (bytes : List ℕ) (len x : ℕ) → len < length bytes → take (len + 1) (set bytes len x) ≡ take len bytes ++ x ∷ []
one_put bytes len x h = let e : len + 1 ≡ suc len = omega arith in ap (λ n. take n (set bytes len x)) e ∙ take-suc-set bytes len x h

-- two more digits
pub after_pair : (old before now : List ℕ) (len at n : ℕ) → 100 ≤ n → n < 2 ^ 64 → take at before ≡ take len old ++ decimal (n / 100) → take (at + 2) now ≡ take at before ++ (48 + n % 100 / 10) ∷ (48 + n % 100 % 10) ∷ [] → take (at + 2) now ≡ take len old ++ decimal n
after_pair old before now len at n h l e f =
    let pair : List ℕ = (48 + n % 100 / 10) ∷ (48 + n % 100 % 10) ∷ [] in
    f ∙ ap (λ t. t ++ pair) e ∙ append_assoc (take len old) (decimal (n / 100)) pair ∙ ap (λ t. take len old ++ t) (sym (more_digits n h l))

-- the number of digits
pub three_length : (n : ℕ) → 100 ≤ n → n < 1000 → length (decimal n) ≡ 3
three_length n h l = more_length n h (omega arith) ∙ ap (λ ds. length ds + 2) (decimal_digit (n / 100) (omega arith))

pub four_length : (n : ℕ) → 1000 ≤ n → n < 10000 → length (decimal n) ≡ 4
four_length n h l = more_length n (omega arith) (omega arith) ∙ ap (λ ds. length ds + 2) (two_digits (n / 100) (omega arith) (omega arith))

pub few_digits : (n : ℕ) → n < 2 ^ 64 → length (decimal n) ≤ 20
few_digits n h = length-decimal-le 20 n (omega arith) (omega arith) h
