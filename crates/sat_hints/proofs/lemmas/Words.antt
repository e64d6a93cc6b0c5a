-- Words, with a space after every word, are read in exactly one way.
use Rattle.std.proofs.Common.{ℕ, ◌+◌, ◌/◌, ◌%◌, ◌^◌, ◌<◌, ◌≤◌, ◌≡◌, ◌⊎◌, inl, inr, Bool, true, false, cond, eqb, List, [], ◌∷◌, ◌++◌, length, length-append, get_or, decimal, refl, sym, ◌∙◌, ap, subst, arith, append_assoc}
use Rattle.std.proofs.lemmas.Bool.{both_ways, eqb-true, eq-eqb}
use Rattle.std.proofs.lemmas.Fmt.{decimal_injective, decimal_nonempty, first_decimal}
use Rattle.std.proofs.lemmas.Str.Parse.{digit_from_value}
use Rattle.std.specs.List.{AllByRecursion}
use Rattle.std.specs.Str.Parse.{AllDigits}
use Rattle.sat_base.specs.values.Literals.{variable, is_positive}
use Rattle.sat_base.specs.dimacs.DimacsText.{number_text}
use Rattle.sat_hints.specs.Lines.{spaced_words, id_text}
use Rattle.sat_hints.specs.inner.LineReading.{IsId, IsVariableIndex, IsLiteralCode, BeginsWithWords}
use Rattle.sat_base.specs.text.NumberWords.{IsNumberUpTo, EndsNoNumber, BeginsWithNoWord, BeginsWithWord, digits_so_far}
use Rattle.sat_base.proofs.lemmas.text.NumberWords.{Plain, at_space, id_first, plain_number, are_digits}

-- `AreWords word P` holds if no word has a space or begins with `0`, and every word has one value.
pub record AreWords (word : ℕ → List ℕ) (P : ℕ → Type 0) : Type 0 where
  pub plain : (x : ℕ) → P x → Plain (word x)
  pub one : (x y : ℕ) → P x → P y → word x ≡ word y → x ≡ y
  pub no_zero : (x : ℕ) (rest tail : List ℕ) → P x → 48 ∷ rest ≡ word x ++ (32 ∷ tail) → ⊥

pub record SameWords (xs ys r s : List ℕ) : Type 0 where
  pub items : xs ≡ ys
  pub rests : r ≡ s

module _ (word : ℕ → List ℕ) (P : ℕ → Type 0) (w : AreWords word P) where
  -- reading as many words as possible has one result
  pub same_words : (xs ys r s : List ℕ) → AllByRecursion P xs → AllByRecursion P ys → BeginsWithNoWord word P r → BeginsWithNoWord word P s → spaced_words word xs ++ r ≡ spaced_words word ys ++ s → SameWords xs ys r s
  same_words [] [] r s p q m n e = record { items = refl; rests = e }
  same_words [] (y ∷ ys) r s p q m n e = absurd (m y (spaced_words word ys ++ s) q.0 (e ∙ append_assoc (word y) (32 ∷ spaced_words word ys) s))
  same_words (x ∷ xs) [] r s p q m n e = absurd (n x (spaced_words word xs ++ r) p.0 (sym e ∙ append_assoc (word x) (32 ∷ spaced_words word xs) r))
  same_words (x ∷ xs) (y ∷ ys) r s p q m n e =
      let f : word x ++ (32 ∷ (spaced_words word xs ++ r)) ≡ word y ++ (32 ∷ (spaced_words word ys ++ s)) = sym (append_assoc (word x) (32 ∷ spaced_words word xs) r) ∙ e ∙ append_assoc (word y) (32 ∷ spaced_words word ys) s in
      let g = at_space (word x) (word y) (spaced_words word xs ++ r) (spaced_words word ys ++ s) (w.plain x p.0) (w.plain y q.0) f in
      let h = same_words xs ys r s p.1 q.1 m n g.1 in
      record { items = pair x y xs ys (w.one x y p.0 q.0 g.0) h.items; rests = h.rests }
    where
      pair : (x y : ℕ) (xs ys : List ℕ) → x ≡ y → xs ≡ ys → (x ∷ xs) ≡ (y ∷ ys)
      pair x y xs ys h t = cc

  -- a list that `0` ends is the one that was read
  pub ended_words : (bytes xs rest : List ℕ) → BeginsWithWords word P bytes xs rest → (ys tail : List ℕ) → AllByRecursion P ys → bytes ≡ spaced_words word ys ++ (48 ∷ tail) → SameWords xs ys rest (48 ∷ tail)
  ended_words bytes xs rest r ys tail q e = same_words xs ys rest (48 ∷ tail) r.are q r.no_more (λ x t p f. w.no_zero x tail t p f) (sym r.whole ∙ e)

  -- reading one word has one result
  pub same_word : (bytes : List ℕ) (x y : ℕ) (r s : List ℕ) → BeginsWithWord word P bytes x r → P y → bytes ≡ word y ++ (32 ∷ s) → (x ≡ y) × (r ≡ s)
  same_word bytes x y r s b q e = let g = at_space (word x) (word y) r s (w.plain x b.0) (w.plain y q) (sym b.1 ∙ e) in (w.one x y b.0 q g.0, g.1)

module _ (word : ℕ → List ℕ) (P : ℕ → Type 0) where
  pub words-snoc : (xs : List ℕ) (x : ℕ) (rest : List ℕ) → spaced_words word (xs ++ (x ∷ [])) ++ rest ≡ spaced_words word xs ++ (word x ++ (32 ∷ rest))
  words-snoc [] x rest = append_assoc (word x) (32 ∷ []) rest
  words-snoc (y ∷ ys) x rest =
      append_assoc (word y) (32 ∷ spaced_words word (ys ++ (x ∷ []))) rest ∙ ap (λ t. word y ++ (32 ∷ t)) (words-snoc ys x rest) ∙ sym (append_assoc (word y) (32 ∷ spaced_words word ys) (word x ++ (32 ∷ rest)))

  all-snoc : (xs : List ℕ) (x : ℕ) → AllByRecursion P xs → P x → AllByRecursion P (xs ++ (x ∷ []))
  all-snoc [] x p q = (q, tt)
  all-snoc (y ∷ ys) x p q = (p.0, all-snoc ys x p.1 q)

  -- `ReadSoFar bytes xs rest` holds if the words of `xs` were read from the bytes so far, and `rest` is left.
  pub record ReadSoFar (bytes xs rest : List ℕ) : Type 0 where
    pub are : AllByRecursion P xs
    pub whole : bytes ≡ spaced_words word xs ++ rest

  -- one more word was read
  pub read_one : (bytes xs rest : List ℕ) (x : ℕ) (following ys : List ℕ) → ReadSoFar bytes xs rest → BeginsWithWord word P rest x following → ys ≡ xs ++ (x ∷ []) → ReadSoFar bytes ys following
  read_one bytes xs rest x following ys r b e = rw e (record {
    are = all-snoc xs x r.are b.0;
    whole = r.whole ∙ ap (λ t. spaced_words word xs ++ t) b.1 ∙ sym (words-snoc xs x following);
  })

-- THE LENGTH OF WHAT FOLLOWS
pub no_longer : (bytes front rest : List ℕ) → bytes ≡ front ++ rest → length rest ≤ length bytes
no_longer bytes front rest e = let k = ap length e in let l = length-append front rest in omega arith

pub words_shorten : (word : ℕ → List ℕ) (P : ℕ → Type 0) (bytes xs rest : List ℕ) → BeginsWithWords word P bytes xs rest → length rest ≤ length bytes
words_shorten word P bytes xs rest r = no_longer bytes (spaced_words word xs) rest r.whole

word_shortens : (bytes word rest : List ℕ) → 0 < length word → bytes ≡ word ++ (32 ∷ rest) → length rest + 2 ≤ length bytes
word_shortens bytes word rest h e = let k = ap length e in let l = length-append word (32 ∷ rest) in omega arith

pub id_shortens : (bytes : List ℕ) (id : ℕ) (rest : List ℕ) → BeginsWithWord id_text IsId bytes id rest → length rest + 2 ≤ length bytes
id_shortens bytes id rest b = let h = b.0 in word_shortens bytes (id_text id) rest (decimal_nonempty (id + 1) (omega arith)) b.1

pub literal_shortens : (bytes : List ℕ) (l : ℕ) (rest : List ℕ) → BeginsWithWord number_text IsLiteralCode bytes l rest → length rest + 2 ≤ length bytes
literal_shortens bytes l rest b = go (is_positive l) b.1
  where
    some : 0 < length (decimal (l / 2 + 1))
    some = let h = b.0 in decimal_nonempty (l / 2 + 1) (omega arith)

    go : (s : Bool) → bytes ≡ (cond s [] (45 ∷ []) ++ decimal (l / 2 + 1)) ++ (32 ∷ rest) → length rest + 2 ≤ length bytes
    go true e = word_shortens bytes (decimal (l / 2 + 1)) rest some e
    go false e = word_shortens bytes (45 ∷ decimal (l / 2 + 1)) rest (omega arith) e

-- IDs
pub ids_are_words : AreWords id_text IsId
ids_are_words = record {
  plain = λ id p. plain_number (id + 1) (omega arith);
  one = λ x y p q e. let r : x + 1 ≡ y + 1 = decimal_injective (x + 1) (y + 1) (omega arith) (omega arith) e in omega arith;
  no_zero = λ x rest tail p e. id_first (decimal (x + 1)) rest tail (decimal_nonempty (x + 1) (omega arith)) (first_decimal (x + 1) (omega arith) (omega arith)) e;
}

-- literals
plain_signed : (s : Bool) (n : ℕ) → n < 2 ^ 64 → Plain (cond s [] (45 ∷ []) ++ decimal n)
plain_signed true n h = plain_number n h
plain_signed false n h = ((λ e. omega arith), plain_number n h)

no_minus : (n : ℕ) (ds : List ℕ) → n < 2 ^ 64 → decimal n ≡ 45 ∷ ds → ⊥
no_minus n ds h e = let r = digit_from_value 45 (subst (AllDigits 10) e (are_digits n h)).0 in omega arith

same_signed : (s t : Bool) (m n : ℕ) → m < 2 ^ 64 → n < 2 ^ 64 → cond s [] (45 ∷ []) ++ decimal m ≡ cond t [] (45 ∷ []) ++ decimal n → (s ≡ t) × (m ≡ n)
same_signed true true m n h k e = (refl, decimal_injective m n h k e)
same_signed true false m n h k e = absurd (no_minus m (decimal n) h e)
same_signed false true m n h k e = absurd (no_minus n (decimal m) k (sym e))
same_signed false false m n h k e = (refl, decimal_injective m n h k (let r : decimal m ≡ decimal n = cc in r))

signed_first : (s : Bool) (n : ℕ) (rest tail : List ℕ) → 0 < n → n < 2 ^ 64 → 48 ∷ rest ≡ (cond s [] (45 ∷ []) ++ decimal n) ++ (32 ∷ tail) → ⊥
signed_first true n rest tail p h e = id_first (decimal n) rest tail (decimal_nonempty n h) (first_decimal n p h) e
signed_first false n rest tail p h e = let r : ◌≡◌ {A = ℕ} 48 45 = cc in omega arith

same_literal : (x y : ℕ) → eqb (x % 2) 0 ≡ eqb (y % 2) 0 → x / 2 ≡ y / 2 → x ≡ y
same_literal x y s v = grind arith

pub literals_are_words : AreWords number_text IsLiteralCode
literals_are_words = record {
  plain = λ l p. plain_signed (is_positive l) (variable l + 1) (omega arith);
  one = λ x y p q e. let r = same_signed (is_positive x) (is_positive y) (variable x + 1) (variable y + 1) (omega arith) (omega arith) e in
      let v : x / 2 ≡ y / 2 = (let k : x / 2 + 1 ≡ y / 2 + 1 = r.1 in omega arith) in same_literal x y r.0 v;
  no_zero = λ x rest tail p e. signed_first (is_positive x) (variable x + 1) rest tail (omega arith) (omega arith) e;
}

-- a literal's number is one more than the index of its variable
pub no_sign : (n : ℕ) (x y : List ℕ) → n < 2 ^ 64 → decimal n ++ (32 ∷ x) ≡ 45 ∷ y → ⊥
no_sign n x y h e = go (decimal n) (are_digits n h) (decimal_nonempty n h) e
  where
    go : (ds : List ℕ) → AllDigits 10 ds → 0 < length ds → ds ++ (32 ∷ x) ≡ 45 ∷ y → ⊥
    go [] d k e = omega arith
    go (c ∷ cs) d k e = let r = digit_from_value c d.0 in let s : c ≡ 45 = cc in omega arith

pub no_negative_word : (bytes following : List ℕ) → bytes ≡ 45 ∷ following → BeginsWithNoWord id_text IsVariableIndex following → BeginsWithNoWord number_text IsLiteralCode bytes
no_negative_word bytes following e none l tail p f = go (is_positive l) f
  where
    go : (s : Bool) → bytes ≡ (cond s [] (45 ∷ []) ++ decimal (l / 2 + 1)) ++ (32 ∷ tail) → ⊥
    go true f = no_sign (l / 2 + 1) tail following (omega arith) (sym f ∙ e)
    go false f = none (l / 2) tail (omega arith) (let r : 45 ∷ following ≡ 45 ∷ (decimal (l / 2 + 1) ++ (32 ∷ tail)) = sym e ∙ f in let t : following ≡ decimal (l / 2 + 1) ++ (32 ∷ tail) = cc in t)
