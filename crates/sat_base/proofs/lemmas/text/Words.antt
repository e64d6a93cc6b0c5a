-- The meaning of the bytes of an unfinished word.
use Rattle.std.proofs.Common.{◌≡◌, ℕ, ◌+◌, ◌*◌, ◌-◌, ◌<◌, List, [], ◌∷◌, ◌++◌, Bool, true, false, cond, eqb, Option, Some, None, refl, sym, ap, subst, ◌∙◌, append_assoc, arith}
use Rattle.std.proofs.lemmas.List.{append-nil}
use Rattle.std.proofs.lemmas.Bool.Decides.{nat_tests}
use Rattle.sat_base.specs.text.Text.{is_digit, is_letter, digits, unsigned_token, negative_token, after_minus, letter_token, token, Number, Letter, Wrong}
use Rattle.sat_base.specs.text.Tokenizing.{SpellsCapped, BeginsWrongWord, with_digit}

pub digits_cons : (n d : ℕ) (ds : List ℕ) → is_digit d ≡ true → digits n (d ∷ ds) ≡ digits (10 * n + (d - 48)) ds
unfolding digits
digits_cons n d ds e = rw e refl

pub digits_stop : (n d : ℕ) (ds : List ℕ) → is_digit d ≡ false → digits n (d ∷ ds) ≡ None
unfolding digits
digits_stop n d ds e = rw e refl

pub digits_nil : (n : ℕ) → digits n [] ≡ Some n
unfolding digits
digits_nil n = refl

guarded : {A : Type 0} (b : Bool) (o : Option A) (m : A) → cond b o None ≡ Some m → b ≡ true
guarded true o m h = refl
guarded false o m h = absurd cc

pub front_digit : (n m x : ℕ) (ds : List ℕ) → digits n (x ∷ ds) ≡ Some m → is_digit x ≡ true
unfolding digits
front_digit n m x ds h = guarded (is_digit x) (digits (10 * n + (x - 48)) ds) m h

-- one more digit
digits_more : (n m d : ℕ) (ds : List ℕ) → digits n ds ≡ Some m → is_digit d ≡ true → digits n (ds ++ d ∷ []) ≡ Some (10 * m + (d - 48))
digits_more n m d [] h e =
    let same : n ≡ m = let k : Some n ≡ Some m = sym (digits_nil n) ∙ h in cc in
    digits_cons n d [] e ∙ digits_nil (10 * n + (d - 48)) ∙ ap (λ (k : ℕ). Some (10 * k + (d - 48))) same
digits_more n m d (x ∷ ds) h e =
    let f = front_digit n m x ds h in
    digits_cons n x (ds ++ d ∷ []) f ∙ digits_more (10 * n + (x - 48)) m d ds (sym (digits_cons n x ds f) ∙ h) e

-- a byte other than a digit
digits_wrong : (n m d : ℕ) (ds more : List ℕ) → digits n ds ≡ Some m → is_digit d ≡ false → digits n (ds ++ d ∷ more) ≡ None
digits_wrong n m d [] more h e = digits_stop n d more e
digits_wrong n m d (x ∷ ds) more h e =
    let f = front_digit n m x ds h in
    digits_cons n x (ds ++ d ∷ more) f ∙ digits_wrong (10 * n + (x - 48)) m d ds more (sym (digits_cons n x ds f) ∙ h) e

pub digits_wrong_in : (m d : ℕ) (ds more : List ℕ) → digits 0 ds ≡ Some m → is_digit d ≡ false → digits 0 ((ds ++ d ∷ []) ++ more) ≡ None
digits_wrong_in m d ds more h e = ap (digits 0) (append_assoc ds (d ∷ []) more) ∙ digits_wrong 0 m d ds more h e

-- a single digit
pub SpellsHeld_one : (d : ℕ) → is_digit d ≡ true → d < 256 → SpellsCapped (d ∷ []) (d - 48)
SpellsHeld_one d e b = (d - 48, digits_cons 0 d [] e ∙ digits_nil (10 * 0 + (d - 48)) ∙ ap (λ (k : ℕ). Some k) (omega arith), omega arith)

pub SpellsHeld_more : (ds : List ℕ) (v d : ℕ) → SpellsCapped ds v → is_digit d ≡ true → SpellsCapped (ds ++ d ∷ []) (with_digit v d)
SpellsHeld_more ds v d s e = (10 * s.0 + (d - 48), digits_more 0 s.0 d ds s.1 e, omega (arith, s.2))

not_eqb : (x y : ℕ) → (x ≡ y → ⊥) → eqb x y ≡ false
not_eqb x y h = grind (arith, nat_tests)

token_plain : (x : ℕ) (w : List ℕ) → (x ≡ 45 → ⊥) → is_letter x ≡ false → token (x ∷ w) ≡ unsigned_token (digits 0 (x ∷ w))
unfolding token
token_plain x w n l = rw (not_eqb x 45 n, l) refl

token_minus : (w : List ℕ) → token (45 ∷ w) ≡ after_minus w
unfolding token
token_minus w = refl

token_letter : (x : ℕ) (w : List ℕ) → (x ≡ 45 → ⊥) → is_letter x ≡ true → token (x ∷ w) ≡ letter_token x w
unfolding token
token_letter x w n l = rw (not_eqb x 45 n, l) refl

pub no_minus_digit : (d : ℕ) → is_digit d ≡ true → d ≡ 45 → ⊥
no_minus_digit d e f = let g : is_digit 45 ≡ true = subst (λ (k : ℕ). is_digit k ≡ true) f e in cc

no_minus_letter : (d : ℕ) → is_letter d ≡ true → d ≡ 45 → ⊥
no_minus_letter d e f = let g : is_letter 45 ≡ true = subst (λ (k : ℕ). is_letter k ≡ true) f e in cc

pub no_letter_digit : (d : ℕ) → is_digit d ≡ true → is_letter d ≡ false
no_letter_digit d e = grind (arith, nat_tests)

pub BeginsWrong_more : (w : List ℕ) (b : ℕ) → BeginsWrongWord w → BeginsWrongWord (w ++ b ∷ [])
BeginsWrong_more w b h more = ap token (append_assoc w (b ∷ []) more) ∙ h (b ∷ more)

-- a first byte other than a digit, a letter or `-`
pub BeginsWrong_first : (b : ℕ) → is_digit b ≡ false → is_letter b ≡ false → (b ≡ 45 → ⊥) → BeginsWrongWord (b ∷ [])
BeginsWrong_first b e l n more = token_plain b more n l ∙ ap unsigned_token (digits_stop 0 b more e)

-- a letter before another byte
pub BeginsWrong_letter : (b c : ℕ) → is_letter b ≡ true → BeginsWrongWord (b ∷ c ∷ [])
BeginsWrong_letter b c l more = token_letter b (c ∷ more) (no_minus_letter b l) l

-- after digits, a byte other than a digit
pub BeginsWrong_plain : (x : ℕ) (w : List ℕ) (v b : ℕ) → SpellsCapped (x ∷ w) v → (x ≡ 45 → ⊥) → is_letter x ≡ false → is_digit b ≡ false → BeginsWrongWord ((x ∷ w) ++ b ∷ [])
BeginsWrong_plain x w v b s n l e more =
    ap token (append_assoc (x ∷ w) (b ∷ []) more) ∙ token_plain x (w ++ b ∷ more) n l ∙ ap unsigned_token (digits_wrong 0 s.0 b (x ∷ w) more s.1 e)

-- after `-`, a byte other than a digit
pub BeginsWrong_minus : (b : ℕ) → is_digit b ≡ false → BeginsWrongWord (45 ∷ b ∷ [])
BeginsWrong_minus b e more = token_minus (b ∷ more) ∙ ap negative_token (digits_stop 0 b more e)

after_minus_is : (w : List ℕ) → (w ≡ [] → ⊥) → after_minus w ≡ negative_token (digits 0 w)
after_minus_is [] h = absurd (h refl)
after_minus_is (d ∷ w) h = refl

some_more : (w : List ℕ) (b : ℕ) (more : List ℕ) → w ++ b ∷ more ≡ [] → ⊥
some_more [] b more e = cc
some_more (x ∷ w) b more e = cc

pub BeginsWrong_negative : (w : List ℕ) (v b : ℕ) → SpellsCapped w v → is_digit b ≡ false → BeginsWrongWord ((45 ∷ w) ++ b ∷ [])
BeginsWrong_negative w v b s e more =
    ap token (append_assoc (45 ∷ w) (b ∷ []) more) ∙ token_minus (w ++ b ∷ more) ∙ after_minus_is (w ++ b ∷ more) (some_more w b more) ∙ ap negative_token (digits_wrong 0 s.0 b w more s.1 e)

-- the token of an unfinished word that ends
pub word_plain : (x : ℕ) (w : List ℕ) (m : ℕ) → digits 0 (x ∷ w) ≡ Some m → (x ≡ 45 → ⊥) → is_letter x ≡ false → token (x ∷ w) ≡ Number false m
word_plain x w m e n l = token_plain x w n l ∙ ap unsigned_token e

pub word_minus : (w : List ℕ) (m : ℕ) → digits 0 w ≡ Some m → (w ≡ [] → ⊥) → token (45 ∷ w) ≡ negative_token (Some m)
word_minus w m e n = token_minus w ∙ after_minus_is w n ∙ ap negative_token e

pub word_bare : token (45 ∷ []) ≡ Wrong
word_bare = token_minus []

pub word_letter : (b : ℕ) → is_letter b ≡ true → token (b ∷ []) ≡ Letter b
word_letter b l = token_letter b [] (no_minus_letter b l) l

pub word_wrong : (w : List ℕ) → BeginsWrongWord w → token w ≡ Wrong
word_wrong w h = ap token (sym (append-nil w)) ∙ h []
