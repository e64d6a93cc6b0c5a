-- Names and literals as words before a space.
use Rattle.std.proofs.Common.{ℕ, ◌+◌, ◌-◌, ◌%◌, ◌<◌, ◌≤◌, ◌≡◌, ◌≢◌, ◌⊎◌, inl, inr, Bool, true, false, not, cond, eqb, ◌∷◌, ◌++◌, List, length, take, drop, get_or, decimal, refl, sym, ◌∙◌, ap, subst, arith, append_assoc, []}
use Rattle.std.proofs.lemmas.Bool.{true≢false, eqb-true, eq-eqb, ne_eqb}
use Rattle.std.proofs.lemmas.List.{take_all}
use Rattle.std.proofs.lemmas.Fmt.{decimal_nonempty}
use Rattle.std.proofs.lemmas.Str.Parse.{digit_from_value}
use Rattle.std.specs.Str.Parse.{AllDigits}
use Rattle.sat_base.specs.values.Literals.{var_limit, variable, is_positive, mk_lit}
use Rattle.sat_base.specs.text.NumberWords.{BeginsWithWord, NoNumberContinues, BeginsWithNoWord, digits_so_far}
use Rattle.sat_base.proofs.lemmas.text.NumberWords.{no_number_so}
use Rattle.certify.specs.answers.AnswerForms.{IsName}
use Rattle.certify.specs.answers.AnswerReading.{BeginsWithLiteral, BeginsNoLiteral, CannotBeginLiteral, CannotBeginName}
use Rattle.certify.proofs.lemmas.laws.DistinctTexts.{small, numeral}

-- a space comes next only if no digit has been read
pub at_zero : (b name : ℕ) → ((b ≡ 32) × (name ≤ 0)) ⊎ (b ≢ 32) → b ≡ 32 → name ≡ 0
at_zero b name (inl h) e = omega arith
at_zero b name (inr h) e = absurd (h e)

-- a name does not begin with a minus sign
no_minus : (n : ℕ) (x y : List ℕ) → n ≤ var_limit → decimal n ++ (32 ∷ x) ≡ 45 ∷ y → ⊥
no_minus n x y h e = go (decimal n) (numeral n h).0 (decimal_nonempty n (small n h)) e
  where
    go : (ds : List ℕ) → AllDigits 10 ds → 0 < length ds → ds ++ (32 ∷ x) ≡ 45 ∷ y → ⊥
    go [] d k e = omega arith
    go (c ∷ cs) d k e = let r = digit_from_value c d.0 in let s : c ≡ 45 = cc in omega arith

-- without a name after the sign, there is no literal
pub no_negative : (bytes following : List ℕ) → bytes ≡ 45 ∷ following → BeginsWithNoWord decimal IsName following → BeginsNoLiteral bytes
no_negative bytes following e none l tail h f = go l.positive l.name h f
  where
    go : (s : Bool) (n : ℕ) → IsName n → bytes ≡ (cond s [] (45 ∷ []) ++ decimal n) ++ (32 ∷ tail) → ⊥
    go true n h f = no_minus n tail following h.1 (sym f ∙ e)
    go false n h f = none n tail h (let r : 45 ∷ following ≡ 45 ∷ (decimal n ++ (32 ∷ tail)) = sym e ∙ f in let t : following ≡ decimal n ++ (32 ∷ tail) = cc in t)

-- THE SIGN BEFORE A NAME

-- `SkipsSign bytes rest negative` holds if the bytes are a minus sign and then `rest`, or, if `negative` is false, are
-- `rest` and do not begin with a minus sign.
abbrev pub SkipsSign : List ℕ → List ℕ → Bool → Type 0
SkipsSign bytes rest true = bytes ≡ 45 ∷ rest
SkipsSign bytes rest false = (bytes ≡ rest) × ((tail : List ℕ) → bytes ≡ 45 ∷ tail → ⊥)

-- the code skips the sign, if there is one
pub sign_skipped : (bytes rest : List ℕ) (negative : Bool) (start : ℕ) → 0 < length bytes → negative ≡ eqb (get_or bytes 0 0) 45 → (negative ≡ true → start ≡ 1) → (negative ≡ false → start ≡ 0) → rest ≡ take (length bytes - start) (drop start bytes) → SkipsSign bytes rest negative
sign_skipped [] rest negative start h is one none r = absurd (omega arith)
sign_skipped (b ∷ bs) rest true start h is one none r =
    let e : rest ≡ bs = r ∙ ap (λ m. take (length (b ∷ bs) - m) (drop m (b ∷ bs))) (one refl) ∙ take_all (length (b ∷ bs) - 1) bs (omega arith) in
    ap (λ c. c ∷ bs) (eqb-true b 45 (sym is)) ∙ ap (λ t. 45 ∷ t) (sym e)
sign_skipped (b ∷ bs) rest false start h is one none r =
    let e : rest ≡ b ∷ bs = r ∙ ap (λ m. take (length (b ∷ bs) - m) (drop m (b ∷ bs))) (none refl) ∙ take_all (length (b ∷ bs) - 0) (b ∷ bs) (omega arith) in
    (sym e, (λ tail f. let g : b ≡ 45 = cc in true≢false (sym (eq-eqb b 45 g) ∙ sym is)))

-- without a name after the sign, if there is one, there is no literal
pub no_literal_after : (bytes rest : List ℕ) (negative : Bool) → SkipsSign bytes rest negative → BeginsWithNoWord decimal IsName rest → BeginsNoLiteral bytes
no_literal_after bytes rest true e none = no_negative bytes rest e none
no_literal_after bytes rest false e none = λ l tail h f. go l.positive l.name tail h f
  where
    go : (s : Bool) (n : ℕ) (tail : List ℕ) → IsName n → bytes ≡ (cond s [] (45 ∷ []) ++ decimal n) ++ (32 ∷ tail) → ⊥
    go true n tail h f = none n tail h (sym e.0 ∙ f)
    go false n tail h f = e.1 (decimal n ++ (32 ∷ tail)) f

with_sign : (bytes rest tail : List ℕ) (negative : Bool) (name : ℕ) → SkipsSign bytes rest negative → rest ≡ decimal name ++ (32 ∷ tail) → bytes ≡ (cond (not negative) [] (45 ∷ []) ++ decimal name) ++ (32 ∷ tail)
with_sign bytes rest tail true name e b = e ∙ ap (λ t. 45 ∷ t) b
with_sign bytes rest tail false name e b = e.0 ∙ b

name_coded : (name : ℕ) (s : Bool) → 1 ≤ name → variable (mk_lit (name - 1) s) + 1 ≡ name
name_coded name true h = omega arith
name_coded name false h = omega arith

sign_coded : (v : ℕ) (s : Bool) → is_positive (mk_lit v s) ≡ s
sign_coded v true = eq-eqb (mk_lit v true % 2) 0 (omega arith)
sign_coded v false = ne_eqb (mk_lit v false % 2) 0 (λ e. omega arith)

-- a name after the sign, if there is one, gives a literal
pub literal_begins : (bytes rest tail : List ℕ) (negative : Bool) (name l : ℕ) → SkipsSign bytes rest negative → BeginsWithWord decimal IsName rest name tail → l ≡ mk_lit (name - 1) (not negative) → BeginsWithLiteral bytes l tail
literal_begins bytes rest tail negative name l s b is =
    let v : variable l + 1 ≡ name = ap (λ c. variable c + 1) is ∙ name_coded name (not negative) b.0.0 in
    let p : is_positive l ≡ not negative = ap is_positive is ∙ sign_coded (name - 1) (not negative) in (
      subst IsName (sym v) b.0,
      with_sign bytes rest tail negative name s b.1 ∙ ap (λ t. (cond t [] (45 ∷ []) ++ decimal name) ++ (32 ∷ tail)) (sym p) ∙ ap (λ n. (cond (is_positive l) [] (45 ∷ []) ++ decimal n) ++ (32 ∷ tail)) (sym v),
    )

-- BYTES THAT ARE NO PREFIX OF A NAME

pub starts_no_name : (name b : ℕ) (bytes x : List ℕ) → name ≤ var_limit → (b ≡ 32 → name ≡ 0) → NoNumberContinues var_limit name b → bytes ≡ digits_so_far name ++ (b ∷ x) → CannotBeginName bytes
starts_no_name name b bytes x h space none e more = no_number_so var_limit (omega arith) name b (bytes ++ more) (x ++ more) h space none (ap (λ t. t ++ more) e ∙ append_assoc (digits_so_far name) (b ∷ x) more)

pub starts_no_negative : (bytes following : List ℕ) → bytes ≡ 45 ∷ following → CannotBeginName following → CannotBeginLiteral bytes
starts_no_negative bytes following e none more = no_negative (bytes ++ more) (following ++ more) (ap (λ t. t ++ more) e) (none more)

-- the empty text is a prefix of a name and a space
starts_some : (bytes : List ℕ) → CannotBeginName bytes → bytes ≡ [] → ⊥
starts_some bytes none e = none (decimal 1 ++ (32 ∷ [])) 1 [] (omega arith, omega arith) (ap (λ t. t ++ (decimal 1 ++ (32 ∷ []))) e)

pub starts_no_positive : (bytes : List ℕ) → ((tail : List ℕ) → bytes ≡ 45 ∷ tail → ⊥) → CannotBeginName bytes → CannotBeginLiteral bytes
starts_no_positive bytes other none more l tail h f = go l.positive l.name h f
  where
    with_minus : (bytes x y : List ℕ) → (bytes ≡ [] → ⊥) → ((tail : List ℕ) → bytes ≡ 45 ∷ tail → ⊥) → bytes ++ x ≡ 45 ∷ y → ⊥
    with_minus [] x y some other e = some refl
    with_minus (b ∷ bs) x y some other e = let same : b ≡ 45 = cc in other bs (ap (λ c. c ∷ bs) same)

    go : (s : Bool) (n : ℕ) → IsName n → bytes ++ more ≡ (cond s [] (45 ∷ []) ++ decimal n) ++ (32 ∷ tail) → ⊥
    go true n h f = none more n tail h f
    go false n h f = with_minus bytes more (decimal n ++ (32 ∷ tail)) (starts_some bytes none) other f
