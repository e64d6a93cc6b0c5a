-- The effect of several bytes on a tokenizer.
use Rattle.std.proofs.Common.{◌≡◌, ℕ, ◌+◌, ◌-◌, ◌<◌, eqb, List, [], ◌∷◌, ◌++◌, Bool, true, false, Option, Some, None, length, take, drop, get_or, refl, ap, subst, sym, ◌∙◌, append_assoc, arith}
use Rattle.std.specs.Prelude.{nat_eq}
use Rattle.std.proofs.lemmas.Bool.{eqb-true}
use Rattle.std.proofs.lemmas.Bool.Decides.{nat_tests}
use Rattle.std.proofs.lemmas.Grind.{common_steps}
use Rattle.std.proofs.lemmas.List.{take_more, take_all}
use Rattle.sat_base.specs.declared.text.Place.{Place}
use Rattle.sat_base.specs.declared.text.Place.TheVariants as at
use Rattle.sat_base.specs.declared.text.Token.{Token as CodeToken}
use Rattle.sat_base.specs.declared.text.Tokenizer.{Tokenizer}
use Rattle.sat_base.specs.text.Text.{is_blank, is_digit}
use Rattle.sat_base.specs.text.Position.{remaining_scan}
use Rattle.sat_base.specs.text.Chunks.{LeadsByBytes}
use Rattle.sat_base.specs.text.Tokenizing.{MovesPlaceByByte, MovesPlaceByBytes, CanBeginWord, IsInWordOfByte, with_digit, HasRemainingScan, ReceivesByte, ReceivesPrefix}
use Rattle.sat_base.proofs.lemmas.text.Words.{SpellsHeld_one, no_minus_digit, no_letter_digit}
use Rattle.sat_base.proofs.lemmas.text.Places.{moves_word, moves_fresh, moves_between, moves_minus_digit, moves_digit}

-- one more byte at the end
pub moves_more : (a b c : Place) (xs : List ℕ) (y : ℕ) → MovesPlaceByBytes a xs b → MovesPlaceByByte b y c → MovesPlaceByBytes a (xs ++ y ∷ []) c
moves_more a b c xs y f g spot i =
    let h = f spot i in
    let k = g h.0 h.1 in
    (k.0, k.1, λ n rest. ap (λ (bs : List ℕ). remaining_scan spot n bs) (append_assoc xs (y ∷ []) rest) ∙ h.2 n (y ∷ rest) ∙ k.2 n rest)

-- one more byte at the start
pub moves_first : (a b c : Place) (x : ℕ) (ys : List ℕ) → MovesPlaceByByte a x b → MovesPlaceByBytes b ys c → MovesPlaceByBytes a (x ∷ ys) c
moves_first a b c x ys f g spot i =
    let h = f spot i in
    let k = g h.0 h.1 in
    (k.0, k.1, λ n rest. h.2 n (ys ++ rest) ∙ k.2 n rest)

-- a word begins
pub moves_begun : (old new : Place) (b : ℕ) → CanBeginWord old → is_blank b ≡ false → nat_eq b 37 ≡ false → nat_eq b 99 ≡ false → nat_eq b 112 ≡ false → IsInWordOfByte b new → MovesPlaceByByte old b new
moves_begun (at.Fresh may) new b w f g h k began = moves_fresh may new b f (moves_word may new b f g h k began)
moves_begun (at.Leading may) new b w f g h k began = moves_word may new b f g h k began
moves_begun at.Between new b w f g h k began = moves_between new b f began
moves_begun e new b w f g h k began = absurd w

pub moves_minus : (old : Place) → CanBeginWord old → MovesPlaceByByte old 45 at.Minus
moves_minus old w = moves_begun old at.Minus 45 w refl refl refl refl refl

pub moves_first_digit : (old : Place) (b : ℕ) → CanBeginWord old → is_digit b ≡ true → MovesPlaceByByte old b (at.Digits false (b - 48))
moves_first_digit old b w d =
    let f : is_blank b ≡ false = grind (arith, nat_tests) in
    let small : b < 256 = grind (arith, nat_tests) in
    moves_begun old (at.Digits false (b - 48)) b w f (grind (arith, nat_tests)) (grind (arith, nat_tests)) (grind (arith, nat_tests))
    (b, [], (f, tt), SpellsHeld_one b d small, no_minus_digit b d, no_letter_digit b d, refl)

pub moves_digit_after_minus : (b : ℕ) → is_digit b ≡ true → MovesPlaceByByte at.Minus b (at.Digits true (b - 48))
moves_digit_after_minus b d = moves_minus_digit b (grind (arith, nat_tests)) d (grind (arith, nat_tests))

-- one more digit
pub moves_further_digit : (a : Place) (negative : Bool) (v : ℕ) (xs : List ℕ) (i : ℕ) → i < length xs → is_digit (get_or xs i 0) ≡ true → MovesPlaceByBytes a (take i xs) (at.Digits negative v) → MovesPlaceByBytes a (take (i + 1) xs) (at.Digits negative (with_digit v (get_or xs i 0)))
moves_further_digit a negative v xs i small d m =
    let b = get_or xs i 0 in
    let f : is_blank b ≡ false = grind (arith, nat_tests) in
    subst (λ (bs : List ℕ). MovesPlaceByBytes a bs (at.Digits negative (with_digit v b))) (sym (take_more xs i 0 small)) (moves_more a (at.Digits negative v) (at.Digits negative (with_digit v b)) (take i xs) b m (moves_digit negative v b f d))

first_of_some : (xs : List ℕ) (k : ℕ) → 0 < length xs → take (k + 1) xs ≡ get_or xs 0 0 ∷ take k (drop 1 xs)
first_of_some xs k h = grind (arith, common_steps)

all_after_first : (xs : List ℕ) → take (length xs - 1) (drop 1 xs) ≡ drop 1 xs
all_after_first xs = grind (arith, common_steps)

-- the first byte, and then a prefix of the other bytes
pub moves_from_first : (a b c : Place) (xs : List ℕ) (k : ℕ) → 0 < length xs → MovesPlaceByByte a (get_or xs 0 0) b → MovesPlaceByBytes b (take k (take (length xs - 1) (drop 1 xs))) c → MovesPlaceByBytes a (take (k + 1) xs) c
moves_from_first a b c xs k h f g =
    let following : MovesPlaceByBytes b (take k (drop 1 xs)) c = subst (λ (ys : List ℕ). MovesPlaceByBytes b (take k ys) c) (all_after_first xs) g in
    subst (λ (bs : List ℕ). MovesPlaceByBytes a bs c) (sym (first_of_some xs k h)) (moves_first a b c (get_or xs 0 0) (take k (drop 1 xs)) f following)

-- a sign, if there is one, and then a prefix of the other bytes
pub moves_signed : (old : Place) (negative : Bool) (sign value k : ℕ) (xs : List ℕ) → CanBeginWord old → 0 < length xs → negative ≡ eqb (get_or xs 0 0) 45 → (negative ≡ true → sign ≡ 1) → (negative ≡ false → sign ≡ 0)
    → MovesPlaceByBytes old (take k (take (length xs - sign) (drop sign xs))) (at.Digits false value) → MovesPlaceByBytes at.Minus (take k (take (length xs - sign) (drop sign xs))) (at.Digits true value)
    → MovesPlaceByBytes old (take (k + sign) xs) (at.Digits negative value)
moves_signed old true sign value k xs w h is one none plain minus =
    let first : get_or xs 0 0 ≡ 45 = eqb-true (get_or xs 0 0) 45 (sym is) in
    let begun : MovesPlaceByByte old (get_or xs 0 0) at.Minus = subst (λ b. MovesPlaceByByte old b at.Minus) (sym first) (moves_minus old w) in
    let following = subst (λ n. MovesPlaceByBytes at.Minus (take k (take (length xs - n) (drop n xs))) (at.Digits true value)) (one refl) minus in
    subst (λ n. MovesPlaceByBytes old (take (k + n) xs) (at.Digits true value)) (sym (one refl)) (moves_from_first old at.Minus (at.Digits true value) xs k h begun following)
moves_signed old false sign value k xs w h is one none plain minus =
    let e : take k (take (length xs - sign) (drop sign xs)) ≡ take (k + sign) xs =
    ap (λ n. take k (take (length xs - n) (drop n xs))) (none refl) ∙ ap (take k) (take_all (length xs - 0) xs (omega arith)) ∙ ap (λ n. take n xs) (let s = none refl in omega (arith, s)) in
    subst (λ (bs : List ℕ). MovesPlaceByBytes old bs (at.Digits false value)) e plain

-- bytes that lead from place to place lead the tokenizer there
pub follows_by : (old : Tokenizer) (bytes : List ℕ) (place : Place) → MovesPlaceByBytes old.place bytes place → LeadsByBytes HasRemainingScan old bytes (record { place = place; lines = old.lines })
unfolding HasRemainingScan
follows_by old bytes place m before (spot, n, i, l, e) =
    let k = m spot i in
    (remaining_scan k.0 n, (k.0, n, k.1, l, λ rest. refl), λ rest. e (bytes ++ rest) ∙ k.2 n rest)

-- one more byte after bytes that end no token
pub takes_front : (a b c : Tokenizer) (xs : List ℕ) (i : ℕ) (given : Option CodeToken) → i < length xs → LeadsByBytes HasRemainingScan a (take i xs) b → ReceivesByte b (get_or xs i 0) given c → ReceivesPrefix a (take (i + 1) xs) given c
takes_front a b c xs i given small f t = subst (λ (bs : List ℕ). ReceivesPrefix a bs given c) (sym (take_more xs i 0 small)) (following given t)
  where
    following : (g : Option CodeToken) → ReceivesByte b (get_or xs i 0) g c → ReceivesPrefix a (take i xs ++ get_or xs i 0 ∷ []) g c
    following None k before m =
        let h = f before m in
        let j = k h.0 h.1 in
        (j.0, j.1, λ rest. ap before (append_assoc (take i xs) (get_or xs i 0 ∷ []) rest) ∙ h.2 (get_or xs i 0 ∷ rest) ∙ j.2 rest)
    following (Some token) k before m =
        let h = f before m in
        let j = k h.0 h.1 in
        (j.0, j.1, (j.2.0, j.2.1, λ rest. ap before (append_assoc (take i xs) (get_or xs i 0 ∷ []) rest) ∙ h.2 (get_or xs i 0 ∷ rest) ∙ j.2.2 rest))

-- the first byte
pub takes_first : (a c : Tokenizer) (xs : List ℕ) (given : Option CodeToken) → 0 < length xs → ReceivesByte a (get_or xs 0 0) given c → ReceivesPrefix a (take 1 xs) given c
takes_first a c xs given some t = takes_front a a c xs 0 given some (λ before m. (before, m, λ rest. refl)) t
