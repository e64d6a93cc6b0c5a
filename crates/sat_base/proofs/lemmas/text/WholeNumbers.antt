-- The effect of a number, and of the blank that ends it, on a tokenizer.
use Rattle.std.proofs.Common.{◌≡◌, ℕ, ◌+◌, ◌-◌, ◌^◌, ◌<◌, List, Bool, true, false, min, Some, length, take, get_or, refl, sym, subst}
use Rattle.sat_base.specs.declared.text.Place.TheVariants as at
use Rattle.sat_base.specs.declared.text.Token.TheVariants as code
use Rattle.sat_base.specs.declared.text.Tokenizer.{Tokenizer}
use Rattle.sat_base.specs.text.Position.{Position, unfinished_token}
use Rattle.sat_base.specs.text.Tokenizing.{GivesCappedToken, CompletesAtBlank, MovesPlaceByBytes, ReceivesByte, ReceivesPrefix}
use Rattle.sat_base.proofs.lemmas.text.Places.{says_number, after_number}
use Rattle.sat_base.proofs.lemmas.text.SeveralBytes.{follows_by, takes_front}
use Rattle.sat_base.proofs.lemmas.text.TextRuns.{takes_LF, takes_blank}

-- a blank within a line ends a number as LF does
says_at_blank : (negative : Bool) (v : ℕ) → (negative ≡ true → 0 < v) → CompletesAtBlank (Some (code.Number negative v)) (at.Digits negative v)
says_at_blank true v z spot (w, s, some_w, h, e) = let k = says_number true v z spot (w, s, some_w, h, e) in rw e (subst (λ (t : Position). GivesCappedToken (Some (code.Number true v)) (unfinished_token t)) e k)
says_at_blank false v z spot (x, w, s, h, n, l, e) = let k = says_number false v z spot (x, w, s, h, n, l, e) in rw e (subst (λ (t : Position). GivesCappedToken (Some (code.Number false v)) (unfinished_token t)) e k)

abbrev after_digits : Tokenizer → Bool → ℕ → Tokenizer
after_digits old negative v = record { place = at.Digits negative v; lines = old.lines }

pub whole_at_space : (old : Tokenizer) (xs : List ℕ) (i : ℕ) (negative : Bool) (v : ℕ) → i < length xs → get_or xs i 0 ≡ 32 → (negative ≡ true → 0 < v) → MovesPlaceByBytes old.place (take i xs) (at.Digits negative v)
    → ReceivesPrefix old (take (i + 1) xs) (Some (code.Number negative v)) (record { place = at.Between; lines = old.lines })
whole_at_space old xs i negative v small e z m =
    let mid = after_digits old negative v in
    let new : Tokenizer = record { place = at.Between; lines = old.lines } in
    let given = Some (code.Number negative v) in
    takes_front old mid new xs i given small (follows_by old (take i xs) (at.Digits negative v) m)
    (subst (λ (b : ℕ). ReceivesByte mid b given new) (sym e) (takes_blank mid 32 given at.Between (says_at_blank negative v z) (after_number negative v) refl refl))

pub whole_at_LF : (old : Tokenizer) (xs : List ℕ) (i : ℕ) (negative : Bool) (v k : ℕ) → i < length xs → get_or xs i 0 ≡ 10 → (negative ≡ true → 0 < v) → k ≡ min (old.lines + 1) (2 ^ 64 - 1) → MovesPlaceByBytes old.place (take i xs) (at.Digits negative v)
    → ReceivesPrefix old (take (i + 1) xs) (Some (code.Number negative v)) (record { place = at.Fresh false; lines = k })
whole_at_LF old xs i negative v k small e z l m =
    let mid = after_digits old negative v in
    let new : Tokenizer = record { place = at.Fresh false; lines = k } in
    let given = Some (code.Number negative v) in
    takes_front old mid new xs i given small (follows_by old (take i xs) (at.Digits negative v) m)
    (subst (λ (b : ℕ). ReceivesByte mid b given new) (sym e) (takes_LF mid given k (λ o. cc) (says_number negative v z) l))
