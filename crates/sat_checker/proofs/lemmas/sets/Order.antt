-- Membership in lists does not depend on their order.
use Rattle.std.proofs.Common.{ℕ, ◌≡◌, Bool, true, false, ◌||◌, eqb, List, [], ◌∷◌, ◌++◌, reverse, refl, ◌∙◌, ap}
use Rattle.std.proofs.lemmas.List.{reverse-append}
use Rattle.sat_checker.specs.LiteralSets.{is_among}

pub among-append : (xs ys : List ℕ) (l : ℕ) → is_among (xs ++ ys) l ≡ (is_among xs l || is_among ys l)
among-append [] ys l = refl
among-append (x ∷ xs) ys l = ap (λ b. eqb x l || b) (among-append xs ys l) ∙ regroup (eqb x l) (is_among xs l) (is_among ys l)
  where
    regroup : (a b c : Bool) → (a || (b || c)) ≡ ((a || b) || c)
    regroup true b c = refl
    regroup false b c = refl

or_comm : (a b : Bool) → (a || (b || false)) ≡ (b || a)
or_comm true true = refl
or_comm true false = refl
or_comm false true = refl
or_comm false false = refl

pub among-reverse : (xs : List ℕ) (l : ℕ) → is_among (reverse xs) l ≡ is_among xs l
among-reverse [] l = refl
among-reverse (x ∷ xs) l =
    ap (λ ys. is_among ys l) (reverse-append (x ∷ []) xs) ∙ among-append (reverse xs) (x ∷ []) l ∙ or_comm (is_among (reverse xs) l) (eqb x l) ∙ ap (λ b. eqb x l || b) (among-reverse xs l)
