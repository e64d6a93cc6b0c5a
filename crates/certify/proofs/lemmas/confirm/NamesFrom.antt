-- Names that are introduced one by one.
use Rattle.std.proofs.Common.{ℕ, zero, suc, ◌+◌, ◌≡◌, List, [], ◌∷◌, ◌++◌, refl, ◌∙◌, ap, arith}
use Rattle.sat_base.specs.script.ScriptState.{ScriptState, with_name, with_names, names_from}

pub from_more : (count name : ℕ) → names_from (count + 1) name ≡ names_from count name ++ (name + count) ∷ []
from_more zero name = let e : name + 0 ≡ name = omega arith in rw e refl
from_more (suc count) name =
    let e : suc count + 1 ≡ suc (count + 1) = omega arith in
    let f : name + 1 + count ≡ name + suc count = omega arith in
    rw e (ap (λ ns. name ∷ ns) (from_more count (name + 1) ∙ ap (λ x. names_from count (name + 1) ++ x ∷ []) f))

pub from_split : (a b name : ℕ) → names_from (a + b) name ≡ names_from a name ++ names_from b (name + a)
from_split zero b name = let e : zero + b ≡ b = omega arith in let f : name + zero ≡ name = omega arith in rw (e, f) refl
from_split (suc a) b name =
    let e : suc a + b ≡ suc (a + b) = omega arith in
    let f : name + 1 + a ≡ name + suc a = omega arith in
    rw e (ap (λ ns. name ∷ ns) (from_split a b (name + 1) ∙ ap (λ x. names_from a (name + 1) ++ names_from b x) f))

pub with_names_append : (xs ys : List ℕ) (j : ScriptState) → with_names (xs ++ ys) j ≡ with_names ys (with_names xs j)
with_names_append [] ys j = refl
with_names_append (x ∷ xs) ys j = with_names_append xs ys (with_name x j)
