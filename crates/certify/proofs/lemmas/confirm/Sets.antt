-- Sorted sets, and the lists with the same elements.
use Rattle.std.proofs.Common.{ℕ, ◌≡◌, ◌&&◌, Bool, true, false, List, [], ◌∷◌, refl, sym, ◌∙◌, ap, subst, inl, inr}
use Rattle.std.specs.Bool.{MatchBool}
use Rattle.std.specs.List.{AllByRecursion, list_all}
use Rattle.sat_base.specs.script.Script.{Among}
use Rattle.sat_checker.specs.LiteralSets.{is_among, is_subset_of, canonical}
use Rattle.sat_checker.proofs.lemmas.sets.Canonical.{canonical_among}
use Rattle.certify.specs.confirm.SpeltLiterals.{AllAmong}
use Rattle.certify.proofs.lemmas.confirm.LiteralSets.{among_is, is_from_among}

each_of : (P : ℕ → Type 0) (xs : List ℕ) (l : ℕ) → AllByRecursion P xs → Among l xs → P l
each_of P [] l h m = absurd m
each_of P (x ∷ xs) l h (inl e) = subst P (sym e) h.0
each_of P (x ∷ xs) l h (inr m) = each_of P xs l h.1 m

all_of : (P : ℕ → Type 0) (xs : List ℕ) → ((l : ℕ) → Among l xs → P l) → AllByRecursion P xs
all_of P [] f = tt
all_of P (x ∷ xs) f = (f x (inl refl), all_of P xs (λ l m. f l (inr m)))

part_all : (ys xs : List ℕ) → list_all (is_among ys) xs ≡ true → AllByRecursion (λ l. is_among ys l ≡ true) xs
part_all ys [] e = tt
part_all ys (x ∷ xs) e = go (is_among ys x) refl e (part_all ys xs)
  where
    go : (b : Bool) → is_among ys x ≡ b → b && list_all (is_among ys) xs ≡ true → (list_all (is_among ys) xs ≡ true → AllByRecursion (λ l. is_among ys l ≡ true) xs) → AllByRecursion (λ l. is_among ys l ≡ true) (x ∷ xs)
    go true at f ih = (at, ih f)
    go false at f ih = absurd (cc)

all_part : (ys xs : List ℕ) → AllByRecursion (λ l. is_among ys l ≡ true) xs → list_all (is_among ys) xs ≡ true
all_part ys [] h = refl
all_part ys (x ∷ xs) h = rw (h.0) (all_part ys xs h.1)

into : (xs : List ℕ) (l : ℕ) → Among l xs → is_among (canonical xs) l ≡ true
into xs l m = canonical_among xs l ∙ is_from_among xs l m

out : (xs : List ℕ) (l : ℕ) → is_among (canonical xs) l ≡ true → Among l xs
out xs l e = among_is xs l (sym (canonical_among xs l) ∙ e)

parts : (xs ys : List ℕ) → is_subset_of (canonical xs) (canonical ys) ≡ true → AllAmong xs ys
parts xs ys e = all_of (λ l. Among l ys) xs (λ l m.
    out ys l (each_of (λ k. is_among (canonical ys) k ≡ true) (canonical xs) l (part_all (canonical ys) (canonical xs) e) (among_is (canonical xs) l (into xs l m))))

parted : (xs ys : List ℕ) → AllAmong xs ys → is_subset_of (canonical xs) (canonical ys) ≡ true
parted xs ys h = all_part (canonical ys) (canonical xs) (all_of (λ l. is_among (canonical ys) l ≡ true) (canonical xs) (λ l m.
    into ys l (each_of (λ k. Among k ys) xs l h (out xs l (is_from_among (canonical xs) l m)))))

and_true : (b : Bool) → b && true ≡ b
and_true true = refl
and_true false = refl

pub part_reports : (xs ys a b : List ℕ) (answer : Bool) → a ≡ canonical xs → b ≡ canonical ys → answer ≡ (is_subset_of a b && true) → MatchBool answer (AllAmong xs ys) (AllAmong xs ys → ⊥)
part_reports xs ys a b answer p q e = go answer (e ∙ and_true (is_subset_of a b) ∙ ap (λ (x : List ℕ). is_subset_of x b) p ∙ ap (λ (x : List ℕ). is_subset_of (canonical xs) x) q)
  where
    go : (y : Bool) → y ≡ is_subset_of (canonical xs) (canonical ys) → MatchBool y (AllAmong xs ys) (AllAmong xs ys → ⊥)
    go true f = parts xs ys (sym f)
    go false f = λ h. let g : false ≡ true = f ∙ parted xs ys h in absurd (cc)
