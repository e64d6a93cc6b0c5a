-- An increasing list of exactly the names in use is the list that the state has.
use Rattle.std.proofs.Common.{ℕ, ◌≡◌, ◌∙◌, ◌<◌, ◌⊎◌, Bool, true, false, cond, eqb, Some, List, [], ◌∷◌, map, refl, sym, ap, arith, inl, inr}
use Rattle.std.proofs.lemmas.Bool.{eqb-true, eqb-false}
use Rattle.std.specs.List.{AllByRecursion}
use Rattle.sat_base.specs.script.Script.{Among}
use Rattle.sat_base.specs.script.ScriptState.{Named, identity_in, identity_of}
use Rattle.sat_base.proofs.lemmas.script.LiteralValues.{all_at}
use Rattle.sat_base.specs.script.ScriptStateLaws.{NamesAreIncreasing, AreIncreasing, NamesAreListed}

same_increasing : (xs ys : List ℕ) → AreIncreasing xs → AreIncreasing ys → ((n : ℕ) → Among n xs → Among n ys) → ((n : ℕ) → Among n ys → Among n xs) → xs ≡ ys
same_increasing [] [] h k there back = refl
same_increasing [] (y ∷ ys) h k there back = absurd (back y (inl refl))
same_increasing (x ∷ xs) [] h k there back = absurd (there x (inl refl))
same_increasing (x ∷ xs) (y ∷ ys) h k there back =
    let e = first in
    ap (λ z. z ∷ xs) e ∙ ap (λ zs. y ∷ zs) (same_increasing xs ys h.1 k.1 (λ n m. forth n m (there n (inr m))) (λ n m. following n m (back n (inr m))))
  where
    both : Among x ys → (y ≡ x) ⊎ Among y xs → x ≡ y
    both m at = elim at [ inl e ↦ sym e | inr l ↦ let below = all_at (λ z. y < z) x ys k.0 m in let above = all_at (λ z. x < z) y xs h.0 l in absurd (omega arith) ]

    first : x ≡ y
    first = elim (there x (inl refl)) [ inl e ↦ e | inr m ↦ both m (back y (inl refl)) ]

    forth : (n : ℕ) → Among n xs → Among n (y ∷ ys) → Among n ys
    forth n m at = elim at [ inl e ↦ let above = all_at (λ z. x < z) n xs h.0 m in let f = first in absurd (omega arith) | inr l ↦ l ]

    following : (n : ℕ) → Among n ys → Among n (x ∷ xs) → Among n xs
    following n m at = elim at [ inl e ↦ let above = all_at (λ z. y < z) n ys k.0 m in let f = first in absurd (omega arith) | inr l ↦ l ]

all_names : (P : ℕ → Type 0) (ns : List Named) → AllByRecursion (λ n. P n.name) ns → AllByRecursion P (map (λ n. n.name) ns)
all_names P [] h = tt
all_names P (n ∷ ns) h = (h.0, all_names P ns h.1)

names_increasing : (ns : List Named) → NamesAreIncreasing ns → AreIncreasing (map (λ n. n.name) ns)
names_increasing [] h = tt
names_increasing (n ∷ ns) h = (all_names (λ m. n.name < m) ns h.0, names_increasing ns h.1)

name_listed : (ns : List Named) (name i : ℕ) → identity_in ns name ≡ Some i → Among name (map (λ n. n.name) ns)
name_listed [] name i e = absurd (cc)
name_listed (n ∷ ns) name i e = go (eqb n.name name) refl e (name_listed ns name i)
  where
    go : (b : Bool) → eqb n.name name ≡ b → cond b (Some n.identity) (identity_in ns name) ≡ Some i → (identity_in ns name ≡ Some i → Among name (map (λ m. m.name) ns)) → Among name (map (λ m. m.name) (n ∷ ns))
    go true x f ih = inl (sym (eqb-true n.name name x))
    go false x f ih = inr (ih f)

pub listed_name : (ns : List Named) (name : ℕ) → Among name (map (λ n. n.name) ns) → (i : ℕ) × (identity_in ns name ≡ Some i)
listed_name [] name m = absurd m
listed_name (n ∷ ns) name m = go (eqb n.name name) refl m (listed_name ns name)
  where
    go : (b : Bool) → eqb n.name name ≡ b → Among name (map (λ m. m.name) (n ∷ ns)) → (Among name (map (λ m. m.name) ns) → (i : ℕ) × (identity_in ns name ≡ Some i)) → (i : ℕ) × (cond b (Some n.identity) (identity_in ns name) ≡ Some i)
    go true x m ih = (n.identity, refl)
    go false x m ih = elim m [ inl e ↦ absurd (differs e x) | inr l ↦ ih l ]
      where
        differs : name ≡ n.name → eqb n.name name ≡ false → ⊥
        differs e x = eqb-false n.name name x (sym e)

pub lists_in_use : NamesAreListed
lists_in_use j names order increasing all only =
    same_increasing names (map (λ n. n.name) j.in_use) increasing (names_increasing j.in_use order)
    (λ n m. let p = all_at (λ name. (i : ℕ) × (identity_of j name ≡ Some i)) n names only m in name_listed j.in_use n p.0 p.1)
    (λ n m. let p = listed_name j.in_use n m in all n p.0 p.1)
