-- What holds for every literal of a list.
use Rattle.std.proofs.Common.{ℕ, ◌≡◌, Bool, true, false, cond, eqb, ltb, List, [], ◌∷◌, map, refl, sym, subst, inl, inr}
use Rattle.std.proofs.lemmas.Bool.{or_cases, or_left, or_right, eqb-true, eq-eqb, true≢false}
use Rattle.std.specs.List.{AllByRecursion}
use Rattle.sat_checker.specs.LiteralSets.{is_among, with_literal, canonical}

-- what holds for every literal of a clause holds for its canonical form
pub canonical_each : (P : ℕ → Type 0) (c : List ℕ) → AllByRecursion P c → AllByRecursion P (canonical c)
canonical_each P [] h = tt
canonical_each P (l ∷ ls) h = put l (canonical ls) h.0 (canonical_each P ls h.1)
  where
    put : (l : ℕ) (ms : List ℕ) → P l → AllByRecursion P ms → AllByRecursion P (with_literal l ms)
    put l [] p k = (p, tt)
    put l (m ∷ ms) p k = turn (ltb l m) (eqb l m) (put l ms p k.1)
      where
        turn : (b e : Bool) → AllByRecursion P (with_literal l ms) → AllByRecursion P (cond b (l ∷ m ∷ ms) (cond e (m ∷ ms) (m ∷ with_literal l ms)))
        turn true e ih = (p, k)
        turn false true ih = k
        turn false false ih = (k.0, ih)

-- what holds for all members holds for the list
pub each_member : (P : ℕ → Type 0) (us : List ℕ) → ((l : ℕ) → is_among us l ≡ true → P l) → AllByRecursion P us
each_member P [] h = tt
each_member P (u ∷ us) h = (h u (or_left (eqb u u) (is_among us u) (eq-eqb u u refl)), each_member P us (λ l k. h l (or_right (eqb u l) (is_among us l) k)))

-- what holds for the list holds for every member
pub each_at : (P : ℕ → Type 0) (us : List ℕ) (l : ℕ) → AllByRecursion P us → is_among us l ≡ true → P l
each_at P [] l h m = absurd (true≢false (sym m))
each_at P (u ∷ us) l h m = elim (or_cases (eqb u l) (is_among us l) m) [ inl e ↦ subst P (eqb-true u l e) h.0 | inr k ↦ each_at P us l h.1 k ]

-- what holds for every item of a mapped list holds for the image of every item
pub each_mapped : {A B : Type 0} (P : B → Type 0) (f : A → B) (xs : List A) → AllByRecursion P (map f xs) → AllByRecursion (λ x. P (f x)) xs
each_mapped P f [] h = tt
each_mapped P f (x ∷ xs) h = (h.0, each_mapped P f xs h.1)

-- what holds for every item still holds if it is weakened
pub each_weaker : {A : Type 0} (P Q : A → Type 0) → ((x : A) → P x → Q x) → (xs : List A) → AllByRecursion P xs → AllByRecursion Q xs
each_weaker P Q w [] h = tt
each_weaker P Q w (x ∷ xs) h = (w x h.0, each_weaker P Q w xs h.1)
