-- Formats that are composed of others: which bytes begin a text, and with which byte no text continues.
use Rattle.std.proofs.Common.{◌≡◌, ℕ, zero, suc, List, [], ◌∷◌, ◌++◌, length, length-append, ◌⊎◌, inl, inr, append_assoc, refl, sym, ap, subst, ◌∙◌, arith}
use Rattle.std.proofs.lemmas.List.{append-nil}
use Rattle.sat_base.specs.steps.Formats.{Format, IsPrefixOfText, IsProperPrefix, Then, Times, IsUniquelyDecodable}

-- `HasText F` holds if some value has a text of the format.
abbrev pub HasText : {A : Type 0} → Format A → Type 0
HasText {A} F = (x : A) × (bytes : List ℕ) × F x bytes

pub cancel : (a : List ℕ) (s t : List ℕ) → a ++ s ≡ a ++ t → s ≡ t
cancel [] s t e = e
cancel (x ∷ a) s t e = cancel a s t (cc)

-- of two prefixes of one text, one is a prefix of the other
meet : (a s c t : List ℕ) → a ++ s ≡ c ++ t → ((d : List ℕ) × (c ≡ a ++ d)) ⊎ ((b : ℕ) × (d : List ℕ) × (a ≡ c ++ b ∷ d))
meet [] s c t e = inl (c, refl)
meet (x ∷ a) s [] t e = inr (x, a, refl)
meet (x ∷ a) s (y ∷ c) t e =
    let h : x ≡ y = cc in
    elim (meet a s c t (cc)) [
      | inl k ↦ inl (k.0, ap (λ (z : List ℕ). y ∷ z) k.1 ∙ ap (λ (z : ℕ). z ∷ a ++ k.0) (sym h))
      | inr k ↦ inr (k.0, k.1, ap (λ (z : List ℕ). x ∷ z) k.2 ∙ ap (λ (z : ℕ). z ∷ c ++ k.0 ∷ k.1) h)
    ]

-- a proper prefix of a text does not begin with a complete text
short : {A : Type 0} (F : Format A) → IsUniquelyDecodable F → (front : List ℕ) (b : ℕ) (x : A) (a : List ℕ) → IsProperPrefix F front → F x a → (c : ℕ) (d : List ℕ) → front ++ b ∷ [] ≡ a ++ c ∷ d → ⊥
short F one front b x a l f c d e =
    let size = sym (length-append front (b ∷ [])) ∙ ap length e ∙ length-append a (c ∷ d) in
    elim (meet a (c ∷ d) front (b ∷ []) (sym e)) [
      | inl k ↦
          let whole : a ++ (k.0 ++ l.1 ∷ l.2) ≡ (front ++ l.1 ∷ l.2) ++ [] = sym (append_assoc a k.0 (l.1 ∷ l.2)) ∙ ap (λ (z : List ℕ). z ++ l.1 ∷ l.2) (sym k.1) ∙ sym (append-nil (front ++ l.1 ∷ l.2)) in
          let same = ap length (one x l.0 a (front ++ l.1 ∷ l.2) (k.0 ++ l.1 ∷ l.2) [] f l.3 whole).0 ∙ length-append front (l.1 ∷ l.2) in
          omega arith
      | inr k ↦
          let same = ap length k.2 ∙ length-append front (k.0 ∷ k.1) in
          omega arith
    ]

-- a text that agrees with a proper prefix and the next byte begins with both
past : {A : Type 0} (F : Format A) → IsUniquelyDecodable F → (front : List ℕ) (b : ℕ) (x : A) (a s more : List ℕ) → IsProperPrefix F front → F x a → (front ++ b ∷ []) ++ more ≡ a ++ s → IsPrefixOfText F (front ++ b ∷ [])
past F one front b x a s more l f e =
    elim (meet (front ++ b ∷ []) more a s e) [
      | inl k ↦ (x, k.0, subst (F x) k.1 f)
      | inr k ↦ absurd (short F one front b x a l f k.0 k.1 k.2)
    ]

-- THE FIRST PART
pub live_first : {A B : Type 0} (F : Format A) (G : A → Format B) (front : List ℕ) → ((x : A) → HasText (G x)) → IsProperPrefix F front → IsProperPrefix (Then F G) front
live_first F G front some l =
    let t = some l.0 in
    ((l.0, t.0), l.1, l.2 ++ t.1, (front ++ l.1 ∷ l.2, t.1, l.3, t.2, sym (append_assoc front (l.1 ∷ l.2) t.1)))

-- no text of a pair begins with bytes with which no text of the first value begins
pub shut_first : {A B : Type 0} (F : Format A) (G : A → Format B) → IsUniquelyDecodable F → (front : List ℕ) (b : ℕ) → IsProperPrefix F front → (IsPrefixOfText F (front ++ b ∷ []) → ⊥) → IsPrefixOfText (Then F G) (front ++ b ∷ []) → ⊥
shut_first F G one front b l h o = h (past F one front b o.0.0 o.2.0 o.2.1 o.1 l o.2.2 o.2.4)

-- THE SECOND PART
pub live_second : {A B : Type 0} (F : Format A) (G : A → Format B) (x : A) (a front : List ℕ) → F x a → IsProperPrefix (G x) front → IsProperPrefix (Then F G) (a ++ front)
live_second F G x a front f l = ((x, l.0), l.1, l.2, (a, front ++ l.1 ∷ l.2, f, l.3, append_assoc a front (l.1 ∷ l.2)))

-- no text of a pair begins with a text of the first value and bytes with which none of the second begins
pub shut_second : {A B : Type 0} (F : Format A) (G : A → Format B) → IsUniquelyDecodable F → (x : A) (a front : List ℕ) (b : ℕ) → F x a → (IsPrefixOfText (G x) (front ++ b ∷ []) → ⊥) → IsPrefixOfText (Then F G) ((a ++ front) ++ b ∷ []) → ⊥
shut_second {A} {B} F G one x a front b f h o =
    let e : a ++ ((front ++ b ∷ []) ++ o.1) ≡ o.2.0 ++ o.2.1 = sym (append_assoc a (front ++ b ∷ []) o.1) ∙ ap (λ (z : List ℕ). z ++ o.1) (sym (append_assoc a front (b ∷ []))) ∙ o.2.4 in
    let s = one x o.0.0 a o.2.0 ((front ++ b ∷ []) ++ o.1) o.2.1 f o.2.2 e in
    let rest : (front ++ b ∷ []) ++ o.1 ≡ o.2.1 = cancel a ((front ++ b ∷ []) ++ o.1) o.2.1 (e ∙ ap (λ (z : List ℕ). z ++ o.2.1) (sym s.0)) in
    h (o.0.1, o.1, subst (λ (z : A). G z o.0.1 ((front ++ b ∷ []) ++ o.1)) (sym s.1) (subst (G o.0.0 o.0.1) (sym rest) o.2.3))

-- a pair of uniquely decodable formats is uniquely decodable
pub one_then : {A B : Type 0} (F : Format A) (G : A → Format B) → IsUniquelyDecodable F → ((x : A) → IsUniquelyDecodable (G x)) → IsUniquelyDecodable (Then F G)
one_then {A} {B} F G one two x y a b s t h k e =
    let u : h.0 ++ (h.1 ++ s) ≡ k.0 ++ (k.1 ++ t) = sym (append_assoc h.0 h.1 s) ∙ ap (λ (z : List ℕ). z ++ s) (sym h.4) ∙ e ∙ ap (λ (z : List ℕ). z ++ t) k.4 ∙ append_assoc k.0 k.1 t in
    let p = one x.0 y.0 h.0 k.0 (h.1 ++ s) (k.1 ++ t) h.2 k.2 u in
    let v : h.1 ++ s ≡ k.1 ++ t = cancel h.0 (h.1 ++ s) (k.1 ++ t) (u ∙ ap (λ (z : List ℕ). z ++ (k.1 ++ t)) (sym p.0)) in
    let q = two y.0 x.1 y.1 h.1 k.1 s t (subst (λ (z : A). G z x.1 h.1) p.1 h.3) k.3 v in
    (h.4 ∙ ap (λ (z : List ℕ). z ++ h.1) p.0 ∙ ap (λ (z : List ℕ). k.0 ++ z) q.0 ∙ sym k.4, ap (λ (z : A). (z, x.1)) p.1 ∙ ap (λ (z : B). (y.0, z)) q.1)

pub Times_text : {A : Type 0} (F : Format A) → HasText F → (n : ℕ) → HasText (Times F n)
Times_text F h zero = ([], [], (refl, refl))
Times_text F h (suc n) = let t = Times_text F h n in (h.0 ∷ t.0, h.1 ++ t.1, (ap suc t.2.0, (h.1, t.1, h.2, t.2.1, refl)))

pub to_items : {A : Type 0} (F : Format A) (n : ℕ) (x : A × List A) (t : List ℕ) → Then F (λ _. Times F n) x t → Times F (suc n) (x.0 ∷ x.1) t
to_items F n x t h = (ap suc h.3.0, (h.0, h.1, h.2, h.3.1, h.4))

pub from_items : {A : Type 0} (F : Format A) (n : ℕ) (xs : List A) (t : List ℕ) → Times F (suc n) xs t → (x : A × List A) × Then F (λ _. Times F n) x t
from_items F n [] t h = absurd (omega (arith, h.0))
from_items F n (x ∷ xs) t h = ((x, xs), (h.1.0, h.1.1, h.1.2, (omega (arith, h.0), h.1.3), h.1.4))
