-- Numbers, read from the lowest group.
use Rattle.std.proofs.Common.{◌≡◌, ℕ, ◌+◌, ◌*◌, ◌-◌, ◌<◌, ◌≤◌, List, [], ◌∷◌, ◌++◌, ◌⊎◌, inl, inr, append_assoc, refl, sym, ap, subst, ◌∙◌, arith}
use Rattle.std.proofs.Math.Nat.{mul-le-mul_left}
use Rattle.sat_base.specs.steps.Formats.{IsProperPrefix, IsPrefixOfText, IsUniquelyDecodable}
use Rattle.sat_base.proofs.lemmas.steps.Formats.{HasText}
use Rattle.sat_base.specs.steps.Numbers.{SpellsNumber, SpellsNumberBelow}

-- `Front front value place` holds if the groups in `front`, none of which is the last, have this value, and the number
-- in the bytes after them has weight `place`.
pub record Front (front : List ℕ) (value place : ℕ) : Type 0 where
  pub completes : (m : ℕ) (tail : List ℕ) → SpellsNumber m tail → (front ≡ []) ⊎ (0 < m) → SpellsNumber (value + place * m) (front ++ tail)
  pub only : (n : ℕ) (tail : List ℕ) → SpellsNumber n (front ++ tail) → (m : ℕ) × SpellsNumber m tail × (n ≡ value + place * m) × ((front ≡ []) ⊎ (0 < m))

pub front_none : Front [] 0 1
front_none = record {
  completes = λ m tail h p. let e : 0 + 1 * m ≡ m = omega arith in subst (λ (k : ℕ). SpellsNumber k tail) (sym e) h;
  only = λ n tail h. (n, h, omega arith, inl refl);
}

positive : (front : List ℕ) (b m : ℕ) → (front ++ b ∷ [] ≡ []) ⊎ (0 < m) → 0 < m
positive [] b m (inl e) = absurd cc
positive (x ∷ front) b m (inl e) = absurd cc
positive front b m (inr h) = h

zero_case : (front : List ℕ) (b m : ℕ) → (front ≡ [] → ⊥) → b ≡ 0 → m ≡ b → (front ≡ []) ⊎ (0 < m) → ⊥
zero_case front b m n z e (inl h) = n h
zero_case front b m n z e (inr h) = omega arith

-- a group that is not the last
pub group : (b m : ℕ) (tail : List ℕ) → 128 ≤ b → b < 256 → 0 < m → SpellsNumber m tail → SpellsNumber (b - 128 + 128 * m) (b ∷ tail)
group b m [] p q z h = absurd h
group b m (c ∷ tail) p q z h = (p, q, m, z, omega arith, h)

ungroup : (b n : ℕ) (tail : List ℕ) → 128 ≤ b → SpellsNumber n (b ∷ tail) → (m : ℕ) × SpellsNumber m tail × (n ≡ b - 128 + 128 * m) × (0 < m)
ungroup b n [] p h = absurd (omega (arith, h.0))
ungroup b n (c ∷ tail) p h = (h.2, h.5, omega (arith, h.4), h.3)

pub spread : (value place low m : ℕ) → value + place * (low + 128 * m) ≡ (value + place * low) + (place * 128) * m
spread value place low m = omega arith

pub front_more : (front : List ℕ) (value place b : ℕ) → 128 ≤ b → b < 256 → Front front value place → Front (front ++ b ∷ []) (value + place * (b - 128)) (place * 128)
front_more front value place b p q f = record {
  completes = λ m tail h z.
      let pos : 0 < m = positive front b m z in
      let one : SpellsNumber (value + place * (b - 128 + 128 * m)) (front ++ b ∷ tail) = f.completes (b - 128 + 128 * m) (b ∷ tail) (group b m tail p q pos h) (inr (omega arith)) in
      rw (append_assoc front (b ∷ []) tail) (subst (λ (k : ℕ). SpellsNumber k (front ++ b ∷ tail)) (spread value place (b - 128) m) one);
  only = λ n tail h.
      let k = f.only n (b ∷ tail) (subst (SpellsNumber n) (append_assoc front (b ∷ []) tail) h) in
      let j = ungroup b k.0 tail p k.1 in
      (j.0, j.1, k.2 ∙ ap (λ (x : ℕ). value + place * x) j.2 ∙ spread value place (b - 128) j.0, inr j.3);
}

-- WHERE THE READER STOPS, after the groups in `front`
pub live : (limit : ℕ) (front : List ℕ) (value place : ℕ) → Front front value place → value + place < limit → IsProperPrefix (SpellsNumberBelow limit) front
live limit front value place f h =
    (value + place * 1, 1, [], (f.completes 1 (1 ∷ []) (omega arith, refl) (inr (omega arith)), omega arith))

-- a last byte below the limit
pub last_read : (limit : ℕ) (front : List ℕ) (value place b : ℕ) → Front front value place → b < 128 → (front ≡ []) ⊎ (0 < b) → value + place * b < limit → SpellsNumberBelow limit (value + place * b) (front ++ b ∷ [])
last_read limit front value place b f p z h = (f.completes b (b ∷ []) (p, refl) z, h)

-- a byte below 128 is the last
alone : (b m : ℕ) (tail : List ℕ) → b < 128 → SpellsNumber m (b ∷ tail) → m ≡ b
alone b m [] p h = h.1
alone b m (c ∷ tail) p h = absurd (omega (arith, h.0))

shut_by : (limit : ℕ) (front : List ℕ) (value place b : ℕ) → Front front value place → ((m : ℕ) (tail : List ℕ) → SpellsNumber m (b ∷ tail) → (front ≡ []) ⊎ (0 < m) → value + place * m < limit → ⊥) → IsPrefixOfText (SpellsNumberBelow limit) (front ++ b ∷ []) → ⊥
shut_by limit front value place b f g o =
    let k = f.only o.0 (b ∷ o.1) (subst (SpellsNumber o.0) (append_assoc front (b ∷ []) o.1) o.2.0) in
    g k.0 o.1 k.1 k.3 (subst (λ (n : ℕ). n < limit) k.2 o.2.1)

-- no number ends with a group of 0 after another group
pub shut_zero : (limit : ℕ) (front : List ℕ) (value place b : ℕ) → Front front value place → (front ≡ [] → ⊥) → b ≡ 0 → IsPrefixOfText (SpellsNumberBelow limit) (front ++ b ∷ []) → ⊥
shut_zero limit front value place b f n z = shut_by limit front value place b f (λ m tail h k l. zero_case front b m n z (alone b m tail (omega arith) h) k)

-- no text continues with a last group that makes the number too large
pub shut_large : (limit : ℕ) (front : List ℕ) (value place b : ℕ) → Front front value place → b < 128 → limit ≤ value + place * b → IsPrefixOfText (SpellsNumberBelow limit) (front ++ b ∷ []) → ⊥
shut_large limit front value place b f p h = shut_by limit front value place b f (λ m tail g k l. let e = alone b m tail p g in let d : value + place * m ≡ value + place * b = ap (λ (x : ℕ). value + place * x) e in omega arith)

-- no text continues with a group after which every number is too large
pub shut_on : (limit : ℕ) (front : List ℕ) (value place b : ℕ) → Front front value place → 128 ≤ b → limit ≤ (value + place * (b - 128)) + place * 128 → IsPrefixOfText (SpellsNumberBelow limit) (front ++ b ∷ []) → ⊥
shut_on limit front value place b f p h =
    shut_by limit front value place b f (λ m tail g k l. let j = ungroup b m tail p g in
    let e : value + place * m ≡ (value + place * (b - 128)) + (place * 128) * j.0 = ap (λ (x : ℕ). value + place * x) j.2 ∙ spread value place (b - 128) j.0 in
    let d : (place * 128) * 1 ≤ (place * 128) * j.0 = mul-le-mul_left (place * 128) j.3 in
    omega arith)

-- every number has one form, and no form is a prefix of another
pub one_number : IsUniquelyDecodable SpellsNumber
one_number m n [] b s t h k e = absurd h
one_number m n (x ∷ a) [] s t h k e = absurd k
one_number m n (x ∷ []) (y ∷ []) s t h k e = let z : x ≡ y = cc in (ap (λ (c : ℕ). c ∷ []) z, h.1 ∙ z ∙ sym k.1)
one_number m n (x ∷ []) (y ∷ z ∷ b) s t h k e = absurd (let q : x ≡ y = cc in omega (arith, h.0, k.0))
one_number m n (x ∷ w ∷ a) (y ∷ []) s t h k e = absurd (let q : x ≡ y = cc in omega (arith, h.0, k.0))
one_number m n (x ∷ w ∷ a) (y ∷ z ∷ b) s t h k e =
    let q : x ≡ y = cc in
    let r = one_number h.2 k.2 (w ∷ a) (z ∷ b) s t h.5 k.5 (cc) in
    (ap (λ (c : List ℕ). x ∷ c) r.0 ∙ ap (λ (c : ℕ). c ∷ z ∷ b) q, omega (arith, h.4, k.4, r.1))

pub one_below : (limit : ℕ) → IsUniquelyDecodable (SpellsNumberBelow limit)
one_below limit x y a b s t h k e = one_number x y a b s t h.0 k.0 e

pub some_below : (limit : ℕ) → 1 < limit → HasText (SpellsNumberBelow limit)
some_below limit h = (0, 0 ∷ [], ((omega arith, refl), omega arith))
