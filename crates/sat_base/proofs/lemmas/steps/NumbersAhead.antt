-- Numbers whose bytes are all buffered.
use Rattle.std.proofs.Common.{◌≡◌, ℕ, zero, suc, ◌+◌, ◌*◌, ◌-◌, ◌<◌, ◌≤◌, List, length, length-append, length-drop, length-take, take, [], ◌∷◌, ◌++◌, ◌⊎◌, inl, inr, Option, Some, None, append_assoc, refl, sym, ap, subst, ◌∙◌, arith}
use Rattle.std.proofs.Math.Nat.{mul-le-mul_left}
use Rattle.sat_base.specs.declared.device.ahead.Ahead.{Ahead}
use Rattle.sat_base.specs.device.ConsumedAhead.{IsEncodedBetween, buffered_from}
use Rattle.sat_base.specs.steps.Numbers.{SpellsNumberBelow, SpellsNumber}
use Rattle.sat_base.proofs.lemmas.steps.Numbers.{Front, front_none, front_more, last_read}

-- `LookedAt value place whole rest` holds if `whole` begins with groups of this value before `rest`, and the number in
-- `rest` has weight `place`.
pub record LookedAt (value place : ℕ) (whole rest : List ℕ) : Type 0 where
  pub front : List ℕ
  pub is : Front front value place
  pub split : whole ≡ front ++ rest
  pub small : value < place
  pub begun : (front ≡ []) ⊎ (1 < place)

pub looked_at_none : (whole : List ℕ) → LookedAt 0 1 whole whole
looked_at_none whole = record { front = []; is = front_none; split = refl; small = omega arith; begun = inl refl }

-- the value stays below the weight of the next group
pub group_small : (value place b : ℕ) → value < place → b < 128 → value + place * b < place * 128
group_small value place b s p = let m : place * b ≤ place * 127 = mul-le-mul_left place (omega arith) in omega (arith, m, s)

split_more : (whole front rest more : List ℕ) (b : ℕ) → whole ≡ front ++ rest → rest ≡ b ∷ more → whole ≡ (front ++ b ∷ []) ++ more
split_more whole front rest more b e f = e ∙ ap (λ (xs : List ℕ). front ++ xs) f ∙ sym (append_assoc front (b ∷ []) more)

pub looked_at_more : (value place b : ℕ) (whole rest more : List ℕ) → LookedAt value place whole rest → rest ≡ b ∷ more → 128 ≤ b → b < 256 → LookedAt (value + place * (b - 128)) (place * 128) whole more
looked_at_more value place b whole rest more l e p q = record {
  front = l.front ++ b ∷ [];
  is = front_more l.front value place b p q l.is;
  split = split_more whole l.front rest more b l.split e;
  small = group_small value place (b - 128) l.small (omega arith);
  begun = inr (omega (arith, l.small));
}

pub positive_from : (b : ℕ) → (b ≡ 0 → ⊥) → 0 < b
positive_from zero h = absurd (h refl)
positive_from (suc b) h = omega arith

last_begins : (front : List ℕ) (place b : ℕ) → (front ≡ []) ⊎ (1 < place) → (0 < b) ⊎ (place ≤ 1) → (front ≡ []) ⊎ (0 < b)
last_begins front place b (inl e) h = inl e
last_begins front place b (inr p) (inl h) = inr h
last_begins front place b (inr p) (inr h) = absurd (omega (arith, p, h))

-- a last group, which is 0 only if it is the only one
pub looked_at_last : (limit value place b : ℕ) (whole rest more : List ℕ) → LookedAt value place whole rest → rest ≡ b ∷ more → b < 128 → (0 < b) ⊎ (place ≤ 1) → value + place * b < limit
    → (text : List ℕ) × SpellsNumberBelow limit (value + place * b) text × (whole ≡ text ++ more)
looked_at_last limit value place b whole rest more l e p z h =
    (l.front ++ b ∷ [], last_read limit l.front value place b l.is p (last_begins l.front place b l.begun z) h, split_more whole l.front rest more b l.split e)

-- the number that was read and the index after it, or two zeros
abbrev or_zeros : Option (ℕ × ℕ) → ℕ × ℕ
or_zeros (Some p) = p
or_zeros None = (0, 0)

pub stands_between : (limit m n at after following : ℕ) (a : Ahead) → (let p : Option (ℕ × ℕ) = Some (m, after) in let q : Option (ℕ × ℕ) = Some (n, following) in p ≡ q) → IsEncodedBetween limit m at after a → IsEncodedBetween limit n at following a
stands_between limit m n at after following a e s =
    let f : m ≡ n = ap (λ (p : Option (ℕ × ℕ)). (or_zeros p).0) e in
    let g : after ≡ following = ap (λ (p : Option (ℕ × ℕ)). (or_zeros p).1) e in
    subst (λ (k : ℕ). IsEncodedBetween limit k at following a) f (subst (λ (k : ℕ). IsEncodedBetween limit m at k a) g s)

-- a last group completes the number between two indices
pub stands_last : (limit value place b n at next following : ℕ) (a : Ahead) (rest : List ℕ) → LookedAt value place (buffered_from at a) rest → rest ≡ b ∷ buffered_from next a → b < 128 → (0 < b) ⊎ (place ≤ 1) → value + place * b ≡ n → n < limit → next ≡ following
    → IsEncodedBetween limit n at following a
stands_last limit value place b n at next following a rest l e p z v h w =
    subst (λ (k : ℕ). IsEncodedBetween limit k at following a) v (subst (λ (k : ℕ). IsEncodedBetween limit (value + place * b) at k a) w (looked_at_last limit value place b (buffered_from at a) rest (buffered_from next a) l e p z (omega (arith, v, h))))

-- a group that is not the last
pub looked_on : (value place b at next after : ℕ) (a : Ahead) (rest : List ℕ) → LookedAt value place (buffered_from at a) rest → rest ≡ b ∷ buffered_from next a → 128 ≤ b → b < 256 → next ≡ after
    → LookedAt (value + place * (b - 128)) (place * 128) (buffered_from at a) (buffered_from after a)
looked_on value place b at next after a rest l e p q w =
    subst (λ (k : ℕ). LookedAt (value + place * (b - 128)) (place * 128) (buffered_from at a) (buffered_from k a)) w (looked_at_more value place b (buffered_from at a) rest (buffered_from next a) l e p q)

number_some : (n : ℕ) (text : List ℕ) → SpellsNumber n text → 0 < length text
number_some n [] h = absurd h
number_some n (b ∷ bs) h = omega arith

-- fewer bytes are left after a number
pub encoded_shrinks : (limit n at following : ℕ) (a : Ahead) → IsEncodedBetween limit n at following a → a.end - following < a.end - at
encoded_shrinks limit n at following a h =
    let some = number_some n h.0 h.1.0 in
    let read = take a.end a.piece in
    let e = ap length h.2 ∙ length-append h.0 (buffered_from following a) in
    let p = length-drop at read in
    let q = length-drop following read in
    let r = length-take a.end a.piece in
    omega arith
