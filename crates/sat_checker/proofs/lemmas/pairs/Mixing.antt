-- Mixing is injective: different hashes have different mixed hashes.
use Rattle.std.proofs.Common.{ℕ, zero, ◌+◌, ◌*◌, ◌/◌, ◌%◌, ◌^◌, ◌<◌, ◌≡◌, Bool, true, false, eqb, refl, sym, ◌∙◌, ap, arith, pow_pos}
use Rattle.std.proofs.lemmas.Bool.{eq-eqb, ne_eqb, eqb-true, eqb-false}
use Rattle.std.proofs.lemmas.Nat.{mod-mul-add, div-mul-add, mul-mod_first, div-add-mod'}
use Rattle.std.proofs.Math.Nat.{mod-lt, div-eq_of_lt, add-mul-mod_self_right, mul_assoc, mul-add}
use Rattle.sat_checker.specs.inner.PairView.{mixed}

-- multiplying by a factor that has an inverse modulo `w`
module _ (w k inverse over : ℕ) (some : zero < w) (one : k * inverse ≡ 1 + over * w) where
  pub spread : ℕ → ℕ
  spread h = h * k % w + h / w * w

  flip : (h : ℕ) → spread h ≡ h / w * w + h * k % w
  unfolding spread
  flip h = omega arith

  low : (h : ℕ) → spread h % w ≡ h * k % w
  low h = ap (λ n. n % w) (flip h) ∙ mod-mul-add (h / w) w (h * k % w) (mod-lt (h * k) some)

  high : (h : ℕ) → spread h / w ≡ h / w
  high h = ap (λ n. n / w) (flip h) ∙ div-mul-add (h / w) w (h * k % w) (mod-lt (h * k) some)

  product : (h : ℕ) → h * k * inverse ≡ h + h * over * w
  product h =
      let apart : h * (1 + over * w) ≡ h * 1 + h * (over * w) = mul-add h 1 (over * w) in
      let last : h * 1 + h * (over * w) ≡ h + h * (over * w) = omega arith in
      mul_assoc h k inverse ∙ ap (λ n. h * n) one ∙ apart ∙ last ∙ ap (λ n. h + n) (sym (mul_assoc h over w))

  back : (h : ℕ) → h * k % w * inverse % w ≡ h % w
  back h = mul-mod_first (h * k) inverse w ∙ ap (λ n. n % w) (product h) ∙ add-mul-mod_self_right h (h * over) w

  pub spread_apart : (a b : ℕ) → spread a ≡ spread b → a ≡ b
  spread_apart a b e =
      let up : a / w ≡ b / w = sym (high a) ∙ ap (λ n. n / w) e ∙ high b in
      let down : a % w ≡ b % w = sym (back a) ∙ ap (λ n. n * inverse % w) (sym (low a) ∙ ap (λ n. n % w) e ∙ low b) ∙ back b in
      sym (div-add-mod' a w) ∙ ap (λ n. n * w + a % w) up ∙ ap (λ n. b / w * w + n) down ∙ div-add-mod' b w

pub mixed_apart : (a b : ℕ) → mixed a ≡ mixed b → a ≡ b
unfolding mixed spread
mixed_apart a b e = spread_apart (2 ^ 64) 0xBF58476D1CE4E5B9 0x96DE1B173F119089 0x70C3BCA78F27F46C (pow_pos 64) refl a b e

pub mixed_same : (a b : ℕ) → eqb (mixed a) (mixed b) ≡ eqb a b
mixed_same a b = go (eqb a b) refl
  where
    go : (d : Bool) → eqb a b ≡ d → eqb (mixed a) (mixed b) ≡ d
    go true e = eq-eqb (mixed a) (mixed b) (ap mixed (eqb-true a b e))
    go false e = ne_eqb (mixed a) (mixed b) (λ s. eqb-false a b e (mixed_apart a b s))

pub is_mixed : (h : ℕ) → h < 2 ^ 64 → h * 0xBF58476D1CE4E5B9 % 2 ^ 64 ≡ mixed h
unfolding mixed
is_mixed h l = let z : h / 2 ^ 64 * 2 ^ 64 ≡ 0 = ap (λ n. n * 2 ^ 64) (div-eq_of_lt l) in omega (arith, z)
