-- The terms of the Luby sequence, by cases.
use Rattle.std.proofs.Common.{◌≡◌, ◌≢◌, ℕ, zero, suc, ◌+◌, ◌-◌, ◌*◌, ◌^◌, ◌<◌, ◌≤◌, nat_lt, true, false, refl, sym, ap, ◌∙◌, arith}
use Rattle.std.proofs.lemmas.Bool.Decides.{nat_tests}
use Rattle.std.specs.Bool.{◌==◌}
use Rattle.sat_store.specs.schedule.Luby.{luby_below, luby}

same_test : (a b : ℕ) → a ≡ b → (a == b) ≡ true
same_test a b e = grind (arith, nat_tests)

other_test : (a b : ℕ) → a ≢ b → (a == b) ≡ false
other_test a b d = grind (arith, nat_tests)

below_test : (a b : ℕ) → a < b → nat_lt a b ≡ true
below_test a b e = grind (arith, nat_tests)

from_test : (a b : ℕ) → b ≤ a → nat_lt a b ≡ false
from_test a b d = grind (arith, nat_tests)

pow_double : (n : ℕ) → 2 ^ suc n ≡ 2 * 2 ^ n
pow_double n = grind arith

pow_pos : (n : ℕ) → 0 < 2 ^ n
pow_pos zero = omega arith
pow_pos (suc n) = omega (arith, pow_double n, pow_pos n)

pow_above : (n : ℕ) → n < 2 ^ n
pow_above zero = omega arith
pow_above (suc n) = omega (arith, pow_double n, pow_above n)

pub below_last : (k t : ℕ) → t ≡ 2 ^ k - 1 + 2 ^ k → luby_below (suc k) t ≡ 2 ^ k
unfolding luby_below
below_last k t e =
    let d : t ≡ 2 ^ suc k - 1 = omega (arith, pow_double k, pow_pos k) in
    rw (same_test t (2 ^ suc k - 1) d) refl

pub below_rest : (k t : ℕ) → t ≢ 2 ^ k - 1 + 2 ^ k → 2 ^ k ≤ t → luby_below (suc k) t ≡ luby_below k (t - 2 ^ k + 1)
unfolding luby_below
below_rest k t differ from =
    let d : t ≢ 2 ^ suc k - 1 = omega (arith, pow_double k, pow_pos k) in
    rw (other_test t (2 ^ suc k - 1) d, from_test t (2 ^ k) from) refl

pub below_less : (k t : ℕ) → t < 2 ^ k → luby_below (suc k) t ≡ luby_below k t
unfolding luby_below
below_less k t less =
    let d : t ≢ 2 ^ suc k - 1 = omega (arith, pow_double k, pow_pos k) in
    rw (other_test t (2 ^ suc k - 1) d, below_test t (2 ^ k) less) refl

pow_add_le : (k d : ℕ) → 2 ^ k ≤ 2 ^ (d + k)
pow_add_le k zero = omega (arith, ap (λ (n : ℕ). 2 ^ n) (let e : 0 + k ≡ k = omega arith in e))
pow_add_le k (suc d) =
    let e : suc d + k ≡ suc (d + k) = omega arith in
    omega (arith, ap (λ (n : ℕ). 2 ^ n) e, pow_double (d + k), pow_add_le k d, pow_pos (d + k))

-- a larger bound gives the same term
stable : (k d t : ℕ) → t < 2 ^ k → luby_below (d + k) t ≡ luby_below k t
stable k zero t less = let e : 0 + k ≡ k = omega arith in ap (λ (n : ℕ). luby_below n t) e
stable k (suc d) t less =
    let e : suc d + k ≡ suc (d + k) = omega arith in
    ap (λ (n : ℕ). luby_below n t) e ∙ below_less (d + k) t (omega (arith, pow_add_le k d)) ∙ stable k d t less

pub luby_by_bound : (k t : ℕ) → t < 2 ^ k → luby_below k t ≡ luby t
unfolding luby
luby_by_bound k t less =
    let e : t + k ≡ k + t = omega arith in
    sym (stable k t t less) ∙ ap (λ (n : ℕ). luby_below n t) e ∙ stable t k t (pow_above t)

-- the sequence: term 2 ^ (k + 1) - 1 is 2 ^ k; any other term t from 2 ^ k on is term t - 2 ^ k + 1

pub luby_last : (k : ℕ) → luby (2 ^ suc k - 1) ≡ 2 ^ k
luby_last k =
    let e : 2 ^ suc k - 1 ≡ 2 ^ k - 1 + 2 ^ k = omega (arith, pow_double k, pow_pos k) in
    sym (luby_by_bound (suc k) (2 ^ suc k - 1) (omega (arith, pow_pos (suc k)))) ∙ below_last k (2 ^ suc k - 1) e

pub luby_rest : (k t : ℕ) → 2 ^ k ≤ t → t < 2 ^ suc k - 1 → luby t ≡ luby (t - 2 ^ k + 1)
luby_rest k t from less =
    sym (luby_by_bound (suc k) t (omega arith))
    ∙ below_rest k t (omega (arith, pow_double k, pow_pos k)) from
    ∙ luby_by_bound k (t - 2 ^ k + 1) (omega (arith, pow_double k, pow_pos k))

-- the terms of `luby_below` with bound b, where h is 2 ^ (b - 1)

pub step_last : (b t h : ℕ) → 0 < b → h ≡ 2 ^ (b - 1) → t ≡ h - 1 + h → luby_below b t ≡ h
step_last zero t h some is last = absurd (omega arith)
step_last (suc k) t h some is last =
    let e : suc k - 1 ≡ k = omega arith in
    let p : h ≡ 2 ^ k = is ∙ ap (λ (n : ℕ). 2 ^ n) e in
    below_last k t (omega arith) ∙ sym p

pub step_rest : (b t h : ℕ) → 0 < b → h ≡ 2 ^ (b - 1) → t < 2 ^ b → t ≢ h - 1 + h → h ≤ t → (t - h + 1 < 2 ^ (b - 1)) × (luby_below (b - 1) (t - h + 1) ≡ luby_below b t)
step_rest zero t h some is less differ from = absurd (omega arith)
step_rest (suc k) t h some is less differ from =
    let e : suc k - 1 ≡ k = omega arith in
    let p : h ≡ 2 ^ k = is ∙ ap (λ (n : ℕ). 2 ^ n) e in
    let d : t ≢ 2 ^ k - 1 + 2 ^ k = λ q. differ (omega arith) in
    let r : t - h + 1 ≡ t - 2 ^ k + 1 = omega arith in
    (omega (arith, pow_double k, pow_pos k, is), ap (λ (n : ℕ). luby_below n (t - h + 1)) e ∙ ap (luby_below k) r ∙ sym (below_rest k t d (omega arith)))

pub step_less : (b t h : ℕ) → 0 < b → h ≡ 2 ^ (b - 1) → t < h → (t < 2 ^ (b - 1)) × (luby_below (b - 1) t ≡ luby_below b t)
step_less zero t h some is less = absurd (omega arith)
step_less (suc k) t h some is less =
    let e : suc k - 1 ≡ k = omega arith in
    let p : h ≡ 2 ^ k = is ∙ ap (λ (n : ℕ). 2 ^ n) e in
    (omega arith, ap (λ (n : ℕ). luby_below n t) e ∙ sym (below_less k t (omega arith)))
