-- Long gaps between restarts occur again and again.
use Rattle.std.proofs.Common.{◌≡◌, ◌≢◌, ℕ, zero, suc, ◌+◌, ◌-◌, ◌*◌, ◌^◌, ◌<◌, ◌≤◌, inl, inr, arith, refl, sym, ap, ◌∙◌, subst, false}
use Rattle.std.specs.Bool.{◌==◌}
use Rattle.std.proofs.lemmas.Bool.{cases_lt}
use Rattle.std.proofs.lemmas.Bool.Decides.{nat_tests}
use Rattle.sat_store.specs.schedule.Luby.{luby, wrapped_term_number}
use Rattle.sat_store.proofs.lemmas.schedule.LubyLemmas.{luby_last, luby_rest}
use Rattle.sat_solver.specs.schedule.Gaps.{term_number_after}

pub pow_double : (n : ℕ) → 2 ^ suc n ≡ 2 * 2 ^ n
pow_double n = grind arith

pub pow_pos : (n : ℕ) → 0 < 2 ^ n
pow_pos zero = omega arith
pow_pos (suc n) = omega (arith, pow_double n, pow_pos n)

pub pow_mono : (m n : ℕ) → m ≤ n → 2 ^ m ≤ 2 ^ n
pow_mono zero n h = omega (arith, pow_pos n)
pow_mono (suc m) zero h = absurd (omega arith)
pow_mono (suc m) (suc n) h = omega (arith, pow_double m, pow_double n, pow_mono m n (omega arith))

-- every positive number is between a power of 2 and the next one
between : (s : ℕ) → (k : ℕ) × ((2 ^ k ≤ s + 1) × (s + 1 < 2 ^ suc k))
between zero = (0, (omega arith, omega arith))
between (suc s) = let l : (k : ℕ) × ((2 ^ k ≤ s + 1) × (s + 1 < 2 ^ suc k)) = between s in elim (cases_lt (s + 2) (2 ^ suc l.0)) [
  | inl h ↦ (l.0, (omega (arith, l.1.0), omega arith))
  | inr h ↦ (suc l.0, (omega (arith, h), omega (arith, l.1.1, pow_double (suc l.0), pow_pos l.0, pow_double l.0)))
]

-- of any 2 ^ (j + 1) - 1 consecutive terms, one is at least 2 ^ j
window_below : (n j s : ℕ) → s ≤ n → 0 < s → (t : ℕ) × ((s ≤ t) × (t + 1 < s + 2 ^ suc j) × (2 ^ j ≤ luby t))
window_below zero j s h p = absurd (omega arith)
window_below (suc n) j s h p =
    let l : (k : ℕ) × ((2 ^ k ≤ s - 1 + 1) × (s - 1 + 1 < 2 ^ suc k)) = between (s - 1) in
    let k : ℕ = l.0 in
    let low : 2 ^ l.0 ≤ s = omega (arith, l.1.0) in
    let high : s < 2 ^ suc l.0 = omega (arith, l.1.1) in
    let dj : 2 ^ suc j ≡ 2 * 2 ^ j = pow_double j in
    let dk : 2 ^ suc l.0 ≡ 2 * 2 ^ l.0 = pow_double l.0 in
    let pj : 0 < 2 ^ j = pow_pos j in
    elim (cases_lt l.0 j) [
      | inl lt ↦
          let m : 2 ^ suc l.0 ≤ 2 ^ j = pow_mono (suc l.0) j (omega arith) in
          (2 ^ suc j - 1, (omega arith, omega arith, omega (arith, luby_last j)))
      | inr ge ↦ elim (cases_lt (2 ^ suc l.0) (s + 2 ^ suc j)) [
        | inl near ↦ (2 ^ suc l.0 - 1, (omega arith, omega arith, omega (arith, pow_mono j l.0 ge, luby_last l.0)))
        | inr far ↦
            let r : (t : ℕ) × ((s - 2 ^ l.0 + 1 ≤ t) × (t + 1 < s - 2 ^ l.0 + 1 + 2 ^ suc j) × (2 ^ j ≤ luby t)) = window_below n j (s - 2 ^ l.0 + 1) (omega arith) (omega arith) in
            let a : s - 2 ^ l.0 + 1 ≤ r.0 = r.1.0 in
            let b : r.0 + 1 < s - 2 ^ l.0 + 1 + 2 ^ suc j = r.1.1 in
            let e : r.0 + 2 ^ l.0 - 1 - 2 ^ l.0 + 1 ≡ r.0 = omega arith in
            let same : luby (r.0 + 2 ^ l.0 - 1) ≡ luby r.0 = luby_rest l.0 (r.0 + 2 ^ l.0 - 1) (omega arith) (omega arith) ∙ ap (λ (z : ℕ). luby z) e in
            (r.0 + 2 ^ l.0 - 1, (omega arith, omega arith, omega (arith, same, r.1.2)))
      ]
    ]

pub window : (j s : ℕ) → 0 < s → (t : ℕ) × ((s ≤ t) × (t + 1 < s + 2 ^ suc j) × (2 ^ j ≤ luby t))
window j s p = window_below s j s (omega arith) p

after_less : (t : ℕ) → t ≢ 2 ^ 64 - 1 → wrapped_term_number t ≡ t
after_less t d = let e : (t == 2 ^ 64 - 1) ≡ false = grind (arith, nat_tests) in rw e refl

-- terms are numbered in turn until the counter wraps
given_in_turn : (d t : ℕ) → ((i : ℕ) → i < d → t + i + 1 ≢ 2 ^ 64 - 1) → term_number_after d t ≡ t + d
given_in_turn zero t h = omega arith
given_in_turn (suc d) t h =
    let e : wrapped_term_number (t + 1) ≡ t + 1 = after_less (t + 1) (λ q. h 0 (omega arith) (omega arith)) in
    ap (λ z. term_number_after d z) e ∙ given_in_turn d (t + 1) (λ i b q. h (i + 1) (omega arith) (omega arith)) ∙ omega arith

-- after any number of terms, one of the next 2^(j+1) - 1 is at least 2^j, even if the counter wraps
pub long_ahead : (j given : ℕ) → j < 64 → (d : ℕ) × ((d + 1 < 2 ^ suc j) × (2 ^ j ≤ luby (term_number_after d given + 1)))
long_ahead j given few =
    let w : (t : ℕ) × ((given + 1 ≤ t) × (t + 1 < given + 1 + 2 ^ suc j) × (2 ^ j ≤ luby t)) = window j (given + 1) (omega arith) in
    let found : (d : ℕ) → term_number_after d given ≡ given + d → (u : ℕ) → u ≡ given + d + 1 → 2 ^ j ≤ luby u → 2 ^ j ≤ luby (term_number_after d given + 1) = λ d e u is h.
    subst (λ (z : ℕ). 2 ^ j ≤ luby z) (is ∙ ap (λ z. z + 1) (sym e)) h in
    let at : w.0 ≡ given + (w.0 - given - 1) + 1 = omega (arith, w.1.0) in
    elim (cases_lt (2 ^ 64 - 1) (given + 1)) [
      | inl past ↦ (w.0 - given - 1, (omega (arith, w.1.0, w.1.1), found (w.0 - given - 1) (given_in_turn (w.0 - given - 1) given (λ i b q. absurd (omega arith))) w.0 at w.1.2))
      | inr not_past ↦ elim (cases_lt w.0 (2 ^ 64)) [
        | inl before ↦ (w.0 - given - 1, (omega (arith, w.1.0, w.1.1), found (w.0 - given - 1) (given_in_turn (w.0 - given - 1) given (λ i b q. absurd (omega (arith, w.1.0)))) w.0 at w.1.2))
        | inr after ↦
            let top : 2 ^ j ≤ luby (2 ^ 64 - 1) = omega (arith, luby_last 63, pow_mono j 63 (omega arith)) in
            (2 ^ 64 - 1 - given - 1, (omega (arith, w.1.0, w.1.1), found (2 ^ 64 - 1 - given - 1) (given_in_turn (2 ^ 64 - 1 - given - 1) given (λ i b q. absurd (omega arith))) (2 ^ 64 - 1) (omega arith) top))
      ]
    ]
