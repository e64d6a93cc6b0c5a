-- The loops that adjust the width of hashes.
use Rattle.std.proofs.Common.{ℕ, zero, suc, ◌+◌, ◌-◌, ◌<◌, ◌≤◌, ◌≡◌, ◌∙◌, Bool, true, false, not, ◌&&◌, refl, sym, ap, arith}
use Rattle.std.proofs.lemmas.Bool.{true≢false}
use Rattle.std.specs.Prelude.{cond, min}
use Rattle.sat_solver.specs.proof.Counting.{too_short, too_long, widened_bits, narrowed_bits, fitting_bits}

-- at least one iteration is left
turn : (i : ℕ) → i < 32 → 32 - i ≡ suc (32 - (i + 1))
turn i h = omega arith

none : (i : ℕ) → 32 ≤ i → 32 - i ≡ zero
none i h = omega arith

widen_one : (k n b : ℕ) → widened_bits (suc k) n b ≡ cond (too_short n b) (widened_bits k n (min (b + 2) 64)) b
unfolding widened_bits
widen_one k n b = refl

widen_none : (n b : ℕ) → widened_bits zero n b ≡ b
unfolding widened_bits
widen_none n b = refl

shorten_one : (k n b : ℕ) → narrowed_bits (suc k) n b ≡ cond (too_long n b) (narrowed_bits k n (b - 2)) b
unfolding narrowed_bits
shorten_one k n b = refl

shorten_none : (n b : ℕ) → narrowed_bits zero n b ≡ b
unfolding narrowed_bits
shorten_none n b = refl

pub widen_on : (i n b m : ℕ) → i < 32 → true ≡ too_short n b → m ≡ min (b + 2) 64 → widened_bits (32 - (i + 1)) n m ≡ widened_bits (32 - i) n b
widen_on i n b m h e s =
    ap (λ x. widened_bits (32 - (i + 1)) n x) s ∙ ap (λ c. cond c (widened_bits (32 - (i + 1)) n (min (b + 2) 64)) b) e ∙ sym (widen_one (32 - (i + 1)) n b) ∙ sym (ap (λ k. widened_bits k n b) (turn i h))

pub widen_stop : (i n b : ℕ) → i < 32 → false ≡ too_short n b → b ≡ widened_bits (32 - i) n b
widen_stop i n b h e = ap (λ c. cond c (widened_bits (32 - (i + 1)) n (min (b + 2) 64)) b) e ∙ sym (widen_one (32 - (i + 1)) n b) ∙ sym (ap (λ k. widened_bits k n b) (turn i h))

pub widen_end : (i n b : ℕ) → 32 ≤ i → b ≡ widened_bits (32 - i) n b
widen_end i n b h = sym (ap (λ k. widened_bits k n b) (none i h) ∙ widen_none n b)

pub shorten_on : (i n b m : ℕ) → i < 32 → true ≡ too_long n b → m ≡ b - 2 → narrowed_bits (32 - (i + 1)) n m ≡ narrowed_bits (32 - i) n b
shorten_on i n b m h e s =
    ap (λ x. narrowed_bits (32 - (i + 1)) n x) s ∙ ap (λ c. cond c (narrowed_bits (32 - (i + 1)) n (b - 2)) b) e ∙ sym (shorten_one (32 - (i + 1)) n b) ∙ sym (ap (λ k. narrowed_bits k n b) (turn i h))

pub shorten_stop : (i n b : ℕ) → i < 32 → false ≡ too_long n b → b ≡ narrowed_bits (32 - i) n b
shorten_stop i n b h e = ap (λ c. cond c (narrowed_bits (32 - (i + 1)) n (b - 2)) b) e ∙ sym (shorten_one (32 - (i + 1)) n b) ∙ sym (ap (λ k. narrowed_bits k n b) (turn i h))

pub shorten_end : (i n b : ℕ) → 32 ≤ i → b ≡ narrowed_bits (32 - i) n b
shorten_end i n b h = sym (ap (λ k. narrowed_bits k n b) (none i h) ∙ shorten_none n b)

-- a width that is neither too short nor too long stays
pub fits_stays : (solving : Bool) (n b : ℕ) → (not (too_short n b) && not (solving && too_long n b)) ≡ true → b ≡ fitting_bits solving n b
fits_stays solving n b e = go solving (too_short n b) (too_long n b) refl refl e
  where
    go : (solving short long : Bool) → too_short n b ≡ short → too_long n b ≡ long → (not short && not (solving && long)) ≡ true → b ≡ fitting_bits solving n b
    go false false long s l e = widen_stop 0 n b (omega arith) (sym s)
    go true false false s l e = shorten_stop 0 n b (omega arith) (sym l) ∙ ap (narrowed_bits 32 n) (widen_stop 0 n b (omega arith) (sym s))
    go true false true s l e = absurd (true≢false (sym e))
    go solving true long s l e = absurd (true≢false (sym e))
