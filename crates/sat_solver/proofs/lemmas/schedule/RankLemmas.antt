-- Ranks of words.
use Rattle.std.proofs.Common.{◌≡◌, ℕ, zero, suc, ◌+◌, ◌*◌, ◌^◌, ◌<◌, ◌≤◌, List, [], ◌∷◌, ◌++◌, length, arith}
use Rattle.sat_parts.specs.prop.TrailWord.{Letter, D, P, IsLowerWord}
use Rattle.sat_solver.specs.schedule.Ranks.{word_rank}

pow_double : (n : ℕ) → 2 ^ suc n ≡ 2 * 2 ^ n
pow_double n = grind arith

pow_pos : (n : ℕ) → 0 < 2 ^ n
pow_pos zero = omega arith
pow_pos (suc n) = omega (arith, pow_double n, pow_pos n)

pub rank_below : (n : ℕ) (w : List Letter) → word_rank n w + 1 < 2 ^ suc n
rank_below zero [] = omega arith
rank_below zero (x ∷ w) = omega arith
rank_below (suc n) [] = omega (arith, pow_double (suc n), pow_double n, rank_below n [])
rank_below (suc n) (D ∷ w) = omega (arith, pow_double (suc n), rank_below n w)
rank_below (suc n) (P ∷ w) = omega (arith, pow_double (suc n), rank_below n w)

-- appending letters does not lower the rank
pub rank_begins : (n : ℕ) (u w : List Letter) → word_rank n u ≤ word_rank n (u ++ w)
rank_begins zero [] w = omega arith
rank_begins zero (x ∷ u) w = omega arith
rank_begins (suc n) [] w = omega arith
rank_begins (suc n) (D ∷ u) w = omega (arith, rank_begins n u w)
rank_begins (suc n) (P ∷ u) w = omega (arith, rank_begins n u w)

-- a lower word has a lower rank
pub rank_rises : (n : ℕ) (u v : List Letter) → length v ≤ n → IsLowerWord u v → word_rank n u < word_rank n v
rank_rises n [] [] h b = absurd b
rank_rises n (x ∷ u) [] h b = absurd b
rank_rises zero u (y ∷ v) h b = absurd (omega arith)
rank_rises (suc n) [] (D ∷ v) h b = omega arith
rank_rises (suc n) [] (P ∷ v) h b = omega (arith, pow_pos (suc n))
rank_rises (suc n) (D ∷ u) (P ∷ v) h b = omega (arith, rank_below n u)
rank_rises (suc n) (P ∷ u) (D ∷ v) h b = absurd b
rank_rises (suc n) (D ∷ u) (D ∷ v) h b = omega (arith, rank_rises n u v (omega arith) b)
rank_rises (suc n) (P ∷ u) (P ∷ v) h b = omega (arith, rank_rises n u v (omega arith) b)
