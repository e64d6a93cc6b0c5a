-- Positions of a list that is visited in order.
use Rattle.std.proofs.Common.{ℕ, zero, suc, ◌+◌, ◌<◌, ◌≡◌, List, [], ◌∷◌, length, drop, slice_index_or, ◌∙◌, ap, arith}
use Rattle.std.specs.List.{AllByRecursion}

pub record Parts (lits : List ℕ) (i l : ℕ) (ls : List ℕ) : Type 0 where
  pub inside : i < length lits
  pub there : slice_index_or lits i 0 ≡ l
  pub rest : drop (i + 1) lits ≡ ls

pub drop_parts : (lits : List ℕ) (i l : ℕ) (ls : List ℕ) → drop i lits ≡ l ∷ ls → Parts lits i l ls
drop_parts [] zero l ls e = absurd cc
drop_parts [] (suc i) l ls e = absurd cc
drop_parts (x ∷ xs) zero l ls e = record { inside = omega arith; there = cc; rest = cc }
drop_parts (x ∷ xs) (suc i) l ls e =
    let p = drop_parts xs i l ls e in
    record { inside = (let h : i < length xs = p.inside in omega arith); there = p.there; rest = (let k : suc i + 1 ≡ suc (i + 1) = omega arith in ap (λ n. drop n (x ∷ xs)) k ∙ p.rest) }

pub from_index : (P : ℕ → Type 0) (xs : List ℕ) → ((k : ℕ) → k < length xs → P (slice_index_or xs k 0)) → AllByRecursion P xs
from_index P [] h = tt
from_index P (x ∷ xs) h = (h zero (omega arith), from_index P xs (λ k n. h (suc k) (omega arith)))
