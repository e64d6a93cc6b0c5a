-- Two clauses of one buffer, of which the second is changed.
use Rattle.std.proofs.Common.{◌≡◌, ◌≢◌, ℕ, List, [], ◌∷◌, refl, arith}
use Rattle.sat_store.specs.clause.Buffer.{lits_at, HoldsClauses, ChangesClauseAt}
use Rattle.sat_store.proofs.lemmas.clause.HeldClauses.{kept_beside}

-- both are still held
pub both_held : (old new : List ℕ) (a b : ℕ) → HoldsClauses old (a ∷ b ∷ []) → ChangesClauseAt old new b → HoldsClauses new (a ∷ b ∷ [])
both_held old new a b held change = change.holds_clauses (a ∷ b ∷ []) (1, omega arith, refl) held

-- the first one has the same literals
pub first_kept : (old new : List ℕ) (a b : ℕ) → HoldsClauses old (a ∷ b ∷ []) → a ≢ b → ChangesClauseAt old new b → lits_at new a ≡ lits_at old a
first_kept old new a b held differ change = (kept_beside old new (a ∷ b ∷ []) b a held (1, omega arith, refl) (0, omega arith, refl) differ change).lits
