-- Two clauses that are live in one buffer.
use Rattle.std.specs.Prelude.{◌≡◌, ◌≢◌, ℕ, List, [], ◌∷◌}
use Rattle.sat_store.specs.clause.Buffer.{HoldsClauses, lits_at}

-- both are live, each with its literals
pub record HasTwo (words : List ℕ) (a b : ℕ) (first second : List ℕ) : Type 0 where
  pub holds_clauses : HoldsClauses words (a ∷ b ∷ [])
  pub differ : a ≢ b
  pub first_lits : lits_at words a ≡ first
  pub second_lits : lits_at words b ≡ second
