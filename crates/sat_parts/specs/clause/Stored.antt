-- Live clauses and their literals.
use Rattle.std.specs.Prelude.{ℕ, ◌*◌, ◌<◌, ◌≤◌, List, length, slice_index_or as get_or}
use Rattle.std.specs.List.{Contains}
use Rattle.sat_store.specs.clause.Buffer.{HoldsClauses, lits_at}
use Rattle.sat_parts.specs.clause.Orders.{AreDistinct}

-- the literal at position `k` of the clause at offset `o` of the buffer `words`, 0 past its end
abbrev pub lit_of : List ℕ → ℕ → ℕ → ℕ
lit_of words o k = get_or (lits_at words o) k 0

-- the number of literals of the clause at o
abbrev pub size_of : List ℕ → ℕ → ℕ
size_of words o = length (lits_at words o)

-- `AreLongClauses words live count` holds if no two clauses of `live` share words, and each has three or more different
-- literals with variables below `count`.
pub record AreLongClauses (words live : List ℕ) (count : ℕ) : Type 0 where
  pub holds_clauses : HoldsClauses words live
  pub long : (o : ℕ) → Contains live o → 3 ≤ size_of words o
  pub below : (o k : ℕ) → Contains live o → k < size_of words o → lit_of words o k < 2 * count
  pub distinct : (o : ℕ) → Contains live o → AreDistinct (lits_at words o)
