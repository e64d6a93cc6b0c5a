-- Clauses that changed only in the order of their literals.
use Rattle.std.specs.Prelude.{ℕ, ◌≡◌, ◌≢◌, ◌<◌, List, length, slice_index_or as get_or}
use Rattle.std.specs.List.{Contains}
use Rattle.std.specs.List.Sorted.{IsPermutation}
use Rattle.sat_store.specs.clause.Buffer.{IsClause, HoldsClauses, SameClauseAt, header_at, lits_at}

-- `AreDistinct ls` holds if no literal is in `ls` twice.
abbrev pub AreDistinct : List ℕ → Type 0
AreDistinct ls = (j k : ℕ) → j < length ls → k < length ls → get_or ls j 0 ≡ get_or ls k 0 → j ≡ k

-- `IsReordering ls ms` holds if `ms` has the literals of `ls`, possibly in another order.
pub record IsReordering (ls ms : List ℕ) : Type 0 where
  pub order : IsPermutation ls ms
  pub size : length ms ≡ length ls
  pub forth : (k : ℕ) → k < length ls → (j : ℕ) × ((j < length ls) × (get_or ms j 0 ≡ get_or ls k 0))
  pub back : (k : ℕ) → k < length ls → (j : ℕ) × ((j < length ls) × (get_or ls j 0 ≡ get_or ms k 0))
  pub apart : AreDistinct ls → AreDistinct ms

-- `PermutesClause old new o` holds if nothing changed except possibly the order of the literals of the clause at `o`.
pub record PermutesClause (old new : List ℕ) (o : ℕ) : Type 0 where
  pub size : length new ≡ length old
  pub clause : IsClause new o
  pub header : header_at new o ≡ header_at old o
  pub lits : IsReordering (lits_at old o) (lits_at new o)
  pub holds_clauses : (refs : List ℕ) → Contains refs o → HoldsClauses old refs → HoldsClauses new refs
  pub others : (refs : List ℕ) (p : ℕ) → Contains refs o → HoldsClauses old refs → Contains refs p → o ≢ p → SameClauseAt old new p

-- `SameUpToOrder old new refs` holds if the clauses of `refs` have the same headers in `new` as in `old`, and the same
-- literals, possibly in another order.
pub record SameUpToOrder (old new refs : List ℕ) : Type 0 where
  pub holds_clauses : HoldsClauses new refs
  pub headers : (o : ℕ) → Contains refs o → header_at new o ≡ header_at old o
  pub lits : (o : ℕ) → Contains refs o → IsReordering (lits_at old o) (lits_at new o)

-- `PermutesClauses old new live` holds if in every list of clauses that contains those of `live`, nothing changed
-- except possibly the order of literals (`SameUpToOrder`).
pub record PermutesClauses (old new live : List ℕ) : Type 0 where
  pub size : length new ≡ length old
  pub all : (refs : List ℕ) → ((o : ℕ) → Contains live o → Contains refs o) → HoldsClauses old refs → SameUpToOrder old new refs
