-- The variables that occur in clauses.
use Rattle.std.specs.Prelude.{ℕ, ◌≡◌, ◌<◌, ◌⊎◌, Bool, true, false, List, length, slice_index_or as get_or}
use Rattle.sat_base.specs.values.Literals.{variable}
use Rattle.sat_parts.specs.clause.Db.{is_live}
use Rattle.sat_parts.specs.clause.Stored.{lit_of, size_of}
use Rattle.sat_parts.specs.prop.Binaries.{implied_by}

-- `MarksExactly old new P` holds if, of the flags by variable, those for which `P` holds were set in `new`, those set
-- in `old` are still set, and no others are.
pub record MarksExactly (old new : List Bool) (P : ℕ → Type 0) : Type 0 where
  pub size : length new ≡ length old
  pub kept : (v : ℕ) → get_or old v false ≡ true → get_or new v false ≡ true
  pub all : (v : ℕ) → P v → get_or new v false ≡ true
  pub only : (v : ℕ) → get_or new v false ≡ true → (get_or old v false ≡ true) ⊎ P v

-- `OccursInFirstLits ls n v` holds if the variable `v` occurs in the first `n` literals.
abbrev pub OccursInFirstLits : List ℕ → (n v : ℕ) → Type 0
OccursInFirstLits ls n v = (k : ℕ) × ((k < n) × (variable (get_or ls k 0) ≡ v))

-- `OccursInClauseLits words o n v` holds if the variable `v` occurs in the first `n` literals of the clause at `o`.
abbrev pub OccursInClauseLits : List ℕ → (o n v : ℕ) → Type 0
OccursInClauseLits words o n v = (k : ℕ) × ((k < n) × (variable (lit_of words o k) ≡ v))

-- `OccursInLongClauses words refs n v` holds if the variable `v` occurs in a live clause among the first `n`.
abbrev pub OccursInLongClauses : (words refs : List ℕ) (n v : ℕ) → Type 0
OccursInLongClauses words refs n v = (j : ℕ) × ((j < n) × (is_live words (get_or refs j 0) ≡ true) × OccursInClauseLits words (get_or refs j 0) (size_of words (get_or refs j 0)) v)

-- `OccursInBinaryClauses implied n v` holds if the variable `v` occurs in a binary clause that is listed for one of the
-- first `n` literals.
abbrev pub OccursInBinaryClauses : List (List ℕ) → (n v : ℕ) → Type 0
OccursInBinaryClauses implied n v = (l : ℕ) × ((l < n) × (0 < length (implied_by implied l)) × ((variable l ≡ v) ⊎ OccursInFirstLits (implied_by implied l) (length (implied_by implied l)) v))
