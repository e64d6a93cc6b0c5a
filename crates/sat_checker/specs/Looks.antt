-- A bound on the looks at literals that a step needs. The store lends the literals of a clause only through one
-- function, which adds the clause's length to the looks.
use Rattle.std.specs.Prelude.{ℕ, ◌+◌, ◌*◌, List, [], ◌∷◌, length}
use Rattle.sat_base.specs.steps.Steps.{Step, AtClause, UnitClauses, FailedAssumptions}
use Rattle.sat_checker.specs.Stored.{Stored, long_clauses}
use Rattle.sat_checker.specs.Accepts.{ready_after}

-- The number of literals of these clauses.
abbrev pub total_length : List (List ℕ) → ℕ
total_length [] = 0
total_length (c ∷ cs) = length c + total_length cs

-- The number of literals of all stored clauses of two or more literals, each clause taken once, whatever its counts.
abbrev pub stored_literal_count : Stored → ℕ
stored_literal_count f = total_length (long_clauses f)

-- The number of hashes that a step contains, one for each unit of a `UnitClauses` step.
abbrev pub hash_count : Step → ℕ
hash_count (AtClause redundant clause hashes) = length hashes
hash_count (UnitClauses us) = length us
hash_count (FailedAssumptions core hashes) = length hashes
hash_count step = 0

-- The bound on the looks of a step when `f` is stored before it: five passes over all stored literals, and two more for
-- every hash in the step.
abbrev pub most_looks : Stored → Step → ℕ
most_looks f step = (5 + 2 * hash_count step) * stored_literal_count f

-- The bound on the looks of a list of steps, the newest first.
abbrev pub most_looks_of : List Step → ℕ
most_looks_of [] = 0
most_looks_of (step ∷ earlier) = most_looks_of earlier + most_looks (ready_after earlier) step
