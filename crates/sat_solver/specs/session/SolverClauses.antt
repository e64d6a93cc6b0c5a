-- The clauses of the parts as one list: binary clauses, each once, and long ones.
use Rattle.std.specs.Prelude.{ℕ, ◌+◌, ◌≡◌, Bool, false, Option, nat_lt, List, [], ◌∷◌, ◌++◌, take, drop, if◌then◌else◌}
use Rattle.std.specs.List.{filter, list_all}
use Rattle.sat_base.specs.values.Literals.{variable, negated}
use Rattle.sat_store.specs.clause.Buffer.{lits_at}
use Rattle.sat_parts.specs.prop.Values.{is_unassigned_var}
use Rattle.sat_parts.specs.prop.Binaries.{implied_by}
use Rattle.sat_solver.specs.session.LiveClauses.{LiveClause}

-- the binary clause of two literals; binary clauses are irredundant
abbrev pub pair : ℕ → ℕ → LiveClause
pair a b = record { redundant = false; literals = a ∷ b ∷ [] }

-- the binary clauses of literal `a` with each of the listed literals that has a higher code than `a`
abbrev pub binaries_of : ℕ → List ℕ → List LiveClause
binaries_of a [] = []
binaries_of a (m ∷ ms) = if nat_lt a m then pair a m ∷ binaries_of a ms else binaries_of a ms

-- the binary clauses stored as lists of implied literals, each clause once; the first list has the literals that
-- literal `l` implies, the next those of `l` + 1
abbrev pub binaries_from : ℕ → List (List ℕ) → List LiveClause
binaries_from l [] = []
binaries_from l (ms ∷ rest) = binaries_of (negated l) ms ++ binaries_from (l + 1) rest

-- all binary clauses stored as lists of implied literals (indexed by literal code), each clause once
abbrev pub binaries : List (List ℕ) → List LiveClause
binaries = binaries_from 0

-- the clauses of three or more literals at the given positions of the buffer; the predicate `redundant` says which
-- positions have a redundant one
abbrev pub longs : (ℕ → Bool) → List ℕ → List ℕ → List LiveClause
longs redundant words [] = []
longs redundant words (o ∷ os) = record { redundant = redundant o; literals = lits_at words o } ∷ longs redundant words os

-- all live clauses of a search: the binary ones, and the long ones at the positions `live` of the buffer `words`
abbrev pub solver_clauses : (ℕ → Bool) → List ℕ → List ℕ → List (List ℕ) → List LiveClause
solver_clauses redundant words live implied = binaries implied ++ longs redundant words live

-- `InsertsClause old new c` holds if `new` is `old` with the clause `c` inserted at some place
pub record InsertsClause (old new : List LiveClause) (c : LiveClause) : Type 0 where
  pub before : List LiveClause
  pub following : List LiveClause
  pub was : old ≡ before ++ following
  pub is : new ≡ before ++ c ∷ following

-- `is_open_clause values c` is true if no variable of the clause has a value
abbrev pub is_open_clause : List (Option Bool) → LiveClause → Bool
is_open_clause values c = list_all (λ l. is_unassigned_var values (variable l)) c.literals

-- the binary clauses while those with an assigned variable are removed: already removed from all lists before list `l`
-- and among the first `k` literals of list `l`, not yet from the rest
abbrev pub binaries_left : List (Option Bool) → List (List ℕ) → (l k : ℕ) → List LiveClause
binaries_left values implied l k =
    let ms : List ℕ = implied_by implied l in
    filter (is_open_clause values) (binaries_from 0 (take l implied))
    ++ (filter (is_open_clause values) (binaries_of (negated l) (take k ms)) ++ (binaries_of (negated l) (drop k ms) ++ binaries_from (l + 1) (drop (l + 1) implied)))
