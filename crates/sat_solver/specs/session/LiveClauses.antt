-- The live clauses of a solver as a list, in any order, each with its literals in any order, over search variables.
use Rattle.std.specs.Prelude.{ℕ, ◌+◌, ◌*◌, ◌/◌, ◌%◌, ◌≡◌, ◌⊎◌, ◌&&◌, Bool, Option, Some, List, [], ◌∷◌, map}
use Rattle.std.specs.List.{AllByRecursion}
use Rattle.sat_base.specs.values.Literals.{variable}
use Rattle.sat_checker.specs.LiteralSets.{canonical, same_literals}
use Rattle.sat_checker.specs.SortedSets.{NoRepeats}
use Rattle.sat_checker.specs.Contents.{same_flag, plus_one_if}
use Rattle.sat_solver.specs.session.Session.{Session}

-- a live clause: whether it is redundant, and its literals over search variables
pub record LiveClause : Type 0 where
  pub redundant : Bool
  pub literals : List ℕ

-- the number of clauses in the list that have the redundancy `r` and, once sorted, exactly the literals `set`
abbrev pub live_count_of : List LiveClause → Bool → List ℕ → ℕ
live_count_of [] r set = 0
live_count_of (c ∷ cs) r set = plus_one_if (same_flag c.redundant r && same_literals (canonical c.literals) set) (live_count_of cs r set)

-- `IsIn c cs` holds if the clause `c` is in the list `cs`, with the same redundancy and its literals in the same order
abbrev pub IsIn : LiveClause → List LiveClause → Type 0
IsIn c [] = ⊥
IsIn c (d ∷ ds) = (c ≡ d) ⊎ IsIn c ds

-- the literal code with its variable mapped by `global`, from an index of the search to a proof variable; same sign
abbrev pub with_var : (ℕ → ℕ) → ℕ → ℕ
with_var global l = 2 * global (l / 2) + l % 2

-- the clause with the variables of its literals mapped by `global`, from indices of the search to proof variables
abbrev pub mapped : (ℕ → ℕ) → LiveClause → LiveClause
mapped global c = record c { literals = map (with_var global) c.literals }

-- `AreMapped global names ls` holds if `global` maps the variable of every literal in `ls` (an index) to a proof
-- variable that has this index according to `names`
abbrev pub AreMapped : (ℕ → ℕ) → (ℕ → Option ℕ) → List ℕ → Type 0
AreMapped global names = AllByRecursion (λ l. names (global (variable l)) ≡ Some (variable l))

-- `AreLiveClausesOf s global cs` holds if `cs` are the live clauses of the session, as often as it has them, over
-- indices of the search that `global` maps to their proof variables; no literal occurs twice in a clause
pub record AreLiveClausesOf (s : Session) (global : ℕ → ℕ) (cs : List LiveClause) : Type 0 where
  pub named : (c : LiveClause) → IsIn c cs → AreMapped global s.solver_names c.literals
  pub once : (c : LiveClause) → IsIn c cs → NoRepeats c.literals
  pub counts : (r : Bool) (set : List ℕ) → s.live r set ≡ live_count_of (map (mapped global) cs) r set
