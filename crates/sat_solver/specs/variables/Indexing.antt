-- A variable gets or loses an index of the search.
use Rattle.std.specs.Prelude.{ℕ, ◌==◌, ◌≡◌, ◌⊎◌, ◌∷◌, ◌++◌, Some, None, List, if◌then◌else◌}
use Rattle.sat_base.specs.steps.Steps.{Step, SolverVarName}
use Rattle.sat_solver.specs.session.Session.{session_after}
use Rattle.sat_solver.specs.variables.Variables.{solver_of, indices_used}
use Rattle.sat_solver.specs.variables.Naming.{IsNextIndex}
use Rattle.sat_solver.specs.variables.Calls.{KeepsScriptState}
use Rattle.sat_solver.specs.variables.Search.{KeepsSearch, GivesIndices}
use Rattle.sat_solver.specs.declared.variables.solver_vars.Given.{Given}
use Rattle.sat_solver.specs.declared.variables.Variables.{Variables}

-- `Indexes old new from to before after v x` holds if the proof variable `v` has index `x` now: it had it before and no
-- step was made, or one step gave it the lowest free index, which is appended to the list of given indices (from
-- `before` to `after`)
pub record Indexes (old new : Variables) (from to : List Step) (before after : List Given) (v x : ℕ) : Type 0 where
  pub does : KeepsScriptState old new from to
  pub has : solver_of new v ≡ Some x
  pub users : new.global_from_user ≡ old.global_from_user
  pub kept : new.var_data ≡ old.var_data
  pub search : KeepsSearch (session_after from) (session_after to)
  pub fresh : List Given
  pub listed : after ≡ before ++ fresh
  pub gives : GivesIndices old new (session_after from) fresh
  pub step : (to ≡ from) ⊎ ((to ≡ SolverVarName v (Some x) ∷ from) × (solver_of old v ≡ None) × IsNextIndex old x)

-- `Unindexes old new from to v x` holds if exactly one step was made, which took the index (which was `x`) from the
-- proof variable `v`; other indices, names, data of variables and clauses are unchanged
pub record Unindexes (old new : Variables) (from to : List Step) (v x : ℕ) : Type 0 where
  pub does : KeepsScriptState old new from to
  pub step : to ≡ SolverVarName v None ∷ from
  pub solvers : (w : ℕ) → solver_of new w ≡ (if w == v then None else solver_of old w)
  pub globals : new.globals ≡ old.globals
  pub used : indices_used new ≡ indices_used old
  pub users : new.global_from_user ≡ old.global_from_user
  pub kept : new.var_data ≡ old.var_data
  pub search : KeepsSearch (session_after from) (session_after to)
