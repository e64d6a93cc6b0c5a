-- The order of the literals of a clause. Lists of steps have the newest first.
use Rattle.std.specs.Prelude.{ℕ, ◌≡◌, List, ◌∷◌, ◌++◌, map}
use Rattle.sat_base.specs.steps.Steps.{Step, AddClause}
use Rattle.sat_checker.specs.SortedSets.{IsIncreasing}
use Rattle.sat_solver.specs.session.LiveClauses.{AreMapped, with_var}
use Rattle.sat_solver.specs.session.Session.{session_after}

-- `IsInIndexOrder earlier clause` holds if the clause, over proof variables, has its literals by increasing index of
-- their variables, a positive one before its negation, and none twice; all have indices after the steps `earlier`
pub record IsInIndexOrder (earlier : List Step) (clause : List ℕ) : Type 0 where
  pub variable_at : ℕ → ℕ
  pub lits : List ℕ
  pub is : clause ≡ map (with_var variable_at) lits
  pub indices : AreMapped variable_at (session_after earlier).solver_names lits
  pub increasing : IsIncreasing lits

-- `AddsInOrder from to` holds if one of the steps made after `from` added a clause whose literals are in order of the
-- indices that their variables had then
pub record AddsInOrder (from to : List Step) : Type 0 where
  pub front : List Step
  pub clause : List ℕ
  pub following : List Step
  pub steps : to ≡ following ++ (AddClause clause ∷ (front ++ from))
  pub order : IsInIndexOrder (front ++ from) clause
