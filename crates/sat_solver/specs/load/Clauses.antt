-- A clause over names, as it is added and written.
use Rattle.std.specs.Prelude.{ℕ, ◌≡◌, ◌∷◌, ◌++◌, [], Bool, List, map}
use Rattle.sat_base.specs.script.ScriptState.{introduce_all, with_clause}
use Rattle.sat_base.specs.steps.Steps.{Step, AddClause}
use Rattle.sat_checker.specs.LiteralSets.{is_tautology}
use Rattle.sat_solver.specs.session.Session.{session_after}
use Rattle.sat_solver.specs.variables.Naming.{ExtendsNames}
use Rattle.sat_solver.specs.variables.Refusing.{names_in}
use Rattle.sat_checker.specs.matching.Expected.{Adds, steps_introducing}
use Rattle.sat_solver.specs.load.Literals.{user_literal, AreImages, MapsClause}
use Rattle.sat_solver.specs.variables.Search.{KeepsSearch, KeepsWhatSearchSees, GivesIndices}
use Rattle.sat_solver.specs.variables.Calls.{ChangesScriptState}
use Rattle.sat_solver.specs.session.AllowedSteps.{OnlyAllowedSteps}
use Rattle.sat_solver.specs.variables.NamingSteps.{IsDue, IsLiteralsStep}
use Rattle.sat_solver.specs.declared.variables.Variables.{Variables}
use Rattle.sat_solver.specs.declared.load.literals.MappedLits.{MappedLits}

-- `IntroducesClause old new from to user t both_signs` holds if the names of the clause `user` were introduced, their
-- variables have indices, and the last step adds the clause, as the proof literals in `t.globals`; `t.lits` has the
-- search literals, sorted by code, without repeats. `both_signs` says whether it is a tautology.
pub record IntroducesClause (old new : Variables) (from to : List Step) (user : List ℕ) (t : MappedLits) (both_signs : Bool) : Type 0 where
  pub does : ChangesScriptState old new from to (λ j. with_clause (map user_literal user) (introduce_all (names_in user) j)) (λ j. steps_introducing (names_in user) j ++ (Adds (map user_literal user) ∷ []))
  pub signs : both_signs ≡ is_tautology t.order.items
  pub extends : ExtendsNames old new
  pub images : AreImages new user t.order.items
  pub clause : MapsClause new t
  pub gives : GivesIndices old new (session_after from) t.given.items
  -- all steps before the last one; the search sees no change by those since `from`
  pub between : List Step
  pub since : OnlyAllowedSteps (IsLiteralsStep (names_in user)) from between
  pub written : to ≡ AddClause t.globals.items ∷ between
  pub search : KeepsSearch (session_after from) (session_after between)
  pub comes : OnlyAllowedSteps (IsLiteralsStep (names_in user)) from to

-- `OmitsClause old new from to user` holds if the names of the clause `user` were introduced and no step adds the
-- clause, as when the clauses are known to be unsatisfiable; the script state still gets it
pub record OmitsClause (old new : Variables) (from to : List Step) (user : List ℕ) : Type 0 where
  pub does : ChangesScriptState old new from to (λ j. with_clause (map user_literal user) (introduce_all (names_in user) j)) (steps_introducing (names_in user))
  pub extends : ExtendsNames old new
  pub unseen : KeepsWhatSearchSees old new from to
  pub comes : OnlyAllowedSteps IsDue from to
