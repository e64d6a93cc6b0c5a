-- Assumptions over names, and the marks of their variables.
use Rattle.std.specs.Prelude.{ℕ, ◌≡◌, ◌∷◌, ◌++◌, [], Bool, true, false, List, map}
use Rattle.sat_base.specs.script.ScriptState.{introduce_all}
use Rattle.sat_base.specs.steps.Steps.{Step, Assumptions}
use Rattle.sat_checker.specs.LiteralSets.{mentions}
use Rattle.sat_solver.specs.session.Session.{session_after}
use Rattle.sat_solver.specs.session.LiveClauses.{with_var}
use Rattle.sat_store.specs.declared.data.VarData.{VarData}
use Rattle.sat_solver.specs.variables.Variables.{data_at, variables_used}
use Rattle.sat_solver.specs.variables.Naming.{ExtendsNames}
use Rattle.sat_solver.specs.variables.Refusing.{names_in}
use Rattle.sat_checker.specs.matching.Expected.{Outcome, Opens, steps_introducing}
use Rattle.sat_solver.specs.load.Literals.{user_literal, AreImages, global_with_index}
use Rattle.sat_solver.specs.variables.Search.{KeepsSearch, GivesIndices}
use Rattle.sat_solver.specs.variables.Calls.{ChangesScriptState}
use Rattle.sat_solver.specs.session.AllowedSteps.{OnlyAllowedSteps}
use Rattle.sat_solver.specs.variables.NamingSteps.{IsLiteralsStep}
use Rattle.sat_solver.specs.declared.variables.Variables.{Variables}
use Rattle.sat_solver.specs.declared.load.literals.MappedLits.{MappedLits}

-- `with_assumed_if flag assumed d` is the data `d` of a variable, with its mark as assumed set to `assumed` if `flag`
-- is true, and unchanged otherwise
abbrev pub with_assumed_if : Bool → Bool → VarData → VarData
with_assumed_if true assumed d = record d { assumed = assumed }
with_assumed_if false assumed d = d

-- `MarksAssumed old new ls assumed` holds if, in the data of variables, the marks of the variables of the literals `ls`
-- are set to `assumed`, and other variables are unchanged
pub record MarksAssumed (old new : ℕ → VarData) (ls : List ℕ) (assumed : Bool) : Type 0 where
  pub each : (v : ℕ) → new v ≡ with_assumed_if (mentions ls v) assumed (old v)

-- `StoresMarks old new ls` holds if exactly the proof variables of the literals `ls` are marked as assumed, no others,
-- and nothing else stored about names has changed
pub record StoresMarks (old new : Variables) (ls : List ℕ) : Type 0 where
  pub users : new.global_from_user ≡ old.global_from_user
  pub solvers : new.solver_from_global ≡ old.solver_from_global
  pub globals : new.globals ≡ old.globals
  pub witnessed : new.witnessed ≡ old.witnessed
  pub own : new.own_names ≡ old.own_names
  pub kept : (v : ℕ) → data_at new v ≡ record (data_at old v) { assumed = mentions ls v }
  pub count : variables_used new ≡ variables_used old
  pub free_users : new.free_users ≡ old.free_users
  pub free_globals : new.free_globals ≡ old.free_globals
  pub free_solvers : new.free_solvers ≡ old.free_solvers

-- `IntroducesAssumptions old new from to user t` holds if the names of the literals `user` were introduced, their
-- variables have indices, and the last step makes them the assumptions, as the proof literals in `t.globals`; `t.order`
-- has the search literals, in order. This holds for any outcome of the ask.
pub record IntroducesAssumptions (old new : Variables) (from to : List Step) (user : List ℕ) (t : MappedLits) : Type 0 where
  pub does : (o : Outcome) → ChangesScriptState old new from to (introduce_all (names_in user)) (λ j. steps_introducing (names_in user) j ++ (Opens (map user_literal user) o ∷ []))
  pub extends : ExtendsNames old new
  pub images : AreImages new user t.order.items
  pub globals : t.globals.items ≡ map (with_var (global_with_index new)) t.order.items
  pub gives : GivesIndices old new (session_after from) t.given.items
  -- all steps before the last one; the search sees no change by those since `from`
  pub between : List Step
  pub written : to ≡ Assumptions t.globals.items ∷ between
  pub search : KeepsSearch (session_after from) (session_after between)
  pub comes : OnlyAllowedSteps (IsLiteralsStep (names_in user)) from to
