-- The contracts of two calls, each as one relation, for calls that stand for them.
use Rattle.std.specs.Prelude.{ℕ, List, IfOk, OnOk, Result}
use Rattle.anyhow.specs.declared.error.Error.{Error}
use Rattle.sat_checker.specs.announcements.Announcements.{Notice}
use Rattle.sat_solver.specs.declared.error.SolverError.{SolverError}
use Rattle.sat_solver.specs.variables.NamingSteps.{IsDue}
use Rattle.sat_solver.specs.facade.View.{SolverView}
use Rattle.sat_solver.specs.facade.Adding.{AddsClause, StepsOfClause}
use Rattle.sat_solver.specs.facade.Calls.{WritesSteps}
use Rattle.sat_solver.specs.facade.Checking.{CheckerAfter}
use Rattle.sat_solver.specs.facade.Naming.{NewNameResult, OnlyMakes, due_for_name}

-- `CallsAddClause takes r old new clause` holds if everything that the contract of `add_clause` promises holds for the
-- result `r`: about the view, the ordered steps on `Ok`, the text, and the own checker, whose listeners change by
-- `takes`
pub record CallsAddClause {L : Type 0} (takes : L → Notice → Result Unit Error → L → Type 0) (r : Result (Unit {0}) SolverError) (old new : SolverView L) (clause : List ℕ) : Type 0 where
  pub adds : AddsClause r old new clause
  pub steps : OnOk r (StepsOfClause old new clause)
  pub text : WritesSteps r old new
  pub checker : CheckerAfter takes r old new

-- `CallsNewVar takes r old new` holds if everything that the contract of `new_var` promises holds for the result `r`:
-- about the view, the ordered steps on `Ok`, the text, and the own checker, whose listeners change by `takes`
pub record CallsNewVar {L : Type 0} (takes : L → Notice → Result Unit Error → L → Type 0) (r : Result ℕ SolverError) (old new : SolverView L) : Type 0 where
  pub names : NewNameResult r old new
  pub steps : IfOk r (λ user. OnlyMakes IsDue (due_for_name user) old new)
  pub text : WritesSteps r old new
  pub checker : CheckerAfter takes r old new
