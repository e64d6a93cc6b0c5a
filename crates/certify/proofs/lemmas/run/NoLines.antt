-- A run's solver stays ready: it writes no lines of DRAT, and has no checker of its own.
use Rattle.std.proofs.Common.{◌≡◌, ◌∙◌, false, List, ap}
use Rattle.sat_base.specs.steps.Steps.{Step}
use Rattle.sat_solver.specs.facade.Calls.{MakesSteps}
use Rattle.sat_solver.specs.facade.Recording.{RecordsAnswer}
use Rattle.sat_solver.specs.proof.ProofView.{Target, Closed, Open, Broken, TargetReceives, is_drat}
use Rattle.certify.specs.run.SolverCalls.{IsReadySolver}
use Rattle.certify.specs.run.RunSolver.{Solver}

carried : (t : Target) (steps : List Step) (u : Target) → TargetReceives t steps u → is_drat u ≡ is_drat t
carried (Closed c) steps u e = ap is_drat e.1
carried (Open f c s) steps u h = ap is_drat h.2
carried (Broken w) steps u e = ap is_drat e

-- a solver that carried out a call is ready for the next
pub ready_still : (a b : Solver) → IsReadySolver a → MakesSteps a b → b.failed ≡ false → (b.failed ≡ false → RecordsAnswer b) → IsReadySolver b
ready_still a b ready took going records = record {
  going = going;
  no_lines = carried a.target took.steps b.target took.target ∙ ready.no_lines;
  unchecked = took.listening ∙ ready.unchecked;
  records = records going;
}
