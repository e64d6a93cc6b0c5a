-- What contracts of a run see of its solver, which has no listeners.
use Rattle.sat_checker.specs.declared.processing.Nobody.{Nobody}
use Rattle.sat_solver.specs.facade.View.{SolverView}

-- the state of the solver of a run, as its contracts see it
abbrev pub Solver : Type 0
Solver = SolverView Nobody
