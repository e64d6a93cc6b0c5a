use Rattle.sat_solver.proofs.lemmas.variables.ObservingLemmas.{Observing}
use Rattle.sat_solver.proofs.variables.observe.observe_internal_vars.Given as goal

abbrev pub invariant-loop-index : goal.invariant-loop-index
invariant-loop-index g l = Observing l.fn.variables l.variables (g.W.StepLog.steps l.fn.writer) (g.W.StepLog.steps l.writer) l.users.items l.index × g.W.StepLog.keeps l.writer × ((w : g.row.W.Denot) → g.W.StepLog.took w l.fn.writer → g.W.StepLog.took w l.writer)
