use Rattle.sat_solver.proofs.lemmas.variables.NamingSteps.{Coming}
use Rattle.sat_solver.proofs.variables.user_vars.introduce_up_to.Given as goal

abbrev pub invariant-loop-index : goal.invariant-loop-index
invariant-loop-index g l = Coming l.fn.variables l.variables (g.W.StepLog.steps l.fn.writer) (g.W.StepLog.steps l.writer) l.user l.index × g.W.StepLog.keeps l.writer × ((w : g.row.W.Denot) → g.W.StepLog.took w l.fn.writer → g.W.StepLog.took w l.writer)
