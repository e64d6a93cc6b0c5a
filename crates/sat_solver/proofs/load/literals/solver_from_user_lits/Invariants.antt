use Rattle.std.proofs.Common.{◌≡◌, drop}
use Rattle.sat_solver.specs.variables.VariableRoom.{HasVariablesFor, user_vars_in}
use Rattle.sat_solver.proofs.lemmas.variables.TakenNames.{Taking}
use Rattle.sat_solver.proofs.load.literals.solver_from_user_lits.Given as goal

abbrev pub invariant-loop-lit : goal.invariant-loop-lit
invariant-loop-lit g l = record {
  globals : l.taken.globals ≡ l.fn.taken.globals;
  keeps : g.W.StepLog.keeps l.writer;
  room : HasVariablesFor l.fn.variables (user_vars_in l.lits) → HasVariablesFor l.variables (user_vars_in (drop l.lit-index l.lits));
  came : (w : g.row.W.Denot) → g.W.StepLog.took w l.fn.writer → g.W.StepLog.took w l.writer;
  taking : Taking l.fn.variables l.variables (g.W.StepLog.steps l.fn.writer) (g.W.StepLog.steps l.writer) l.lits l.lit-index l.taken.order.items l.taken.given.items;
}
