use Rattle.sat_solver.proofs.lemmas.variables.Indices.{index_taken}
use Rattle.sat_solver.proofs.variables.solver_vars.remove_solver_var.Goals as goal

pub returns-clause-gone : goal.returns-clause-gone
returns-clause-gone g c = index_taken c.args.variables.now c.take_index.new.self (g.W.StepLog.steps c.args.writer.now) (g.W.StepLog.steps c.step.new.self) c.args.global c.args.solver c.requires.valid c.requires.there c.requires.unit c.requires.unused
    c.take_index.ensures.puts c.take_index.ensures.globals c.in_ok-step.ensures.steps
