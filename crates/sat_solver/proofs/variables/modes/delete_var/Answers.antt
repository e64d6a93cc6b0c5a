use Rattle.sat_solver.proofs.lemmas.variables.Deleting.{var_deleted}
use Rattle.sat_solver.proofs.variables.modes.delete_var.Goals as goal

pub returns-clause-does : goal.returns-clause-does
returns-clause-does g c = var_deleted c.args.variables.now c.put_deleted.new.self (g.W.StepLog.steps c.args.writer.now) (g.W.StepLog.steps c.step.new.self) c.args.global c.requires.valid c.requires.live c.requires.nameless c.requires.without c.requires.unmarked
    c.put_deleted.ensures c.in_ok-step.ensures.steps
