use Rattle.sat_solver.proofs.lemmas.variables.ClauseWritten.{may_add, clause_written}
use Rattle.sat_solver.proofs.load.clause.write_clause.Goals as goal

pub step-requires-clause-may : goal.step-requires-clause-may
step-requires-clause-may g c = may_add c.args._variables.now (g.W.StepLog.steps c.args.writer.now) c.args._user.now c.args.clause.now c.requires.valid c.requires.literals

pub returns-clause-does : goal.returns-clause-does
returns-clause-does g c = clause_written c.args._variables.now (g.W.StepLog.steps c.args.writer.now) c.args._user.now c.args.clause.now c.requires.valid c.requires.literals (g.W.StepLog.steps c.step.new.self) c.in_ok-step.ensures.steps
