use Rattle.std.proofs.Common.{arith}
use Rattle.std.proofs.lemmas.Grind.{common_steps}
use Rattle.sat_solver.proofs.lemmas.variables.Doing.{does_none}
use Rattle.sat_solver.proofs.lemmas.variables.Giving.{alike_forgets, none_test}
use Rattle.sat_solver.proofs.variables.modes.delete_idle.Goals as goal

pub returns-then-is_marked-clause-does : goal.returns-then-is_marked-clause-does
returns-then-is_marked-clause-does g c = does_none c.args.variables.now (g.W.StepLog.steps c.args.writer.now) c.requires.valid

pub returns-then-is_some-clause-does : goal.returns-then-is_some-clause-does
returns-then-is_some-clause-does g c = does_none c.args.variables.now (g.W.StepLog.steps c.args.writer.now) c.requires.valid

pub returns-clause-alike : goal.returns-clause-alike
returns-clause-alike g c = grind (arith, common_steps, alike_forgets, none_test)
