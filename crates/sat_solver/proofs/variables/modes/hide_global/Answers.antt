use Rattle.sat_solver.proofs.lemmas.variables.ModeChanges.{named_within}
use Rattle.sat_solver.proofs.lemmas.variables.Hiding.{name_hidden}
use Rattle.sat_solver.proofs.variables.modes.hide_global.Goals as goal

pub put_hidden-requires-clause-within : goal.put_hidden-requires-clause-within
put_hidden-requires-clause-within g c = named_within c.args.variables.now c.args.user c.args.global c.requires.valid.tidy c.requires.named

pub returns-clause-does : goal.returns-clause-does
returns-clause-does g c = name_hidden c.args.variables.now c.put_hidden.new.self (g.W.StepLog.steps c.args.writer.now) (g.W.StepLog.steps c.step.new.self) c.args.user c.args.global c.requires.valid c.requires.named
    c.put_hidden.ensures c.in_ok-step.ensures.steps
