use Rattle.std.proofs.Common.{refl}
use Rattle.sat_solver.proofs.lemmas.variables.BroughtIn.{brought_next}
use Rattle.sat_solver.proofs.lemmas.variables.ObservingLemmas.{none_left}
use Rattle.sat_solver.proofs.variables.user_vars.new_user_var.Goals as goal

pub returns-clause-brought : goal.returns-clause-brought
returns-clause-brought g c = brought_next c.args.variables.now c.new_name.new.variables (g.W.StepLog.steps c.args.writer.now) (g.W.StepLog.steps c.new_name.new.writer) c.in-Some.user c.in_ok-new_name.field-0 c.requires.valid c.in-Some.ensures.next c.in_ok-new_name.ensures.names

pub returns-in_default-clause-limit : goal.returns-in_default-clause-limit
returns-in_default-clause-limit g c = record { names = refl; steps = refl; none = none_left c.args.variables.now c.requires.valid.tidy c.in_default.ensures.full }
