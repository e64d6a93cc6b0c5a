use Rattle.std.proofs.Common.{◌≡◌}
use Rattle.sat_solver.specs.variables.Calls.{KeepsScriptState}
use Rattle.sat_solver.specs.variables.NamingSteps.{DeletesIdleVariable}
use Rattle.sat_solver.specs.variables.Search.{KeepsSearchUpToUnits}
use Rattle.sat_solver.specs.unit_simplify.FreedIndices.{FreesIndex}
use Rattle.sat_solver.proofs.lemmas.unit_simplify.FreedLemmas.{gives_up_both, gives_up_named, on_ok_four}
use Rattle.sat_solver.proofs.unit_simplify.free_vars.remove_var.Goals as goal

pub returns-clause-gone : goal.returns-clause-gone
returns-clause-gone g c =
    let old = c.args.variables.now in
    let mid = c.remove_solver_var.new.variables in
    let new = c.delete_idle.new.variables in
    let from = g.S.StepLog.steps c.args.writer.now in
    let mids = g.S.StepLog.steps c.remove_solver_var.new.writer in
    let to = g.S.StepLog.steps c.delete_idle.new.writer in
    on_ok_four c.delete_idle.result (KeepsScriptState mid new mids to) (KeepsSearchUpToUnits mid new mids to) (DeletesIdleVariable mid mids to c.args.global) (new.global_from_user ≡ mid.global_from_user) (FreesIndex old new from to c.args.global)
    (gives_up_both old mid from mids c.args.global c.args.index c.requires.valid c.in_ok-remove_solver_var.ensures.gone new to) c.delete_idle.ensures.does c.delete_idle.ensures.alike c.delete_idle.ensures.goes c.delete_idle.ensures.users

pub returns-then-is_some-clause-gone : goal.returns-then-is_some-clause-gone
returns-then-is_some-clause-gone g c =
    gives_up_named c.args.variables.now c.remove_solver_var.new.variables (g.S.StepLog.steps c.args.writer.now) (g.S.StepLog.steps c.remove_solver_var.new.writer) c.args.global c.args.index c.requires.valid c.in_ok-remove_solver_var.ensures.gone
