use Rattle.std.proofs.Common.{arith}
use Rattle.std.proofs.lemmas.Grind.{common_steps}
use Rattle.std.proofs.Common.{◌+◌, [], ◌∷◌, ◌++◌, map}
use Rattle.sat_base.specs.script.ScriptState.{without_name, introduce, new_names}
use Rattle.sat_checker.specs.matching.Expected.{NewName, NoName}
use Rattle.sat_solver.proofs.lemmas.variables.Doing.{does_both, ok_after}
use Rattle.sat_solver.proofs.lemmas.variables.Giving.{keeps_both, alike_unseen, alike_both, ok_alike, ok_others, ok_fresh, ok_units}
use Rattle.sat_solver.proofs.lemmas.variables.CameLemmas.{came_then}
use Rattle.sat_solver.proofs.lemmas.variables.Extending.{are_fresh, fresh_only}
use Rattle.sat_solver.proofs.lemmas.variables.ComingSteps.{comes_hidden, hidden_unmarked, leaves_none}
use Rattle.sat_solver.proofs.variables.modes.hide_var.Goals as goal

pub returns-clause-does : goal.returns-clause-does
returns-clause-does g c =
    ok_after c.delete_idle.result c.args.variables.now c.hide_global.new.variables c.delete_idle.new.variables (g.W.StepLog.steps c.args.writer.now) (g.W.StepLog.steps c.hide_global.new.writer) (g.W.StepLog.steps c.delete_idle.new.writer)
    (λ j. without_name (c.args.user + 1) (introduce (c.args.user + 1) j)) (λ j. map NewName (new_names (c.args.user + 1) j) ++ (NoName (c.args.user + 1) ∷ []))
    (does_both c.args.variables.now c.global_from_user.new.variables c.hide_global.new.variables (g.W.StepLog.steps c.args.writer.now) (g.W.StepLog.steps c.global_from_user.new.writer) (g.W.StepLog.steps c.hide_global.new.writer)
    (introduce (c.args.user + 1)) (without_name (c.args.user + 1)) (λ j. map NewName (new_names (c.args.user + 1) j)) (λ j. NoName (c.args.user + 1) ∷ []) c.in_ok-global.ensures.brought.brings c.in_ok-hide_global.ensures.does)
    c.delete_idle.ensures.does

pub returns-clause-alike : goal.returns-clause-alike
returns-clause-alike g c =
    ok_alike c.delete_idle.result c.args.variables.now c.hide_global.new.variables c.delete_idle.new.variables (g.W.StepLog.steps c.args.writer.now) (g.W.StepLog.steps c.hide_global.new.writer) (g.W.StepLog.steps c.delete_idle.new.writer)
    (alike_both c.args.variables.now c.global_from_user.new.variables c.hide_global.new.variables (g.W.StepLog.steps c.args.writer.now) (g.W.StepLog.steps c.global_from_user.new.writer) (g.W.StepLog.steps c.hide_global.new.writer)
    (alike_unseen c.args.variables.now c.global_from_user.new.variables (g.W.StepLog.steps c.args.writer.now) (g.W.StepLog.steps c.global_from_user.new.writer) c.in_ok-global.ensures.brought.unseen)
    (alike_unseen c.global_from_user.new.variables c.hide_global.new.variables (g.W.StepLog.steps c.global_from_user.new.writer) (g.W.StepLog.steps c.hide_global.new.writer) c.in_ok-hide_global.ensures.unseen))
    c.delete_idle.ensures.alike

pub returns-clause-emits : goal.returns-clause-emits
returns-clause-emits g c = came_then g.W.StepLog.took g.W.StepLog.broke c.delete_idle.result c.args.writer.now c.hide_global.new.writer c.delete_idle.new.writer (λ w t. c.in_ok-hide_global.ensures.emits w (c.in_ok-global.ensures.emits w t)) c.delete_idle.ensures.emits

pub returns-clause-others : goal.returns-clause-others
returns-clause-others g c =
    ok_others c.delete_idle.result c.args.variables.now c.hide_global.new.variables c.delete_idle.new.variables c.args.user
    (λ u v n e. c.in_ok-hide_global.ensures.others u v n (c.in_ok-global.ensures.brought.extends.stays u v e).0) c.delete_idle.ensures.users

pub returns-clause-fresh : goal.returns-clause-fresh
returns-clause-fresh g c =
    ok_fresh c.delete_idle.result c.args.variables.now c.hide_global.new.variables c.delete_idle.new.variables
    (fresh_only c.args.variables.now c.global_from_user.new.variables c.hide_global.new.variables (are_fresh c.args.variables.now c.global_from_user.new.variables c.in_ok-global.ensures.brought.extends) c.in_ok-hide_global.ensures.only) c.delete_idle.ensures.users

pub returns-clause-units : goal.returns-clause-units
returns-clause-units g c = grind (arith, common_steps, keeps_both, ok_units)

pub returns-clause-comes : goal.returns-clause-comes
returns-clause-comes g c = comes_hidden c.delete_idle.result c.hide_global.new.variables (g.W.StepLog.steps c.args.writer.now) (g.W.StepLog.steps c.global_from_user.new.writer) (g.W.StepLog.steps c.hide_global.new.writer) (g.W.StepLog.steps c.delete_idle.new.writer) c.in_ok-global.global
    c.in_ok-hide_global.ensures.does.valid.said c.in_ok-global.ensures.brought.comes c.in_ok-hide_global.ensures.step c.delete_idle.ensures.goes

pub returns-clause-gone : goal.returns-clause-gone
returns-clause-gone g c =
    let n = c.args.variables.now in
    let m = c.global_from_user.new.variables in
    let h = c.hide_global.new.variables in
    let from = g.W.StepLog.steps c.args.writer.now in
    let mids = g.W.StepLog.steps c.global_from_user.new.writer in
    let hides = g.W.StepLog.steps c.hide_global.new.writer in
    let said = c.in_ok-hide_global.ensures.does.valid.said in
    let hidden = c.in_ok-hide_global.ensures.step in
    leaves_none c.delete_idle.result h mids hides (g.W.StepLog.steps c.delete_idle.new.writer) c.in_ok-global.global said hidden
    (hidden_unmarked n m h from mids hides c.args.user c.in_ok-global.global c.requires.valid.tidy c.requires.valid.said c.in_ok-global.ensures.brought.extends c.in_ok-global.ensures.brought.unseen c.requires.free c.in_ok-global.ensures.variable said hidden)
    c.delete_idle.ensures.goes
