use Rattle.std.proofs.Common.{◌∙◌, ◌+◌, [], map}
use Rattle.sat_base.specs.script.ScriptState.{with_mode, introduce, new_names}
use Rattle.sat_solver.specs.variables.Variables.{script_mode}
use Rattle.sat_checker.specs.matching.Expected.{NewName}
use Rattle.sat_solver.proofs.lemmas.variables.Doing.{ok_both}
use Rattle.sat_solver.proofs.lemmas.variables.Giving.{ok_unseen, ok_others, ok_fresh}
use Rattle.sat_solver.proofs.lemmas.variables.CameLemmas.{came_then}
use Rattle.sat_solver.proofs.lemmas.variables.Extending.{are_fresh}
use Rattle.sat_solver.proofs.lemmas.variables.ComingSteps.{comes_set}
use Rattle.sat_solver.proofs.variables.modes.set_sampling_mode.Goals as goal

pub returns-clause-does : goal.returns-clause-does
returns-clause-does g c = ok_both c.set_global_mode.result c.args.variables.now c.global_from_user.new.variables c.set_global_mode.new.variables (g.W.StepLog.steps c.args.writer.now) (g.W.StepLog.steps c.global_from_user.new.writer) (g.W.StepLog.steps c.set_global_mode.new.writer)
    (introduce (c.args.user + 1)) (with_mode (script_mode c.args.sample) (c.args.user + 1)) (λ j. map NewName (new_names (c.args.user + 1) j)) (λ j. []) c.in_ok-global.ensures.brought.brings c.set_global_mode.ensures.does

pub returns-clause-unseen : goal.returns-clause-unseen
returns-clause-unseen g c = ok_unseen c.set_global_mode.result c.args.variables.now c.global_from_user.new.variables c.set_global_mode.new.variables (g.W.StepLog.steps c.args.writer.now) (g.W.StepLog.steps c.global_from_user.new.writer) (g.W.StepLog.steps c.set_global_mode.new.writer) c.in_ok-global.ensures.brought.unseen c.set_global_mode.ensures.unseen

pub returns-clause-emits : goal.returns-clause-emits
returns-clause-emits g c = came_then g.W.StepLog.took g.W.StepLog.broke c.set_global_mode.result c.args.writer.now c.global_from_user.new.writer c.set_global_mode.new.writer c.in_ok-global.ensures.emits c.set_global_mode.ensures.emits

pub returns-clause-others : goal.returns-clause-others
returns-clause-others g c =
    ok_others c.set_global_mode.result c.args.variables.now c.global_from_user.new.variables c.set_global_mode.new.variables c.args.user
    (λ u v n e. (c.in_ok-global.ensures.brought.extends.stays u v e).0) c.set_global_mode.ensures.users

pub returns-clause-fresh : goal.returns-clause-fresh
returns-clause-fresh g c =
    ok_fresh c.set_global_mode.result c.args.variables.now c.global_from_user.new.variables c.set_global_mode.new.variables (are_fresh c.args.variables.now c.global_from_user.new.variables c.in_ok-global.ensures.brought.extends) c.set_global_mode.ensures.users

pub returns-clause-comes : goal.returns-clause-comes
returns-clause-comes g c = comes_set c.set_global_mode.result (g.W.StepLog.steps c.args.writer.now) (g.W.StepLog.steps c.global_from_user.new.writer) (g.W.StepLog.steps c.set_global_mode.new.writer) (c.args.user + 1) c.in_ok-global.global c.args.sample
    c.in_ok-global.ensures.brought.comes (c.in_ok-global.ensures.brought.brings.valid.read c.args.user ∙ c.in_ok-global.ensures.variable) c.set_global_mode.ensures.sets
