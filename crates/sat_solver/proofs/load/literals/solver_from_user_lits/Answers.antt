use Rattle.std.proofs.Common.{arith}
use Rattle.std.proofs.lemmas.Grind.{common_steps}
use Rattle.std.proofs.Common.{◌≡◌, ◌+◌, drop, get_or, sym, ◌∙◌, ap, subst, refl}
use Rattle.sat_base.specs.values.Literals.{variable, mk_lit, is_positive}
use Rattle.sat_solver.specs.variables.Calls.{IntroducesNameUnseen}
use Rattle.sat_solver.specs.variables.Variables.{global_of}
use Rattle.sat_solver.proofs.lemmas.variables.TakenNames.{one_taken, all_taken, any_default}
use Rattle.sat_solver.proofs.lemmas.variables.CameLemmas.{came_on, came_starved}
use Rattle.sat_solver.specs.variables.VariableRoom.{user_vars_in}
use Rattle.sat_solver.proofs.lemmas.variables.RoomLemmas.{room_same, room_at, fails_on}
use Rattle.sat_solver.proofs.load.literals.solver_from_user_lits.Goals as goal

pub loop-lit-preserved : goal.loop-lit-preserved
loop-lit-preserved g c =
    let user : c.var.result ≡ variable (get_or c.args.lits.now c.loop-lit.lit-index 0) = c.var.ensures ∙ ap variable (c.lit-item.is ∙ any_default c.args.lits.now c.loop-lit.lit-index c.lit-item.result 0 c.loop-lit-test.true) in
    let sign : c.is_positive.result ≡ is_positive (get_or c.args.lits.now c.loop-lit.lit-index 0) = c.is_positive.ensures ∙ ap is_positive (c.lit-item.is ∙ any_default c.args.lits.now c.loop-lit.lit-index c.lit-item.result 0 c.loop-lit-test.true) in
    record {
      globals = c.loop-lit.invariant.globals;
      keeps = c.in_ok-solver.ensures.keeps;
      room = λ h. room_same c.global_from_user.new.variables c.solver_from_global.new.variables (user_vars_in (drop (c.loop-lit.lit-index + 1) c.args.lits.now)) c.in_ok-solver.ensures.indexes.users c.in_ok-solver.ensures.indexes.kept
          (c.in_ok-global.ensures.brought.room (user_vars_in (drop (c.loop-lit.lit-index + 1) c.args.lits.now)) (room_at c.loop-lit.variables c.args.lits.now c.loop-lit.lit-index c.var.result c.loop-lit-test.true user (c.loop-lit.invariant.room h)));
      came = λ w t. c.in_ok-solver.ensures.emits w (c.in_ok-global.ensures.emits w (c.loop-lit.invariant.came w t));
      taking = one_taken c.args.variables.now c.loop-lit.variables c.global_from_user.new.variables c.solver_from_global.new.variables
          (g.W.StepLog.steps c.args.writer.now) (g.W.StepLog.steps c.loop-lit.writer) (g.W.StepLog.steps c.global_from_user.new.writer) (g.W.StepLog.steps c.solver_from_global.new.writer)
          c.args.lits.now c.loop-lit.taken.order.items c.push.new.self.items c.loop-lit.taken.given.items c.solver_from_global.new.given.items c.loop-lit.lit-index (get_or c.args.lits.now c.loop-lit.lit-index 0) c.in_ok-global.global c.in_ok-solver.solver c.lit.result
          c.loop-lit.invariant.taking c.loop-lit-test.true refl
          (subst (λ u. IntroducesNameUnseen c.loop-lit.variables c.global_from_user.new.variables (g.W.StepLog.steps c.loop-lit.writer) (g.W.StepLog.steps c.global_from_user.new.writer) u) user c.in_ok-global.ensures.brought)
          (ap (global_of c.global_from_user.new.variables) (sym user) ∙ c.in_ok-global.ensures.variable) c.in_ok-solver.ensures.indexes (c.lit.ensures ∙ ap (mk_lit c.in_ok-solver.solver) sign) c.in_ok-push.ensures.items;
    }

pub returns-clause-takes : goal.returns-clause-takes
returns-clause-takes g c = all_taken c.args.variables.now c.loop-lit.variables (g.W.StepLog.steps c.args.writer.now) (g.W.StepLog.steps c.loop-lit.writer) c.args.lits.now c.loop-lit.taken c.loop-lit.lit-index c.loop-lit-test.false c.loop-lit.auto.lit-index-end c.loop-lit.invariant.taking

pub returns-in_err-global-clause-emits : goal.returns-in_err-global-clause-emits
returns-in_err-global-clause-emits g c =
    came_on g.W.StepLog.took g.W.StepLog.broke c.from_residual.result c.in_err-global.field-0.0 c.args.writer.now c.global_from_user.new.writer c.from_residual.ensures.1 (λ w t. c.in_err-global.ensures.emits w (c.loop-lit.invariant.came w t))

pub returns-in_err-solver-clause-emits : goal.returns-in_err-solver-clause-emits
returns-in_err-solver-clause-emits g c =
    came_on g.W.StepLog.took g.W.StepLog.broke c.from_residual-in_err-solver.result c.in_err-solver.field-0.0 c.args.writer.now c.solver_from_global.new.writer c.from_residual-in_err-solver.ensures.1
    (λ w t. c.in_err-solver.ensures.emits w (c.in_ok-global.ensures.emits w (c.loop-lit.invariant.came w t)))

pub returns-in_err-push-clause-emits : goal.returns-in_err-push-clause-emits
returns-in_err-push-clause-emits g c = grind (arith, common_steps, came_starved)

pub returns-in_err-global-clause-room : goal.returns-in_err-global-clause-room
returns-in_err-global-clause-room g c = grind (arith, common_steps, any_default, room_at, fails_on)
