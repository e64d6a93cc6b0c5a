use Rattle.std.proofs.Common.{arith}
use Rattle.std.proofs.lemmas.Grind.{common_steps}
use Rattle.std.proofs.Common.{◌≡◌, ◌+◌, drop, get_or, sym, ◌∙◌, ap, subst, refl}
use Rattle.sat_base.specs.values.Literals.{variable}
use Rattle.sat_solver.specs.variables.Calls.{IntroducesNameUnseen}
use Rattle.sat_solver.specs.variables.Variables.{global_of}
use Rattle.sat_solver.proofs.lemmas.variables.TakenNames.{any_default}
use Rattle.sat_solver.proofs.lemmas.variables.LeftOut.{bring_goes, brought_out}
use Rattle.sat_solver.proofs.lemmas.variables.CameLemmas.{came_on}
use Rattle.sat_solver.specs.variables.VariableRoom.{user_vars_in}
use Rattle.sat_solver.proofs.lemmas.variables.RoomLemmas.{room_at, fails_on}
use Rattle.sat_solver.proofs.load.clause.leave_out_clause.Goals as goal

pub loop-lit-preserved : goal.loop-lit-preserved
loop-lit-preserved g c =
    let user : c.var.result ≡ variable (get_or c.args.lits.now c.loop-lit.lit-index 0) = c.var.ensures ∙ ap variable (c.lit-item.is ∙ any_default c.args.lits.now c.loop-lit.lit-index c.lit-item.result 0 c.loop-lit-test.true) in
    record {
      keeps = c.in_ok-global_from_user.ensures.keeps;
      room = λ h. c.in_ok-global_from_user.ensures.brought.room (user_vars_in (drop (c.loop-lit.lit-index + 1) c.args.lits.now)) (room_at c.loop-lit.variables c.args.lits.now c.loop-lit.lit-index c.var.result c.loop-lit-test.true user (c.loop-lit.invariant.room h));
      came = λ w t. c.in_ok-global_from_user.ensures.emits w (c.loop-lit.invariant.came w t);
      bringing = bring_goes c.args.variables.now c.loop-lit.variables c.global_from_user.new.variables (g.W.StepLog.steps c.args.writer.now) (g.W.StepLog.steps c.loop-lit.writer) (g.W.StepLog.steps c.global_from_user.new.writer) c.args.lits.now c.loop-lit.lit-index (get_or c.args.lits.now c.loop-lit.lit-index 0) c.in_ok-global_from_user.field-0
          c.loop-lit.invariant.bringing c.loop-lit-test.true refl
          (subst (λ u. IntroducesNameUnseen c.loop-lit.variables c.global_from_user.new.variables (g.W.StepLog.steps c.loop-lit.writer) (g.W.StepLog.steps c.global_from_user.new.writer) u) user c.in_ok-global_from_user.ensures.brought)
          (ap (global_of c.global_from_user.new.variables) (sym user) ∙ c.in_ok-global_from_user.ensures.variable);
    }

pub returns-clause-leaves : goal.returns-clause-leaves
returns-clause-leaves g c = brought_out c.args.variables.now c.loop-lit.variables (g.W.StepLog.steps c.args.writer.now) (g.W.StepLog.steps c.loop-lit.writer) c.args.lits.now c.loop-lit.lit-index c.loop-lit-test.false c.requires.unsat c.loop-lit.invariant.bringing

pub returns-in_err-global_from_user-clause-emits : goal.returns-in_err-global_from_user-clause-emits
returns-in_err-global_from_user-clause-emits g c =
    came_on g.W.StepLog.took g.W.StepLog.broke c.from_residual.result c.in_err-global_from_user.field-0.0 c.args.writer.now c.global_from_user.new.writer c.from_residual.ensures.1 (λ w t. c.in_err-global_from_user.ensures.emits w (c.loop-lit.invariant.came w t))

pub returns-in_err-global_from_user-clause-room : goal.returns-in_err-global_from_user-clause-room
returns-in_err-global_from_user-clause-room g c = grind (arith, common_steps, any_default, room_at, fails_on)
