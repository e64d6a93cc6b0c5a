use Rattle.std.proofs.lemmas.Grind.{common_steps}
use Rattle.std.proofs.Common.{◌≡◌, ◌<◌, subst, arith}
use Rattle.sat_solver.specs.variables.Calls.{IntroducesOne}
use Rattle.sat_solver.proofs.lemmas.variables.NamingSteps.{Coming, one_came, last_came, last_room, room_left, on_one}
use Rattle.sat_solver.proofs.lemmas.variables.CameLemmas.{came_then}
use Rattle.sat_solver.specs.variables.VariableRoom.{LeavesRoom}
use Rattle.sat_solver.proofs.lemmas.variables.RoomLemmas.{fails_on, limit_fails, if_limit_fails}
use Rattle.sat_solver.proofs.variables.user_vars.introduce_up_to.Goals as goal

pub loop-index-preserved : goal.loop-index-preserved
loop-index-preserved g c = (
  one_came c.args.variables.now c.loop-index.variables c.new_name.new.variables (g.W.StepLog.steps c.args.writer.now) (g.W.StepLog.steps c.loop-index.writer) (g.W.StepLog.steps c.new_name.new.writer) c.args.user c.in_ok-new_name.field-0 c.loop-index.index
      c.loop-index.invariant.0 (subst (λ e. c.loop-index.index < e) c.index-index-end.ensures.value c.loop-index-test.true)
      (subst (λ i. IntroducesOne c.loop-index.variables c.new_name.new.variables (g.W.StepLog.steps c.loop-index.writer) (g.W.StepLog.steps c.new_name.new.writer) i c.in_ok-new_name.field-0) c.from_index.ensures c.in_ok-new_name.ensures.names),
  c.in_ok-new_name.ensures.keeps,
  λ w t. c.in_ok-new_name.ensures.emits w (c.loop-index.invariant.2 w t),
)

pub returns-clause-names : goal.returns-clause-names
returns-clause-names g c = grind (arith, common_steps, last_came, on_one)

pub returns-clause-emits : goal.returns-clause-emits
returns-clause-emits g c = came_then g.W.StepLog.took g.W.StepLog.broke c.new_name-2.result c.args.writer.now c.loop-index.writer c.new_name-2.new.writer c.loop-index.invariant.2 c.new_name-2.ensures.emits

pub returns-clause-leaves : goal.returns-clause-leaves
returns-clause-leaves g c =
    let at : c.loop-index.index ≡ c.args.user = (let a = c.loop-index-test.false in let b = c.loop-index.invariant.0.low in let e = c.index-index-end.ensures.value in omega arith) in
    let came : Coming c.args.variables.now c.loop-index.variables (g.W.StepLog.steps c.args.writer.now) (g.W.StepLog.steps c.loop-index.writer) c.args.user c.args.user = subst (Coming c.args.variables.now c.loop-index.variables (g.W.StepLog.steps c.args.writer.now) (g.W.StepLog.steps c.loop-index.writer) c.args.user) at c.loop-index.invariant.0 in
    on_one c.new_name-2.result (λ v. IntroducesOne c.loop-index.variables c.new_name-2.new.variables (g.W.StepLog.steps c.loop-index.writer) (g.W.StepLog.steps c.new_name-2.new.writer) c.args.user v)
    (LeavesRoom c.args.variables.now c.new_name-2.new.variables c.args.user)
    c.new_name-2.ensures.names (λ v one. last_room c.args.variables.now c.loop-index.variables c.new_name-2.new.variables (g.W.StepLog.steps c.args.writer.now) (g.W.StepLog.steps c.loop-index.writer) (g.W.StepLog.steps c.new_name-2.new.writer) c.args.user v came one)

pub returns-in_err-new_name-clause-room : goal.returns-in_err-new_name-clause-room
returns-in_err-new_name-clause-room g c = λ us h.
    let lt = room_left c.args.variables.now c.loop-index.variables (g.W.StepLog.steps c.args.writer.now) (g.W.StepLog.steps c.loop-index.writer) c.args.user c.loop-index.index us c.loop-index.invariant.0 h in
    fails_on c.from_residual.result c.in_err-new_name.field-0.0 c.from_residual.ensures.1
    (limit_fails c.in_err-new_name.field-0.0 c.loop-index.variables c.new_name.new.variables c.loop-index.writer c.new_name.new.writer c.loop-index.invariant.0.valid.tidy lt c.in_err-new_name.ensures.limit)

pub returns-clause-room : goal.returns-clause-room
returns-clause-room g c = λ us h.
    let lt = room_left c.args.variables.now c.loop-index.variables (g.W.StepLog.steps c.args.writer.now) (g.W.StepLog.steps c.loop-index.writer) c.args.user c.loop-index.index us c.loop-index.invariant.0 h in
    if_limit_fails c.new_name-2.result c.loop-index.variables c.new_name-2.new.variables c.loop-index.writer c.new_name-2.new.writer c.loop-index.invariant.0.valid.tidy lt c.new_name-2.ensures.limit
