use Rattle.std.proofs.Common.{◌<◌, ◌≡◌, ◌∙◌, None, length, sym, ap, arith}
use Rattle.sat_store.specs.variables.Maps.{target}
use Rattle.sat_solver.specs.variables.Variables.{global_of, names_used}
use Rattle.sat_solver.proofs.lemmas.variables.RoomLemmas.{room_less, if_limit_fails}
use Rattle.sat_solver.proofs.lemmas.variables.BroughtIn.{ok_again, brought_none}
use Rattle.sat_solver.proofs.variables.user_vars.global_from_user.Goals as goal

pub returns-then-variables-clause-brought : goal.returns-then-variables-clause-brought
returns-then-variables-clause-brought g c =
    let below : c.args.user < names_used c.args.variables.now = (let a = c.if-index-watermark.false in let i = c.index.ensures.value in let w = c.watermark.ensures in let f = ap length c.fwd.ensures.map in omega arith) in
    brought_none c.args.variables.now (g.W.StepLog.steps c.args.writer.now) c.args.user c.args.user c.requires.valid below (c.requires.valid.tidy.own c.if-variables.true c.args.user below)

pub returns-clause-brought : goal.returns-clause-brought
returns-clause-brought g c =
    let below : c.args.user < names_used c.args.variables.now = (let a = c.if-index-watermark.false in let i = c.index.ensures.value in let w = c.watermark.ensures in let f = ap length c.fwd.ensures.map in omega arith) in
    let free : global_of c.args.variables.now c.args.user ≡ None = sym (c.get.ensures ∙ ap (λ m. target m c.args.user) c.fwd-2.ensures.map) ∙ c.in_default.is in
    ok_again c.new_name.result c.args.variables.now c.new_name.new.variables (g.W.StepLog.steps c.args.writer.now) (g.W.StepLog.steps c.new_name.new.writer) c.args.user below free c.new_name.ensures.names

pub returns-in-Some-clause-brought : goal.returns-in-Some-clause-brought
returns-in-Some-clause-brought g c =
    let below : c.args.user < names_used c.args.variables.now = (let a = c.if-index-watermark.false in let i = c.index.ensures.value in let w = c.watermark.ensures in let f = ap length c.fwd.ensures.map in omega arith) in
    brought_none c.args.variables.now (g.W.StepLog.steps c.args.writer.now) c.args.user c.in-Some.global c.requires.valid below (sym (c.in-Some.ensures ∙ ap (λ m. target m c.args.user) c.fwd-2.ensures.map))

pub returns-clause-room : goal.returns-clause-room
returns-clause-room g c = λ us h.
    let free : global_of c.args.variables.now c.args.user ≡ None = sym (c.get.ensures ∙ ap (λ m. target m c.args.user) c.fwd-2.ensures.map) ∙ c.in_default.is in
    if_limit_fails c.new_name.result c.args.variables.now c.new_name.new.variables c.args.writer.now c.new_name.new.writer c.requires.valid.tidy (room_less c.args.variables.now c.args.user us free h) c.new_name.ensures.limit
