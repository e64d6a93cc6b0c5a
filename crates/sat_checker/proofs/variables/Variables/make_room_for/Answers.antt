use Rattle.std.proofs.Common.{◌∙◌, ap}
use Rattle.sat_base.specs.values.Literals.{variable}
use Rattle.sat_checker.proofs.lemmas.variables.Keeping.{lits_roomy}
use Rattle.sat_checker.proofs.variables.Variables.make_room_for.Goals as goal

pub loop-lit-preserved : goal.loop-lit-preserved
loop-lit-preserved c = record {
  room = lits_roomy c.loop-lit.self c.make_room.new.self c.args.literals.now c.loop-lit.lit-index c.var.result c.lit-item.result c.loop-lit-test.true (c.var.ensures ∙ ap variable c.lit-item.is) c.loop-lit.invariant.room c.make_room.ensures.others c.in_ok-make_room.ensures.room;
  same = λ v. c.make_room.ensures.same v ∙ c.loop-lit.invariant.same v;
  holders = λ name. c.make_room.ensures.holders name ∙ c.loop-lit.invariant.holders name;
}
