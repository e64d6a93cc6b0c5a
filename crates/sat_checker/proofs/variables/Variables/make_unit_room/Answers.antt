use Rattle.std.proofs.Common.{◌∙◌}
use Rattle.sat_checker.proofs.lemmas.variables.Keeping.{units_roomy}
use Rattle.sat_checker.proofs.variables.Variables.make_unit_room.Goals as goal

pub loop-unit-preserved : goal.loop-unit-preserved
loop-unit-preserved c = record {
  room = units_roomy c.loop-unit.self c.make_room.new.self c.args.units.now c.loop-unit.unit-index c.var.result c.unit-item.result c.loop-unit-test.true c.unit-item.is c.var.ensures c.loop-unit.invariant.room c.make_room.ensures.others c.in_ok-make_room.ensures.room;
  same = λ v. c.make_room.ensures.same v ∙ c.loop-unit.invariant.same v;
  holders = λ name. c.make_room.ensures.holders name ∙ c.loop-unit.invariant.holders name;
}
