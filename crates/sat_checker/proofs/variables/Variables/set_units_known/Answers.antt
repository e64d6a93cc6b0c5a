use Rattle.sat_checker.proofs.lemmas.variables.Keeping.{unit_roomy}
use Rattle.sat_checker.proofs.variables.Variables.set_units_known.Goals as goal

pub set_known-requires : goal.set_known-requires
set_known-requires c = unit_roomy c.loop-unit.self c.args.units.now c.loop-unit.unit-index c.var.result c.unit-item.result c.loop-unit-test.true c.unit-item.is c.var.ensures c.loop-unit.invariant.room
