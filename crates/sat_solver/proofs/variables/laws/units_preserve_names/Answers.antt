use Rattle.sat_solver.proofs.lemmas.variables.Units.{unit_stands, unit_agrees}
use Rattle.sat_solver.proofs.variables.laws.units_preserve_names.Goals as goal

pub returns : goal.returns
returns c = λ old new steps v x value valid has put. (unit_stands old new steps v x value valid has put, unit_agrees old new steps v x value valid has put)
