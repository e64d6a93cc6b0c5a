use Rattle.sat_solver.proofs.lemmas.session.DratDerivations.{drat_is_right}
use Rattle.sat_solver.proofs.session.laws.lines_are_derived.Goals as goal

pub returns : goal.returns
returns c = drat_is_right
