use Rattle.sat_solver.proofs.lemmas.trail.UnitLemmas.{trail_units_may}
use Rattle.sat_solver.proofs.session.trail_laws.trail_units_are_allowed.Goals as goal

pub returns : goal.returns
returns c = trail_units_may
