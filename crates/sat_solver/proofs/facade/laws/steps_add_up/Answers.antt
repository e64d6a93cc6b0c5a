use Rattle.sat_solver.proofs.lemmas.facade.Steps.{reaches_more}
use Rattle.sat_solver.proofs.facade.laws.steps_add_up.Goals as goal

pub returns : goal.returns
returns g c = reaches_more
