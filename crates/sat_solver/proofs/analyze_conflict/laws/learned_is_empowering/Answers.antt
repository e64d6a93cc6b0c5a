use Rattle.sat_solver.proofs.lemmas.analyze_conflict.Advancing.{learned_advances}
use Rattle.sat_solver.proofs.analyze_conflict.laws.learned_is_empowering.Goals as goal

pub returns : goal.returns
returns c = learned_advances
