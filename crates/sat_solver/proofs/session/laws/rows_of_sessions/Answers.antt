use Rattle.sat_solver.proofs.lemmas.session.RowLemmas.{colliding_may, hidden_may}
use Rattle.sat_solver.proofs.session.laws.rows_of_sessions.Goals as goal

pub returns : goal.returns
returns c = record { colliding = colliding_may; hidden = hidden_may }
