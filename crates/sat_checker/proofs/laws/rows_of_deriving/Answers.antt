use Rattle.sat_checker.proofs.lemmas.rows.Accepted.{refuted_twice, refuted_at_zero, named_once, twice, collide, solver_names}
use Rattle.sat_checker.proofs.laws.rows_of_deriving.Goals as goal

pub returns : goal.returns
returns c = record { refuted = refuted_twice; at_zero = refuted_at_zero; once = named_once; twice = twice; colliding = collide; solver_names = solver_names }
