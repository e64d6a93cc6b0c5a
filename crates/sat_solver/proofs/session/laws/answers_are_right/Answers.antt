use Rattle.sat_solver.proofs.lemmas.session.PromiseLemmas.{cores_are_right, unsat_is_right, models_are_right}
use Rattle.sat_solver.proofs.session.laws.answers_are_right.Goals as goal

pub returns : goal.returns
returns c = record { cores = cores_are_right; unsat = unsat_is_right; models = models_are_right }
