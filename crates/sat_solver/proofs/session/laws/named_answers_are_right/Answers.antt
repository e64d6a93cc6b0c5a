use Rattle.sat_solver.proofs.lemmas.session.NamedLemmas.{named_models_are_right, named_cores_are_right, named_unsat_is_right}
use Rattle.sat_solver.proofs.session.laws.named_answers_are_right.Goals as goal

pub returns : goal.returns
returns c = record { models = named_models_are_right; cores = named_cores_are_right; unsat = named_unsat_is_right }
