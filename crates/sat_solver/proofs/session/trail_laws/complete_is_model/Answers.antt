use Rattle.sat_solver.proofs.lemmas.trail.AnswerLemmas.{complete_is_model}
use Rattle.sat_solver.proofs.session.trail_laws.complete_is_model.Goals as goal

pub returns : goal.returns
returns c = complete_is_model
