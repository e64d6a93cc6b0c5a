use Rattle.sat_solver.proofs.lemmas.fits.LawLemmas.{model_may}
use Rattle.sat_solver.proofs.session.fit_laws.model_is_allowed.Goals as goal

pub returns : goal.returns
returns c = model_may
