use Rattle.sat_solver.proofs.lemmas.fits.MayLemmas.{learned_may}
use Rattle.sat_solver.proofs.session.fit_laws.learned_is_allowed.Goals as goal

pub returns : goal.returns
returns c = learned_may
