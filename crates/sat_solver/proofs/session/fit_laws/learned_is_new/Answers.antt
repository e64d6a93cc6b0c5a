use Rattle.sat_solver.proofs.lemmas.fits.LawLemmas.{learned_is_new}
use Rattle.sat_solver.proofs.session.fit_laws.learned_is_new.Goals as goal

pub returns : goal.returns
returns c = learned_is_new
