use Rattle.sat_solver.proofs.lemmas.fits.AdvanceLemmas.{learned_advances_in}
use Rattle.sat_solver.proofs.session.fit_laws.learned_is_empowering_in.Goals as goal

pub returns : goal.returns
returns c = learned_advances_in
