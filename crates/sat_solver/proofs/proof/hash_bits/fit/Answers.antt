use Rattle.std.proofs.Common.{◌≡◌, ◌∙◌, ◌&&◌, not, true, sym, subst}
use Rattle.sat_solver.specs.proof.Counting.{too_short, too_long}
use Rattle.sat_solver.proofs.lemmas.session.CountingLemmas.{fits_stays}
use Rattle.sat_solver.proofs.proof.hash_bits.fit.Goals as goal

pub returns-then-fits : goal.returns-then-fits
returns-then-fits c = fits_stays c.args.solving c.args.clauses c.args.from (subst (λ b. (not (too_short c.args.clauses b) && not (c.args.solving && too_long c.args.clauses b)) ≡ true) c.get.ensures.value (sym c.fits.ensures ∙ c.if-fits.true))
