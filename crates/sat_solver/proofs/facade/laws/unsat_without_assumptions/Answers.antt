use Rattle.sat_solver.proofs.lemmas.solver.RestingLemmas.{unsat_without}
use Rattle.sat_solver.proofs.facade.laws.unsat_without_assumptions.Goals as goal

pub returns : goal.returns
returns g c = rw (← c.solver.view_is) (λ going none unsat. unsat_without c.solver.inside.inner (c.solver.invariant.solver going) none unsat)
