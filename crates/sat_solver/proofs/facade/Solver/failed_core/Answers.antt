use Rattle.sat_solver.proofs.lemmas.facade.Seen.{core_if}
use Rattle.sat_solver.proofs.facade.Solver.failed_core.Goals as goal

pub returns : goal.returns
returns g c = rw (← c.self.view_is) (core_if g.W.CountedWrite.seen c.self.inside.judge.state c.self.inside.judge.state c.failed_core.result (λ core. core.now) c.self.inside.inner c.self.invariant.matches c.failed_core.ensures)
