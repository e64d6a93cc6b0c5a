use Rattle.sat_solver.proofs.lemmas.facade.SeenProof.{progressed}
use Rattle.sat_solver.proofs.facade.Solver.progress.Goals as goal

pub returns-clause-vars : goal.returns-clause-vars
returns-clause-vars g c = rw (← c.self.view_is) (λ going. c.progress.ensures.vars c.self.invariant.solver going)

pub returns-clause-clauses : goal.returns-clause-clauses
returns-clause-clauses g c = rw (← c.self.view_is) (progressed g.W.CountedWrite.seen c.self.inside.judge.state c.self.inside.judge.state c.self.inside.inner c.self.invariant.solver c.progress.result c.progress.ensures.conflicts c.progress.ensures.restarts c.progress.ensures.vars c.progress.ensures.clauses)
