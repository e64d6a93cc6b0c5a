use Rattle.sat_solver.proofs.lemmas.facade.Seen.{model_fails_if, model_if}
use Rattle.sat_solver.proofs.facade.Solver.model.Goals as goal

pub returns-clause-model : goal.returns-clause-model
returns-clause-model g c = rw (← c.self.view_is) (model_if g.W.CountedWrite.seen c.self.inside.judge.state c.self.inside.judge.state c.model.result c.self.inside.inner c.self.invariant.matches c.model.ensures.model)

pub returns-clause-fails : goal.returns-clause-fails
returns-clause-fails g c = rw (← c.self.view_is) (model_fails_if g.W.CountedWrite.seen c.self.inside.judge.state c.self.inside.judge.state c.model.result c.self.inside.inner c.model.ensures.fails)
