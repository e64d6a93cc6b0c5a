use Rattle.sat_solver.proofs.lemmas.facade.SeenProof.{returns_front}
use Rattle.sat_solver.proofs.facade.Solver.into_target.Goals as goal

pub returns-clause-gives : goal.returns-clause-gives
returns-clause-gives g c = rw (← c.solver.view_is) c.into_target.ensures.gives

pub returns-clause-front : goal.returns-clause-front
returns-clause-front g c = rw (← c.solver.view_is) (returns_front g.W.CountedWrite.seen c.solver.inside.judge.state c.solver.inside.judge.state c.solver.inside.inner c.into_target.result c.into_target.ensures.gives)
