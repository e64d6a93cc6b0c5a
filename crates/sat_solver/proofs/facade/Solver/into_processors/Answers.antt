use Rattle.sat_solver.proofs.lemmas.facade.SeenProof.{returns_front}
use Rattle.sat_solver.proofs.facade.Solver.into_processors.Goals as goal

pub returns-clause-target : goal.returns-clause-target
returns-clause-target g c = rw (← c.solver.view_is) c.into_processors.ensures.target

pub returns-clause-front : goal.returns-clause-front
returns-clause-front g c = rw (← c.solver.view_is) (returns_front g.W.CountedWrite.seen c.solver.inside.judge.state c.solver.inside.judge.state c.solver.inside.inner c.into_processors.result.target c.into_processors.ensures.target)

pub returns-clause-processors : goal.returns-clause-processors
returns-clause-processors g c = rw (← c.solver.view_is) c.into_processors.ensures.processors

pub returns-clause-whole : goal.returns-clause-whole
returns-clause-whole g c = rw (← c.solver.view_is) c.into_processors.ensures.whole
