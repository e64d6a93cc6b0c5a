use Rattle.sat_solver.proofs.lemmas.facade.Agreeing.{faulty_seen}
use Rattle.sat_solver.proofs.facade.Solver.stop_at.Goals as goal

pub returns-clause-failed : goal.returns-clause-failed
returns-clause-failed g c = rw (← c.self.view_is) (faulty_seen g.W.CountedWrite.seen c.self.inside.judge.state c.self.inside.inner c.stop_at.new.self c.args.error c.stop_at.ensures.failed)
