use Rattle.sat_solver.proofs.lemmas.facade.Recorded.{records_answer}
use Rattle.sat_solver.proofs.facade.laws.steps_record_answers.Goals as goal

pub returns-clause-allowed : goal.returns-clause-allowed
returns-clause-allowed g c = rw (← c.solver.view_is) c.solver.inside.inner.context.proof.made.may

pub returns-clause-records : goal.returns-clause-records
returns-clause-records g c = rw (← c.solver.view_is) (λ going. records_answer g.W.CountedWrite.seen c.solver.inside.judge.state c.solver.inside.inner (c.solver.invariant.solver going) (c.solver.invariant.matches going))
