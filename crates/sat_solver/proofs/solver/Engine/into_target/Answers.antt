use Rattle.sat_solver.proofs.lemmas.solver.PrefixLemmas.{returns_accepted_prefix}
use Rattle.sat_solver.proofs.solver.Engine.into_target.Goals as goal

pub returns-clause-front : goal.returns-clause-front
returns-clause-front g c = returns_accepted_prefix g.W.CountedWrite.seen c.args.self c.take_target-target.result c.take_target-target.ensures.gives.gives
