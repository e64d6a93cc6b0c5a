use Rattle.std.proofs.Common.{refl}
use Rattle.sat_solver.proofs.lemmas.facade.Agreeing.{config_matches}
use Rattle.sat_solver.proofs.lemmas.facade.SeenProof.{configured}
use Rattle.sat_solver.proofs.facade.Solver.config.Goals as goal

pub returns : goal.returns
returns g c = rw (← c.self.view_is) (configured g.W.CountedWrite.seen c.self.inside.judge.state c.self.inside.judge.state c.config.result c.args.update.now c.self.inside.inner c.config.new.self refl c.config.ensures.configures)

pub invariant_of-self : goal.invariant_of-self
invariant_of-self g c = record { solver = c.config.ensures.solver; matches = config_matches g.W.CountedWrite.seen c.self.inside.judge.state c.self.inside.judge.state c.self.inside.inner c.config.new.self c.self.invariant.matches c.config.result c.args.update.now c.config.ensures.configures refl }
