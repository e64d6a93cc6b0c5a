use Rattle.std.proofs.Common.{refl}
use Rattle.sat_solver.proofs.lemmas.facade.Agreeing.{enabled_matches}
use Rattle.sat_solver.proofs.lemmas.facade.SeenProof.{enabled}
use Rattle.sat_solver.proofs.facade.Solver.enable_self_checking.Goals as goal

pub returns : goal.returns
returns g c = rw (← c.self.view_is) (enabled g.W.CountedWrite.seen c.self.inside.judge.state c.self.inside.judge.state c.enable_self_checking.result c.self.inside.inner c.enable_self_checking.new.self c.self.invariant.solver refl c.enable_self_checking.ensures.enables)

pub invariant_of-self : goal.invariant_of-self
invariant_of-self g c = record { solver = c.enable_self_checking.ensures.solver; matches = enabled_matches g.W.CountedWrite.seen c.self.inside.judge.state c.self.inside.judge.state c.self.inside.inner c.enable_self_checking.new.self c.self.invariant.matches c.enable_self_checking.result c.enable_self_checking.ensures.enables refl }
