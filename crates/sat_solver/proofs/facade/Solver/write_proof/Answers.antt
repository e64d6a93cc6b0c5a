use Rattle.std.proofs.Common.{refl}
use Rattle.sat_solver.proofs.lemmas.facade.Agreeing.{opened_matches}
use Rattle.sat_solver.proofs.lemmas.facade.SeenProof.{opened}
use Rattle.sat_solver.proofs.facade.Solver.write_proof.Goals as goal

pub returns : goal.returns
returns g c = rw (← c.self.view_is) (opened g.W.CountedWrite.seen c.self.inside.judge.state c.self.inside.judge.state c.write_proof.result c.args.format c.args.target c.self.inside.inner c.write_proof.new.self refl c.write_proof.ensures.opens)

pub invariant_of-self : goal.invariant_of-self
invariant_of-self g c = record { solver = c.write_proof.ensures.solver; matches = opened_matches g.W.CountedWrite.seen c.self.inside.judge.state c.self.inside.judge.state c.self.inside.inner c.write_proof.new.self c.self.invariant.matches c.write_proof.result c.args.format c.args.target c.write_proof.ensures.opens refl }
