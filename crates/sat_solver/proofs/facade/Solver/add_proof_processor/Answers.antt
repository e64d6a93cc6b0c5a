use Rattle.std.proofs.Common.{refl}
use Rattle.sat_solver.proofs.lemmas.facade.Agreeing.{listened_matches}
use Rattle.sat_solver.proofs.lemmas.facade.SeenProof.{listened}
use Rattle.sat_solver.proofs.facade.Solver.add_proof_processor.Goals as goal

pub returns : goal.returns
returns g c = rw (← c.self.view_is) (listened g.W.CountedWrite.seen c.self.inside.judge.state c.self.inside.judge.state c.add_proof_processor.result c.args.processor c.self.inside.inner c.add_proof_processor.new.self c.self.invariant.solver refl c.add_proof_processor.ensures.adds)

pub invariant_of-self : goal.invariant_of-self
invariant_of-self g c = record { solver = c.add_proof_processor.ensures.solver; matches = listened_matches g.W.CountedWrite.seen c.self.inside.judge.state c.self.inside.judge.state c.self.inside.inner c.add_proof_processor.new.self c.self.invariant.matches c.add_proof_processor.result c.args.processor c.add_proof_processor.ensures.adds refl }
