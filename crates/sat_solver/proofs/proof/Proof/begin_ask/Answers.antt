use Rattle.sat_solver.proofs.lemmas.session.PuttingLemmas.{adds_begun}
use Rattle.sat_solver.proofs.proof.Proof.begin_ask.Goals as goal

pub returns-clause-adds : goal.returns-clause-adds
returns-clause-adds g c = adds_begun g.W.CountedWrite.seen c.args.self.now
