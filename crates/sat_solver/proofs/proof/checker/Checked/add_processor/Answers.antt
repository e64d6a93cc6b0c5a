use Rattle.std.proofs.Common.{refl}
use Rattle.sat_solver.proofs.lemmas.session.CheckedLemmas.{taken_in}
use Rattle.sat_solver.proofs.proof.checker.Checked.add_processor.Goals as goal

pub returns : goal.returns
returns g c = taken_in g.P.ProofProcessor.takes c.add_processor.result c.args.self.now _ c.args.processor refl c.add_processor.ensures
