use Rattle.std.proofs.Common.{refl}
use Rattle.sat_solver.proofs.lemmas.session.CheckedLemmas.{delayed_fed}
use Rattle.sat_solver.proofs.proof.checker.Checked.take_delayed.Goals as goal

pub returns-clause-takes : goal.returns-clause-takes
returns-clause-takes g c = delayed_fed g.P.ProofProcessor.takes c.self_check_delayed_steps.result c.args.self.now _ refl c.self_check_delayed_steps.ensures.notifies
