use Rattle.sat_solver.proofs.lemmas.session.CheckedLemmas.{complaint_reported}
use Rattle.sat_solver.proofs.proof.emitted.EmittedSteps.take_complaint.Goals as goal

pub returns-clause-same : goal.returns-clause-same
returns-clause-same g c = complaint_reported c.args.self.now _ _ _ _ c.take.ensures.after
