use Rattle.sat_solver.proofs.lemmas.session.StepLemmas.{may_is_accepted, sessions_are_accepted}
use Rattle.sat_solver.proofs.session.laws.sessions_are_accepted.Goals as goal

pub returns : goal.returns
returns c = record { step = may_is_accepted; steps = sessions_are_accepted }
