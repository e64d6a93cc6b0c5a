use Rattle.sat_solver.proofs.proof.Proof.take_delayed.Goals as goal

pub returns-clause-width : goal.returns-clause-width
returns-clause-width g c = c.in_ok-take_delayed.ensures.width c.args.self.now.counting.bits
