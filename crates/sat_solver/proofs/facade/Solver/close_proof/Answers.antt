use Rattle.std.proofs.Common.{refl}
use Rattle.sat_solver.proofs.lemmas.facade.Agreeing.{closed_matches}
use Rattle.sat_solver.proofs.lemmas.facade.SeenChecker.{closing_checked}
use Rattle.sat_solver.proofs.lemmas.facade.SeenProof.{certified, closed, closed_text, drat_refuted, last_made}
use Rattle.sat_solver.proofs.facade.Solver.close_proof.Goals as goal

pub returns-clause-closes : goal.returns-clause-closes
returns-clause-closes g c = rw (← c.self.view_is) (closed g.W.CountedWrite.seen c.self.inside.judge.state c.self.inside.judge.state c.close_proof.result c.self.inside.inner c.close_proof.new.self refl c.close_proof.ensures.closes)

pub returns-clause-steps : goal.returns-clause-steps
returns-clause-steps g c = rw (← c.self.view_is) (last_made g.W.CountedWrite.seen c.self.inside.judge.state c.self.inside.judge.state c.close_proof.result c.self.inside.inner c.close_proof.new.self c.self.invariant.matches c.close_proof.ensures.closes)

pub returns-clause-certificate : goal.returns-clause-certificate
returns-clause-certificate g c = rw (← c.self.view_is) (certified g.W.CountedWrite.seen c.self.inside.judge.state c.self.inside.judge.state c.close_proof.result c.self.inside.inner c.close_proof.new.self c.close_proof.ensures.closes)

pub returns-clause-drat : goal.returns-clause-drat
returns-clause-drat g c = rw (← c.self.view_is) (drat_refuted g.W.CountedWrite.seen c.self.inside.judge.state c.self.inside.judge.state c.close_proof.result c.self.inside.inner c.close_proof.new.self c.close_proof.ensures.closes)

pub returns-clause-text : goal.returns-clause-text
returns-clause-text g c = rw (← c.self.view_is) (closed_text g.W.CountedWrite.seen c.self.inside.judge.state c.self.inside.judge.state c.close_proof.result c.self.inside.inner c.close_proof.new.self c.close_proof.ensures.closes)

pub returns-clause-checker : goal.returns-clause-checker
returns-clause-checker g c = rw (← c.self.view_is) (closing_checked g.W.CountedWrite.seen c.self.inside.judge.state c.self.inside.judge.state c.close_proof.result c.self.inside.inner c.close_proof.new.self c.close_proof.ensures.closes)

pub invariant_of-self : goal.invariant_of-self
invariant_of-self g c = record { solver = c.close_proof.ensures.solver; matches = closed_matches g.W.CountedWrite.seen c.self.inside.judge.state c.self.inside.judge.state c.self.inside.inner c.close_proof.new.self c.self.invariant.matches c.close_proof.result c.close_proof.ensures.closes refl }
