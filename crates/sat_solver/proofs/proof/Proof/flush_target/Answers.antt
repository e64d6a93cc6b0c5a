use Rattle.std.proofs.Common.{refl}
use Rattle.sat_solver.proofs.lemmas.session.PuttingLemmas.{fails_flush}
use Rattle.sat_solver.proofs.proof.Proof.flush_target.Goals as goal

pub returns-in-Err-clause-flushes : goal.returns-in-Err-clause-flushes
returns-in-Err-clause-flushes g c = rw (c.break_off.ensures.fault, c.break_off.ensures.breaks) (fails_flush g.W.CountedWrite.seen c.args.self.now c.in-Some.output c.flush.new.self c.in-Some.is c.if-self.false c.in-Err.cause c.in-Err.ensures.flushes.breaks, refl)
