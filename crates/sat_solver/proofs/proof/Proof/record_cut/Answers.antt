use Rattle.sat_solver.proofs.lemmas.session.ProofLemmas.{gains_none}
use Rattle.sat_solver.proofs.proof.Proof.record_cut.Goals as goal

pub returns-then-is_err-clause-records : goal.returns-then-is_err-clause-records
returns-then-is_err-clause-records g c = gains_none g.W.CountedWrite.seen c.args.self.now

pub returns-then-is_err-2-clause-records : goal.returns-then-is_err-2-clause-records
returns-then-is_err-2-clause-records g c = gains_none g.W.CountedWrite.seen c.args.self.now

pub returns-then-is_err-3-clause-records : goal.returns-then-is_err-3-clause-records
returns-then-is_err-3-clause-records g c = gains_none g.W.CountedWrite.seen c.args.self.now

pub record-requires-clause-may : goal.record-requires-clause-may
record-requires-clause-may g c = rw c.in-AtClause.is at c.requires.may

pub record-requires-in-FailedAssumptions-clause-may : goal.record-requires-in-FailedAssumptions-clause-may
record-requires-in-FailedAssumptions-clause-may g c = rw c.in-FailedAssumptions.is at c.requires.may
