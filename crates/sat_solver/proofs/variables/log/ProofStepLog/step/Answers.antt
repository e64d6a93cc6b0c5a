use Rattle.sat_solver.proofs.lemmas.variables.CameLemmas.{took_step, broke_step, check_step, took_none}
use Rattle.sat_solver.proofs.variables.log.ProofStepLog.step.Goals as goal

pub returns-in-Ok-clause-emits : goal.returns-in-Ok-clause-emits
returns-in-Ok-clause-emits g c = λ w t. took_step g.W.CountedWrite.seen w c.args.self.now c.add_step.new.self _ t c.in-Ok.ensures.records

pub returns-in-Err-Write-clause-emits : goal.returns-in-Err-Write-clause-emits
returns-in-Err-Write-clause-emits g c = λ w t. broke_step g.W.CountedWrite.seen w c.args.self.now c.add_step.new.self _ t (rw c.in-Err-Write.field-0-is at c.in-Err-Write.ensures.records)

pub returns-in-Err-OutOfMemory-clause-emits : goal.returns-in-Err-OutOfMemory-clause-emits
returns-in-Err-OutOfMemory-clause-emits g c = λ w t. took_none g.W.CountedWrite.seen w c.args.self.now c.add_step.new.self t (rw c.in-Err-OutOfMemory.field-0-is at c.in-Err-OutOfMemory.ensures.records)

pub returns-in-Err-Check-clause-emits : goal.returns-in-Err-Check-clause-emits
returns-in-Err-Check-clause-emits g c = λ w t. check_step g.W.CountedWrite.seen w c.args.self.now c.add_step.new.self _ t (rw c.in-Err-Check.field-0-is at c.in-Err-Check.ensures.records)
