use Rattle.certify.proofs.lemmas.run.CallFaults.{assume_caused, assume_fault, call_fails}
use Rattle.certify.proofs.lemmas.run.NoLines.{ready_still}
use Rattle.certify.proofs.run.solver.assume.Goals as goal

pub returns-in-Ok-clause-assumed : goal.returns-in-Ok-clause-assumed
returns-in-Ok-clause-assumed g c = record {
  replaced = c.in-Ok.ensures.assumes;
  steps = c.in-Ok.ensures.steps;
  took = c.in-Ok.ensures.text;
  ready = ready_still c.args.solver.now c.assume.new.self c.requires.ready c.in-Ok.ensures.text c.in-Ok.ensures.assumes.did.failed c.steps_record_answers.ensures.records;
}

pub fault_of-requires : goal.fault_of-requires
fault_of-requires g c = assume_fault c.args.solver.now c.assume.new.self c.args.literals.now c.requires.ready c.requires.allowed c.in-Err.error c.in-Err.ensures.assumes

pub returns-in-Err-clause-fails : goal.returns-in-Err-clause-fails
returns-in-Err-clause-fails g c = rw c.fault_of.ensures (call_fails c.args.solver.now c.assume.new.self c.in-Err.error c.in-Err.ensures.text)

pub returns-in-Err-clause-cause : goal.returns-in-Err-clause-cause
returns-in-Err-clause-cause g c =
    rw c.fault_of.ensures (assume_caused c.args.solver.now c.assume.new.self c.args.literals.now c.requires.ready c.requires.allowed c.in-Err.error c.in-Err.ensures.assumes c.in-Err.ensures.text c.in-Err.ensures.checker)
