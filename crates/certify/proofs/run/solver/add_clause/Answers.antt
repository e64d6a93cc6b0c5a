use Rattle.certify.proofs.lemmas.run.CallFaults.{call_fails, clause_caused, clause_fault}
use Rattle.certify.proofs.lemmas.run.NoLines.{ready_still}
use Rattle.certify.proofs.run.solver.add_clause.Goals as goal

pub returns-in-Ok-clause-added : goal.returns-in-Ok-clause-added
returns-in-Ok-clause-added g c = record {
  added = c.in-Ok.ensures.adds;
  steps = c.in-Ok.ensures.steps;
  took = c.in-Ok.ensures.text;
  ready = ready_still c.args.solver.now c.add_clause.new.self c.requires.ready c.in-Ok.ensures.text c.in-Ok.ensures.adds.did.failed c.steps_record_answers.ensures.records;
}

pub fault_of-requires : goal.fault_of-requires
fault_of-requires g c = clause_fault c.args.solver.now c.add_clause.new.self c.args.literals.now c.requires.ready c.requires.allowed c.in-Err.error c.in-Err.ensures.adds

pub returns-in-Err-clause-fails : goal.returns-in-Err-clause-fails
returns-in-Err-clause-fails g c = rw c.fault_of.ensures (call_fails c.args.solver.now c.add_clause.new.self c.in-Err.error c.in-Err.ensures.text)

pub returns-in-Err-clause-cause : goal.returns-in-Err-clause-cause
returns-in-Err-clause-cause g c =
    rw c.fault_of.ensures (clause_caused c.args.solver.now c.add_clause.new.self c.args.literals.now c.requires.ready c.requires.allowed c.in-Err.error c.in-Err.ensures.adds c.in-Err.ensures.text c.in-Err.ensures.checker)
