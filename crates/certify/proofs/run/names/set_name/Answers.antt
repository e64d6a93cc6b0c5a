use Rattle.std.proofs.Common.{◌+◌, [], ◌∷◌}
use Rattle.sat_base.specs.script.ScriptState.{state_after_accepted}
use Rattle.certify.specs.run.NonAskCommands.{command_for_state}
use Rattle.certify.proofs.lemmas.run.CallFaults.{call_fails, name_caused, name_fault}
use Rattle.certify.proofs.lemmas.run.NoLines.{ready_still}
use Rattle.certify.proofs.lemmas.run.Obeys.{name_obeyed}
use Rattle.certify.proofs.run.names.set_name.Goals as goal

pub returns-in-Ok-clause-obeyed : goal.returns-in-Ok-clause-obeyed
returns-in-Ok-clause-obeyed g c =
    let old = c.args.solver.now in
    let new = c.change_name.new.solver in
    let named = c.in-Ok.ensures.changes.1 in
    let took = c.in-Ok.ensures.text in
    name_obeyed c.args.state (c.args.user + 1) old new (ready_still old new c.requires.ready took named.did.failed c.steps_record_answers.ensures.records) took named c.in-Ok.ensures.steps

pub fault_of-requires : goal.fault_of-requires
fault_of-requires g c =
    let names = (c.args.user + 1) ∷ [] in
    name_fault c.args.solver.now c.change_name.new.solver c.args.user (state_after_accepted (command_for_state c.args.state names)) c.requires.ready c.requires.free c.in-Err.error c.in-Err.ensures.changes

pub returns-in-Err-clause-fails : goal.returns-in-Err-clause-fails
returns-in-Err-clause-fails g c = rw c.fault_of.ensures (call_fails c.args.solver.now c.change_name.new.solver c.in-Err.error c.in-Err.ensures.text)

pub returns-in-Err-clause-cause : goal.returns-in-Err-clause-cause
returns-in-Err-clause-cause g c =
    let names = (c.args.user + 1) ∷ [] in
    rw c.fault_of.ensures (name_caused c.args.solver.now c.change_name.new.solver c.args.user (state_after_accepted (command_for_state c.args.state names)) c.requires.ready c.requires.free c.in-Err.error c.in-Err.ensures.changes c.in-Err.ensures.text c.in-Err.ensures.checker)
