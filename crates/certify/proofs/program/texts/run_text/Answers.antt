use Rattle.certify.specs.declared.fault.RunFault.TheVariants as fault
use Rattle.certify.proofs.lemmas.program.Failing.{run_to_failure}
use Rattle.certify.proofs.lemmas.program.Results.{unless_err}
use Rattle.certify.proofs.program.texts.run_text.Goals as goal

pub returns-in-Ok-clause-ran : goal.returns-in-Ok-clause-ran
returns-in-Ok-clause-ran g c = record {
  summary = c.in-Ok.summary;
  guaranteed = c.in-Ok.ensures.guaranteed;
  flushed = c.in-Ok.ensures.flushed;
  done = c.run_status.ensures.done;
  read = unless_err c.run.result c.in-Ok.summary fault.ScriptRead _ c.in-Ok.is c.run.ensures.kept_script;
}

pub returns-in-Ok-clause-calls : goal.returns-in-Ok-clause-calls
returns-in-Ok-clause-calls g c =
    let said = c.run.ensures in
    run_to_failure c.run.result _ _ _ _ _ _ said.script_read said.answers_write said.certificate_write said.kept_script said.kept_answers said.kept_certificate said.reads

pub returns-in-Err-clause-calls : goal.returns-in-Err-clause-calls
returns-in-Err-clause-calls g c =
    let said = c.run.ensures in
    run_to_failure c.run.result _ _ _ _ _ _ said.script_read said.answers_write said.certificate_write said.kept_script said.kept_answers said.kept_certificate said.reads
