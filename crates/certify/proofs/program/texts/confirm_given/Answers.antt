use Rattle.certify.proofs.lemmas.program.Failing.{confirm_to_failure}
use Rattle.certify.proofs.program.texts.confirm_given.Goals as goal

pub returns-in_err-verdict-clause-calls : goal.returns-in_err-verdict-clause-calls
returns-in_err-verdict-clause-calls g c =
    let said = c.confirm.ensures in
    confirm_to_failure c.confirm.result _ _ _ _ _ _ said.script_read said.answers_read said.certificate_read said.kept_script said.kept_answers said.kept_certificate said.script_reads said.answers_reads said.certificate_reads

pub returns-clause-calls : goal.returns-clause-calls
returns-clause-calls g c =
    let said = c.confirm.ensures in
    confirm_to_failure c.confirm.result _ _ _ _ _ _ said.script_read said.answers_read said.certificate_read said.kept_script said.kept_answers said.kept_certificate said.script_reads said.answers_reads said.certificate_reads
