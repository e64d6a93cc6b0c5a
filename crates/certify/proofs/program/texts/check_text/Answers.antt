use Rattle.certify.proofs.lemmas.program.Failing.{reads_to_failure}
use Rattle.certify.proofs.program.texts.check_text.Goals as goal

pub returns-in_err-verdict-clause-calls : goal.returns-in_err-verdict-clause-calls
returns-in_err-verdict-clause-calls g c = reads_to_failure _ _ _ c.check.ensures.read c.check.ensures.kept c.check.ensures.reads

pub returns-clause-calls : goal.returns-clause-calls
returns-clause-calls g c = reads_to_failure _ _ _ c.check.ensures.read c.check.ensures.kept c.check.ensures.reads
