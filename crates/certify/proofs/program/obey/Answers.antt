use Rattle.certify.specs.program.Calls.{request_of}
use Rattle.certify.proofs.lemmas.program.Requests.{obeys_fault, obeys_opened, obeys_refused}
use Rattle.certify.proofs.program.obey.Goals as goal

pub returns-in-Ok-Some : goal.returns-in-Ok-Some
returns-in-Ok-Some g c =
    obeys_opened g.R.File.Read.remaining g.R.File.Write.contents _ (request_of c.in-Some.call) c.in-Ok-Some.opened c.carry_out.new.call _
    c.in-Some.ensures (rw c.in-Ok-Some.field-0-is at c.in-Ok-Some.ensures) c.carry_out.ensures

pub returns-in-Ok-None : goal.returns-in-Ok-None
returns-in-Ok-None g c =
    obeys_refused g.R.File.Read.remaining g.R.File.Write.contents _ c.report_misuse-in-Ok-None.result _ _ (request_of c.in-Some.call) c.in-Some.ensures (rw c.in-Ok-None.field-0-is at c.in-Ok-None.ensures) c.report_misuse-in-Ok-None.ensures

pub returns-in-Err : goal.returns-in-Err
returns-in-Err g c = obeys_fault g.R.File.Read.remaining g.R.File.Write.contents _ c.not_opened.result _ _ (request_of c.in-Some.call) c.in-Some.ensures c.in-Err.ensures c.not_opened.ensures
