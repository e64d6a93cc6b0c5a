use Rattle.sat_checker.specs.CheckerView.{kernel_of}
use Rattle.certify.proofs.lemmas.confirm.Met.{begins_at}
use Rattle.certify.proofs.confirm.certificate.Certificate.new.Goals as goal

pub returns-clause-valid : goal.returns-clause-valid
returns-clause-valid c = begins_at (kernel_of c.new.result) c.new-2.result (record { valid = c.new.ensures.valid; goes_on = c.new.ensures.goes_on }) c.new-2.ensures
