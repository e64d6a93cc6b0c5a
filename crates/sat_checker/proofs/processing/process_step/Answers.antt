use Rattle.std.proofs.Common.{sym}
use Rattle.sat_checker.proofs.processing.process_step.Goals as goal

pub returns : goal.returns
returns g c = rw (sym c.new.ensures) c.step.ensures
