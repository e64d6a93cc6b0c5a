use Rattle.std.proofs.Common.{arith}
use Rattle.std.proofs.lemmas.Grind.{common_steps}
use Rattle.sat_base.proofs.lemmas.steps.NumberBytes.{writes_last}
use Rattle.sat_base.proofs.device.output.Output.write_step.Goals as goal

pub returns-clause-writes : goal.returns-clause-writes
returns-clause-writes g c = grind (arith, common_steps, writes_last)
