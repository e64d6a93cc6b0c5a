use Rattle.std.proofs.lemmas.Grind.{common_steps}
use Rattle.std.proofs.Common.{arith}
use Rattle.sat_base.proofs.lemmas.steps.NumberBytes.{number_writes}
use Rattle.sat_base.proofs.device.output.Output.put_variable.Goals as goal

pub returns : goal.returns
returns g c = grind (arith, common_steps, number_writes)
