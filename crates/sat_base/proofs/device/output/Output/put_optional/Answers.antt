use Rattle.std.proofs.Common.{arith}
use Rattle.std.proofs.lemmas.Grind.{common_steps}
use Rattle.sat_base.proofs.lemmas.steps.ListBytes.{none_writes, some_writes}
use Rattle.sat_base.proofs.device.output.Output.put_optional.Goals as goal

pub returns-in-None : goal.returns-in-None
returns-in-None g c = grind (arith, common_steps, none_writes)

pub returns-in-Some : goal.returns-in-Some
returns-in-Some g c = grind (arith, common_steps, some_writes)
