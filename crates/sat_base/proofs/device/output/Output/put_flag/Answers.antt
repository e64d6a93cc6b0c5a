use Rattle.std.proofs.Common.{arith}
use Rattle.std.proofs.lemmas.Grind.{common_steps}
use Rattle.sat_base.proofs.lemmas.steps.ListBytes.{flag_writes, no_flag_writes}
use Rattle.sat_base.proofs.device.output.Output.put_flag.Goals as goal

pub returns-then-flag : goal.returns-then-flag
returns-then-flag g c = grind (arith, common_steps, flag_writes)

pub returns-else-flag : goal.returns-else-flag
returns-else-flag g c = grind (arith, common_steps, no_flag_writes)
