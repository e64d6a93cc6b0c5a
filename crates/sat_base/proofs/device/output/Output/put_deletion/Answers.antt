use Rattle.std.proofs.lemmas.Grind.{common_steps}
use Rattle.std.proofs.Common.{arith}
use Rattle.sat_base.proofs.lemmas.steps.ListBytes.{deletion_writes}
use Rattle.sat_base.proofs.device.output.Output.put_deletion.Goals as goal

pub returns-in-Redundant : goal.returns-in-Redundant
returns-in-Redundant g c = grind (arith, common_steps, deletion_writes)

pub returns-in-Simplified : goal.returns-in-Simplified
returns-in-Simplified g c = grind (arith, common_steps, deletion_writes)

pub returns-in-Satisfied : goal.returns-in-Satisfied
returns-in-Satisfied g c = grind (arith, common_steps, deletion_writes)
