use Rattle.std.proofs.lemmas.Grind.{common_steps}
use Rattle.std.proofs.Common.{arith}
use Rattle.std.proofs.lemmas.List.{get_or_read}
use Rattle.sat_base.proofs.lemmas.device.Sending.{of_more, of_same, of_all}
use Rattle.sat_base.proofs.lemmas.steps.ListBytes.{spells_list, next_number, last_number}
use Rattle.sat_base.proofs.device.output.Output.push_literals.Goals as goal

pub loop-lit-preserved : goal.loop-lit-preserved
loop-lit-preserved g c = grind (arith, common_steps, get_or_read, of_more, of_same, next_number)

pub returns : goal.returns
returns g c = grind (arith, common_steps, of_all, spells_list, last_number)
