use Rattle.std.proofs.lemmas.Grind.{common_steps}
use Rattle.std.proofs.Common.{arith}
use Rattle.std.proofs.lemmas.List.{get_or_read}
use Rattle.sat_base.proofs.lemmas.device.Sending.{of_more, of_same, of_all}
use Rattle.sat_base.proofs.lemmas.steps.ListBytes.{spells_units, next_pair, last_pair}
use Rattle.sat_base.proofs.device.output.Output.push_units.Goals as goal

pub loop-unit-preserved : goal.loop-unit-preserved
loop-unit-preserved g c = grind (arith, common_steps, get_or_read, of_more, of_same, next_pair)

pub returns : goal.returns
returns g c = grind (arith, common_steps, of_all, spells_units, last_pair)
