use Rattle.std.proofs.Common.{arith}
use Rattle.std.proofs.lemmas.Grind.{common_steps}
use Rattle.std.proofs.lemmas.List.{get_or_read}
use Rattle.sat_parts.proofs.lemmas.prop.PlaceLemmas.{popped_by}
use Rattle.sat_parts.proofs.binary.pop.Goals as goal

pub returns-clause-popped : goal.returns-clause-popped
returns-clause-popped c = grind (arith, common_steps, get_or_read, popped_by)
