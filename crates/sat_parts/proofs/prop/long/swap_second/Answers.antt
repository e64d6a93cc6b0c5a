use Rattle.std.proofs.lemmas.Grind.{common_steps}
use Rattle.std.proofs.Common.{arith}
use Rattle.sat_parts.proofs.lemmas.clause.OrderLemmas.{shuffles_second}
use Rattle.sat_parts.proofs.prop.long.swap_second.Goals as goal

pub returns-clause-shuffles : goal.returns-clause-shuffles
returns-clause-shuffles c = grind (arith, common_steps, shuffles_second)
