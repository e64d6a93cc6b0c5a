use Rattle.std.proofs.lemmas.Grind.{common_steps}
use Rattle.std.proofs.Common.{arith}
use Rattle.std.proofs.lemmas.List.{length-map}
use Rattle.std.proofs.lemmas.Map.Made.{distinct_count-le}
use Rattle.sat_parts.proofs.glue.compute_clause_glue.Goals as goal

pub returns-clause-glue : goal.returns-clause-glue
returns-clause-glue c = grind (arith, common_steps, length-map, distinct_count-le)
