use Rattle.std.proofs.lemmas.Grind.{common_steps}
use Rattle.std.proofs.Common.{arith}
use Rattle.std.proofs.lemmas.List.{get_or_read, length-map}
use Rattle.sat_parts.proofs.lemmas.clause.GlueLemmas.{left_more, level_at}
use Rattle.sat_parts.proofs.glue.clear_levels.Goals as goal

pub loop-lit-preserved : goal.loop-lit-preserved
loop-lit-preserved c = grind (arith, common_steps, get_or_read, length-map, left_more, level_at)
