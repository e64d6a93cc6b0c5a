use Rattle.std.proofs.lemmas.Grind.{common_steps}
use Rattle.std.proofs.Common.{arith}
use Rattle.sat_parts.proofs.lemmas.prop.WatchLemmas.{cut_more}
use Rattle.sat_parts.proofs.prop.watch.WatchList.cut.Goals as goal

pub loop-from-preserved : goal.loop-from-preserved
loop-from-preserved c = grind (arith, common_steps, cut_more)
