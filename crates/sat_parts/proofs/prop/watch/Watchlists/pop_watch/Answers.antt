use Rattle.std.proofs.lemmas.Grind.{common_steps}
use Rattle.std.proofs.Common.{arith}
use Rattle.sat_parts.proofs.lemmas.prop.WidenLemmas.{wide_step}
use Rattle.sat_parts.proofs.prop.watch.Watchlists.pop_watch.Goals as goal

pub returns : goal.returns
returns c = grind (arith, common_steps, wide_step)
