use Rattle.std.proofs.Common.{arith}
use Rattle.std.proofs.lemmas.Grind.{common_steps}
use Rattle.sat_parts.proofs.lemmas.prop.WidenLemmas.{wide_step}
use Rattle.sat_parts.proofs.prop.watch.Watchlists.add_watch.Goals as goal

pub returns-clause-done : goal.returns-clause-done
returns-clause-done c = grind (arith, common_steps, wide_step)
