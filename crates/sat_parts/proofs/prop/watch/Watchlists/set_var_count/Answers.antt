use Rattle.std.proofs.Common.{arith}
use Rattle.std.proofs.lemmas.Grind.{common_steps}
use Rattle.sat_parts.proofs.lemmas.prop.WidenLemmas.{wide_more}
use Rattle.sat_parts.proofs.prop.watch.Watchlists.set_var_count.Goals as goal

pub returns-clause-done : goal.returns-clause-done
returns-clause-done c = grind (arith, common_steps, wide_more)
