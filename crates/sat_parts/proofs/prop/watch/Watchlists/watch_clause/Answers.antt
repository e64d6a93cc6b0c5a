use Rattle.std.proofs.Common.{arith}
use Rattle.std.proofs.lemmas.Grind.{common_steps}
use Rattle.sat_parts.proofs.lemmas.prop.WatchLemmas.{pushed_back}
use Rattle.sat_parts.proofs.prop.watch.Watchlists.watch_clause.Goals as goal

pub returns-in-Err-clause-same : goal.returns-in-Err-clause-same
returns-in-Err-clause-same c = grind (arith, common_steps, common_steps, pushed_back)
