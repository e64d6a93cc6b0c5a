use Rattle.std.proofs.Common.{◌≡◌, true}
use Rattle.sat_parts.specs.prop.Building.{FirstClausesAreWatched}
use Rattle.sat_parts.proofs.prop.watch.enable_watchlists.Given as goal

abbrev pub invariant-loop-cref : goal.invariant-loop-cref
invariant-loop-cref g l = record {
  built : FirstClausesAreWatched l.clauses l.fn.db.refs l.watchlists.lists g.count l.cref-index;
  enabled : l.watchlists.enabled ≡ true;
}
