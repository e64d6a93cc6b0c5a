use Rattle.std.proofs.Common.{◌/◌, length}
use Rattle.sat_parts.specs.clause.Db.{live_refs}
use Rattle.sat_parts_tests.proofs.alone.built_and_over_long.Given as goal

abbrev pub ghost-enable_watchlists : goal.ghost-enable_watchlists
ghost-enable_watchlists a = length a.watchlists.now.lists / 2

abbrev pub ghost-over_long : goal.ghost-over_long
ghost-over_long a = live_refs a.parts.now.clauses a.parts.now.db.refs
