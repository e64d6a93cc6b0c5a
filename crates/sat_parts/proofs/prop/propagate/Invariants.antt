use Rattle.std.proofs.Common.{◌/◌, length}
use Rattle.sat_parts.specs.clause.Db.{live_refs}
use Rattle.sat_parts.proofs.prop.propagate.Given as goal

abbrev pub ghost-enable_watchlists : goal.ghost-enable_watchlists
ghost-enable_watchlists a = length a.watchlists.now.lists / 2

abbrev pub ghost-propagate_queue : goal.ghost-propagate_queue
ghost-propagate_queue a = live_refs a.clauses.now a._db.now.refs
