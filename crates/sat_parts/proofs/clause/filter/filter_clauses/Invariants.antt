use Rattle.std.proofs.Common.{◌≡◌, false}
use Rattle.sat_parts.specs.clause.Db.{DbMatchesBuffer}
use Rattle.sat_parts.specs.clause.Filtered.{ReturnsForClause, FilterInvariant}
use Rattle.sat_parts.proofs.clause.filter.filter_clauses.Given as goal

abbrev pub invariant-loop-at : goal.invariant-loop-at
invariant-loop-at g l = record {
  db : DbMatchesBuffer l.clauses l.db;
  refs : l.db.refs ≡ l.fn.db.refs;
  off : l.watchlists ≡ record l.fn.watchlists { enabled = false };
  pass : FilterInvariant (ReturnsForClause g.F.FnMut l.fn.clauses) l.fn.keep l.fn.clauses l.clauses l.fn.db.refs l.at l.keep;
}
