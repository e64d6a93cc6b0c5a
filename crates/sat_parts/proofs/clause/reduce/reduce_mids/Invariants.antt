use Rattle.std.proofs.Common.{◌≡◌}
use Rattle.sat_store.specs.clause.Buffer.{header_at}
use Rattle.sat_parts.specs.clause.Db.{DbMatchesBuffer, live_refs}
use Rattle.sat_parts.specs.clause.Activity.{PutsFirstHeaders}
use Rattle.sat_parts.specs.clause.Reduced.{reduced_header}
use Rattle.sat_parts.proofs.clause.reduce.reduce_mids.Given as goal

abbrev pub invariant-loop-at : goal.invariant-loop-at
invariant-loop-at l = record {
  put : PutsFirstHeaders l.fn.clauses l.clauses l.fn.db.refs (λ p. reduced_header (header_at l.fn.clauses p)) l.at;
  holds : DbMatchesBuffer l.clauses l.db;
  refs : l.db.refs ≡ l.fn.db.refs;
  live : live_refs l.clauses l.db.refs ≡ live_refs l.fn.clauses l.fn.db.refs;
}
