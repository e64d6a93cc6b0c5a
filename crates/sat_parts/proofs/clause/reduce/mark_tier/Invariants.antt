use Rattle.std.proofs.Common.{◌≡◌}
use Rattle.sat_store.specs.clause.Buffer.{header_at}
use Rattle.sat_parts.specs.clause.Db.{DbMatchesBuffer, live_refs}
use Rattle.sat_parts.specs.clause.Activity.{PutsFirstHeaders}
use Rattle.sat_parts.specs.clause.Reduced.{with_mark}
use Rattle.sat_parts.proofs.clause.reduce.mark_tier.Given as goal

abbrev pub invariant-loop-at : goal.invariant-loop-at
invariant-loop-at l = record {
  put : PutsFirstHeaders l.fn.clauses l.clauses l.fn.db.refs (λ p. with_mark l.fn.tier (header_at l.fn.clauses p)) l.at;
  holds : DbMatchesBuffer l.clauses l.fn.db;
  live : live_refs l.clauses l.fn.db.refs ≡ live_refs l.fn.clauses l.fn.db.refs;
}
