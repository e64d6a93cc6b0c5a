use Rattle.sat_parts.specs.clause.Collected.{CopyInvariant}
use Rattle.sat_parts.proofs.clause.gc.copy_live.Given as goal

abbrev pub invariant-loop-at : goal.invariant-loop-at
invariant-loop-at l = CopyInvariant l.clauses l.fn.db.refs l.to l.refs.items l.at
