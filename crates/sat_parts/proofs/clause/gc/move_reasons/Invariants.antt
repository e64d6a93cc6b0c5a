use Rattle.std.proofs.Common.{◌≡◌, length, take}
use Rattle.sat_parts.specs.clause.Db.{live_refs}
use Rattle.sat_parts.specs.clause.Collected.{ReasonsNameCopiesOfFirst}
use Rattle.sat_parts.proofs.clause.gc.move_reasons.Given as goal

abbrev pub invariant-loop-at : goal.invariant-loop-at
invariant-loop-at l = record {
  place : l.next ≡ length (live_refs l.clauses (take l.at l.fn.db.refs));
  followed : ReasonsNameCopiesOfFirst (live_refs l.clauses l.fn.db.refs) l.fn.refs.items l.fn._trail.lits l.next l.fn.graph l.graph;
}
