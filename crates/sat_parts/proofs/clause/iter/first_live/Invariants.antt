use Rattle.std.proofs.Common.{◌≡◌, [], take}
use Rattle.sat_parts.specs.clause.Db.{live_refs}
use Rattle.sat_parts.proofs.clause.iter.first_live.Given as goal

abbrev pub invariant-loop-at : goal.invariant-loop-at
invariant-loop-at l = live_refs l.clauses (take l.at l.refs) ≡ []
