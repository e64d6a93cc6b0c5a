use Rattle.std.proofs.Common.{◌≡◌, take}
use Rattle.std.specs.List.{filter}
use Rattle.sat_parts.specs.clause.Db.{is_live_in_tier}
use Rattle.sat_parts.proofs.clause.reduce.clauses_of_tier.Given as goal

abbrev pub invariant-loop-at : goal.invariant-loop-at
invariant-loop-at l = l.list.items ≡ filter (is_live_in_tier l.clauses l.fn.tier) (take l.at l.fn.db.refs)
