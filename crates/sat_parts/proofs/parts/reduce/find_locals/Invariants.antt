use Rattle.std.proofs.Common.{◌≡◌, take}
use Rattle.std.specs.List.{filter}
use Rattle.sat_store.specs.declared.clause.tier.Tier.TheVariants.{Local}
use Rattle.sat_parts.specs.clause.Db.{is_live_in_tier}
use Rattle.sat_parts.proofs.parts.reduce.find_locals.Given as goal

abbrev pub invariant-loop-at : goal.invariant-loop-at
invariant-loop-at l = l.list.items ≡ filter (is_live_in_tier l.parts.clauses Local) (take l.at l.parts.db.refs)
