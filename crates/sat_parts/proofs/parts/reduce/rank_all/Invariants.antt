use Rattle.std.proofs.Common.{◌≡◌, take, map}
use Rattle.sat_parts.specs.parts.Reducing.{with_rank}
use Rattle.sat_parts.proofs.parts.reduce.rank_all.Given as goal

abbrev pub invariant-loop-cref : goal.invariant-loop-cref
invariant-loop-cref l = l.ranks.items ≡ map (with_rank l.clauses) (take l.cref-index l.list)
