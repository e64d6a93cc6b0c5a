use Rattle.std.proofs.Common.{◌≡◌, drop}
use Rattle.std.specs.List.{list_all}
use Rattle.sat_checker.specs.LiteralSets.{is_among}
use Rattle.sat_checker.proofs.state.lit_set.LitSet.has_all.Given as goal

-- the result depends only on the remaining literals
abbrev pub invariant-loop-lit : goal.invariant-loop-lit
invariant-loop-lit l = list_all (is_among l.self) l.part ≡ list_all (is_among l.self) (drop l.lit-index l.part)
