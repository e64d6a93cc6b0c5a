use Rattle.std.proofs.Common.{◌≡◌, drop, map}
use Rattle.std.specs.List.{list_any}
use Rattle.sat_checker.specs.LiteralSets.{is_among}
use Rattle.sat_checker.proofs.units.Units.has_any.Given as goal

abbrev pub invariant-loop-lit : goal.invariant-loop-lit
invariant-loop-lit l = list_any (is_among (map (λ u. u.literal) l.self.units)) l.clause ≡ list_any (is_among (map (λ u. u.literal) l.self.units)) (drop l.lit-index l.clause)
