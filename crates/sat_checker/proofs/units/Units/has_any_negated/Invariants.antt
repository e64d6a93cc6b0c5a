use Rattle.std.proofs.Common.{◌≡◌, drop, map}
use Rattle.std.specs.List.{list_any}
use Rattle.sat_base.specs.values.Literals.{negated}
use Rattle.sat_checker.specs.LiteralSets.{is_among}
use Rattle.sat_checker.proofs.units.Units.has_any_negated.Given as goal

-- the result depends only on the remaining literals
abbrev pub invariant-loop-lit : goal.invariant-loop-lit
invariant-loop-lit l =
    list_any (λ m. is_among (map (λ u. u.literal) l.self.units) (negated m)) l.literals ≡ list_any (λ m. is_among (map (λ u. u.literal) l.self.units) (negated m)) (drop l.lit-index l.literals)
