use Rattle.std.proofs.Common.{◌≡◌, drop}
use Rattle.sat_checker.specs.announcements.Needed.{satisfying_unit}
use Rattle.sat_checker.proofs.units.Units.true_id.Given as goal

-- the result depends only on the remaining literals
abbrev pub invariant-loop-lit : goal.invariant-loop-lit
invariant-loop-lit l = satisfying_unit l.literals l.self.units ≡ satisfying_unit (drop l.lit-index l.literals) l.self.units
