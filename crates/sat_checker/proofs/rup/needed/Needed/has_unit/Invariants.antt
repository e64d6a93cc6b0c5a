use Rattle.std.proofs.Common.{ℕ, ◌≡◌, true, drop, map}
use Rattle.sat_checker.specs.LiteralSets.{is_among}
use Rattle.sat_checker.proofs.rup.needed.Needed.has_unit.Given as goal

-- every marked literal that is a unit is among the remaining literals
abbrev pub invariant-loop-lit : goal.invariant-loop-lit
invariant-loop-lit l = (m : ℕ) → is_among l.self.marked.literals m ≡ true → is_among (map (λ u. u.literal) l.units.units) m ≡ true → is_among (drop l.lit-index l.lit-items) m ≡ true
