use Rattle.std.proofs.Common.{◌≡◌, ◌++◌, map, drop}
use Rattle.sat_solver.specs.proof.Widths.{kept_bits}
use Rattle.sat_solver.proofs.proof.truncate.narrow_units.Given as goal

abbrev pub invariant-loop-unit : goal.invariant-loop-unit
invariant-loop-unit l = l.narrowed.items ++ map (λ u. (u.0, kept_bits l.bits u.1)) (drop l.unit-index l.units) ≡ map (λ u. (u.0, kept_bits l.bits u.1)) l.units
