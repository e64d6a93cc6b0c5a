use Rattle.std.proofs.Common.{◌≡◌, drop, length}
use Rattle.sat_parts.specs.parts.Units.{with_removed_units}
use Rattle.sat_parts.proofs.parts.units.mark_removed.Given as goal

abbrev pub invariant-loop-lit : goal.invariant-loop-lit
invariant-loop-lit l = (with_removed_units (drop l.lit-index l.trail.lits) l.graph ≡ with_removed_units l.trail.lits l.fn.graph) × (length l.graph ≡ length l.fn.graph)
