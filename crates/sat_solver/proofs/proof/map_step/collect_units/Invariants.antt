use Rattle.std.proofs.Common.{◌≡◌, ◌++◌, drop}
use Rattle.sat_solver.specs.session.TrailUnits.{written_units}
use Rattle.sat_parts.specs.parts.Whole.{state}
use Rattle.sat_solver.specs.session.Naming.{global_of_index}
use Rattle.sat_solver.proofs.proof.map_step.collect_units.Given as goal

abbrev pub invariant-loop-lit : goal.invariant-loop-lit
invariant-loop-lit l =
    l.units.items ++ written_units l.parts.clauses (state l.parts) 64 (global_of_index l.globals) (drop l.lit-index l.parts.trail.lits) ≡ written_units l.parts.clauses (state l.parts) 64 (global_of_index l.globals) l.parts.trail.lits
