use Rattle.std.proofs.Common.{◌≡◌, ◌++◌, map, drop}
use Rattle.sat_solver.specs.session.LiveClauses.{with_var}
use Rattle.sat_solver.specs.session.Naming.{global_of_index}
use Rattle.sat_solver.proofs.proof.map_step.map_lits.Given as goal

abbrev pub invariant-loop-lit : goal.invariant-loop-lit
invariant-loop-lit l = l.mapped.items ++ map (with_var (global_of_index l.globals)) (drop l.lit-index l.lits) ≡ map (with_var (global_of_index l.globals)) l.lits
