use Rattle.std.proofs.Common.{◌≡◌, ◌++◌, map, drop}
use Rattle.sat_solver.specs.session.LiveClauses.{with_var}
use Rattle.sat_solver.specs.session.Naming.{global_of_index}
use Rattle.sat_solver.proofs.clause.reduce.map_clause.Given as goal

abbrev pub invariant-loop-at : goal.invariant-loop-at
invariant-loop-at l = l.clause.items ++ map (with_var (global_of_index l.globals)) (drop l.at l.lits) ≡ map (with_var (global_of_index l.globals)) l.lits
