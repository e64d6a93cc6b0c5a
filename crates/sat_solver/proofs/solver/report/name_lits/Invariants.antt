use Rattle.std.proofs.Common.{◌≡◌, ◌++◌, map, drop}
use Rattle.sat_solver.specs.solver.Joined.{lit_over_names}
use Rattle.sat_solver.proofs.solver.report.name_lits.Given as goal

abbrev pub invariant-loop-lit : goal.invariant-loop-lit
invariant-loop-lit l = l.named.items ++ map (lit_over_names l.names) (drop l.lit-index l.lits) ≡ map (lit_over_names l.names) l.lits
