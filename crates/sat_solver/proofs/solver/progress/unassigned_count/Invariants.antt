use Rattle.std.proofs.Common.{◌≡◌, ◌≤◌}
use Rattle.sat_solver.specs.variables.Counting.{count_to}
use Rattle.sat_solver.specs.variables.Variables.{VariablesInvariant}
use Rattle.sat_solver.specs.solver.Progressing.{is_unassigned_at}
use Rattle.sat_solver.proofs.solver.progress.unassigned_count.Given as goal

abbrev pub invariant-loop-index : goal.invariant-loop-index
invariant-loop-index l = record {
  few : l.count ≤ l.index;
  is : VariablesInvariant l.names → l.count ≡ count_to l.index (is_unassigned_at l.names l.values);
}
