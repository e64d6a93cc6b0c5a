use Rattle.std.proofs.Common.{◌≤◌}
use Rattle.sat_solver.specs.unit_simplify.Strengthening.{MovesOpenLitsFirst}
use Rattle.sat_solver.proofs.unit_simplify.strengthen.gather_open.Given as goal

abbrev pub invariant-loop-at : goal.invariant-loop-at
invariant-loop-at l = record {
  gathers : MovesOpenLitsFirst l.fn.parts l.parts l.cref l.kept l.at;
  some : 2 ≤ l.kept;
  within : l.kept ≤ l.at;
}
