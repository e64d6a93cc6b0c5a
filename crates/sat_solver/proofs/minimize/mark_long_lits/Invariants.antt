use Rattle.std.proofs.Common.{◌≡◌, length, drop}
use Rattle.sat_solver.specs.analyze_conflict.Minimization.{marked_reasons}
use Rattle.sat_solver.proofs.minimize.mark_long_lits.Given as goal

abbrev pub invariant-loop-at : goal.invariant-loop-at
invariant-loop-at l = record {
  size : length l.analysis.flags ≡ length l.graph;
  left : marked_reasons l.graph l.levels (drop l.at l.lits) l.analysis ≡ marked_reasons l.graph l.levels l.lits l.fn.analysis;
}
