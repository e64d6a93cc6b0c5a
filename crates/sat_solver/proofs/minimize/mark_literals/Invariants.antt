use Rattle.std.proofs.Common.{◌≡◌, length, drop}
use Rattle.sat_solver.specs.analyze_conflict.Minimization.{marked_reasons}
use Rattle.sat_solver.proofs.minimize.mark_literals.Given as goal

abbrev pub invariant-loop-lit : goal.invariant-loop-lit
invariant-loop-lit l = record {
  size : length l.analysis.flags ≡ length l.graph;
  left : marked_reasons l.graph l.levels (drop l.lit-index l.lits) l.analysis ≡ marked_reasons l.graph l.levels l.lits l.fn.analysis;
}
