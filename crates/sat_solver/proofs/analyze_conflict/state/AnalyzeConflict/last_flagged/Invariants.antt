use Rattle.std.proofs.Common.{ℕ, ◌≡◌, ◌<◌, ◌≤◌, false, get_or}
use Rattle.sat_base.specs.values.Literals.{variable}
use Rattle.sat_solver.proofs.analyze_conflict.state.AnalyzeConflict.last_flagged.Given as goal

abbrev pub invariant-loop-self : goal.invariant-loop-self
invariant-loop-self l = record {
  within : l.at ≤ l.before;
  others : (p : ℕ) → l.at ≤ p → p < l.before → get_or l.self.flags (variable (get_or l.lits p 0)) false ≡ false;
}

abbrev pub decreases-loop-self : goal.decreases-loop-self
decreases-loop-self l = l.at
