use Rattle.std.proofs.Common.{◌≡◌, ◌+◌, ◌-◌, length, get_or}
use Rattle.sat_base.specs.values.Literals.{negated}
use Rattle.sat_parts.specs.prop.ReasonLits.{conflict_lits}
use Rattle.sat_parts.specs.prop.Ready.{state_of}
use Rattle.sat_solver.specs.analyze_conflict.Minimization.{MinimizationInvariant, AddsMarks, with_used, unset_count}
use Rattle.sat_solver.proofs.minimize.is_implied.Given as goal

abbrev pub invariant-loop-at : goal.invariant-loop-at
invariant-loop-at l = record {
  searching : MinimizationInvariant l.clauses (state_of l.assignment l.graph l.trail) (conflict_lits l.clauses l.conflict) (get_or l.fn.analysis.clause 0 0) l.low l.analysis l.at;
  more : AddsMarks (with_used (negated l.fn.lit) l.fn.analysis) l.analysis;
  top : l.top ≡ length l.fn.analysis.used;
}

abbrev pub decreases-loop-at : goal.decreases-loop-at
decreases-loop-at l = (unset_count l.analysis.flags + length l.analysis.used) - l.at
