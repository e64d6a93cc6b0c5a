use Rattle.std.proofs.Common.{◌≡◌, ◌≤◌, ◌++◌, length, take, drop, get_or}
use Rattle.sat_parts.specs.prop.ReasonLits.{conflict_lits}
use Rattle.sat_parts.specs.prop.Ready.{state_of}
use Rattle.sat_solver.specs.analyze_conflict.Seen.{AppendsUsedLits}
use Rattle.sat_solver.specs.analyze_conflict.Minimization.{ClauseMinimizationInvariant}
use Rattle.sat_solver.proofs.minimize.minimize_clause.Given as goal

abbrev pub invariant-loop-at : goal.invariant-loop-at
invariant-loop-at l = record {
  front : AppendsUsedLits l.fn.analysis l.analysis;
  minimal : ClauseMinimizationInvariant l.clauses (state_of l.assignment l.graph l.trail) (conflict_lits l.clauses l.conflict) (get_or l.fn.analysis.clause 0 0) l.low (take l.kept l.analysis.clause ++ drop l.at l.analysis.clause) l.analysis;
  some : 1 ≤ l.kept;
  following : l.kept ≤ l.at;
  size : length l.analysis.clause ≡ length l.fn.analysis.clause;
  first : get_or l.analysis.clause 0 0 ≡ get_or l.fn.analysis.clause 0 0;
}
