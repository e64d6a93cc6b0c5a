use Rattle.sat_parts.specs.prop.ReasonLits.{conflict_lits}
use Rattle.sat_parts.specs.prop.Ready.{state_of}
use Rattle.sat_solver.specs.analyze_conflict.Marks.{ResolutionInvariant}
use Rattle.sat_solver.specs.analyze_conflict.Seen.{CollectionInvariant}
use Rattle.sat_solver.proofs.analyze_conflict.resolve.resolve_conflict.Given as goal

abbrev pub invariant-loop-analysis : goal.invariant-loop-analysis
invariant-loop-analysis l = record {
  resolving : ResolutionInvariant l.clauses (state_of l.assignment l.graph l.trail) (conflict_lits l.clauses l.conflict) l.analysis l.at;
  collecting : CollectionInvariant l.clauses (state_of l.assignment l.graph l.trail) l.conflict l.analysis l.at;
}

abbrev pub decreases-loop-analysis : goal.decreases-loop-analysis
decreases-loop-analysis l = l.at
