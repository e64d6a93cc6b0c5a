use Rattle.sat_parts.specs.prop.Ready.{state_of}
use Rattle.sat_solver.specs.assumptions.FailedAssumptions.{TraceInvariant}
use Rattle.sat_solver.proofs.assumptions.analyze.trace.Given as goal

abbrev pub invariant-loop-failed : goal.invariant-loop-failed
invariant-loop-failed l = TraceInvariant l.clauses (state_of l.assignment l.graph l.trail) l.failed l.analysis l.at

abbrev pub decreases-loop-failed : goal.decreases-loop-failed
decreases-loop-failed l = l.at
