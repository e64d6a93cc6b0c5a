use Rattle.std.proofs.Common.{arith}
use Rattle.sat_parts.specs.prop.Ready.{state_of}
use Rattle.sat_solver.proofs.lemmas.analyze_conflict.Tracing.{traced_end}
use Rattle.sat_solver.proofs.assumptions.analyze.trace.Goals as goal

pub returns : goal.returns
returns c =
    traced_end c.args.clauses.now (state_of c.args.assignment.now c.args.graph.now c.args.trail.now) c.args.failed c.loop-failed.analysis c.loop-failed.at c.requires.can c.requires.fails c.loop-failed.invariant
    (omega (arith, c.loop-failed-test.false, c.pending.ensures))
