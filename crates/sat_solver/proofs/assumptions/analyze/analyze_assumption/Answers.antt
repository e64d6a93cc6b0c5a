use Rattle.std.proofs.Common.{◌≡◌, sym, ap, ◌∙◌, subst, arith}
use Rattle.sat_parts.specs.prop.Graphs.{node_of}
use Rattle.sat_parts.specs.prop.Ready.{state_of}
use Rattle.sat_parts.specs.prop.State.{PropagationState, level}
use Rattle.sat_solver.specs.analyze_conflict.AnalysisState.{AnalysisState}
use Rattle.sat_solver.specs.analyze_conflict.Marks.{CanAnalyze}
use Rattle.sat_solver.specs.assumptions.FailedAssumptions.{IsFailedAssumption, fails_clauses}
use Rattle.sat_solver.proofs.lemmas.analyze_conflict.Tracing.{some_level}
use Rattle.sat_solver.proofs.lemmas.analyze_conflict.Refuting.{refuted}
use Rattle.sat_solver.proofs.assumptions.analyze.analyze_assumption.Goals as goal

pub begin_trace-requires-clause-can : goal.begin_trace-requires-clause-can
begin_trace-requires-clause-can c =
    let s : PropagationState = state_of c.args.assignment.now c.args.graph.now c.args.trail.now in
    let level_is : c.level.result ≡ level s c.args.failed = c.level.ensures ∙ ap (λ v. (node_of c.args.graph.now v).level) c.var.ensures in
    c.requires.can (some_level s c.args.failed c.requires.agrees c.requires.fails (omega (arith, c.if-level-eq0.false, level_is)))

pub returns-clause-fails : goal.returns-clause-fails
returns-clause-fails c =
    let s : PropagationState = state_of c.args.assignment.now c.args.graph.now c.args.trail.now in
    let level_is : c.level.result ≡ level s c.args.failed = c.level.ensures ∙ ap (λ v. (node_of c.args.graph.now v).level) c.var.ensures in
    let can : CanAnalyze c.args.clauses.now s = c.requires.can (some_level s c.args.failed c.requires.agrees c.requires.fails (omega (arith, c.if-level-eq0.false, level_is))) in
    subst (λ (w : AnalysisState). IsFailedAssumption c.args.clauses.now s c.args.failed w.core w.used) (sym c.reverse_used.ensures)
    (fails_clauses (refuted c.args.clauses.now s c.args.failed c.trace.new.analysis can c.requires.fails c.in_ok-trace.ensures))
