use Rattle.std.proofs.Common.{ℕ, ◌∙◌, List, sym, ap, subst}
use Rattle.sat_parts.specs.clause.Glue.{LitsHaveNodes}
use Rattle.sat_solver.specs.analyze_conflict.AnalysisState.{with_seen_literals}
use Rattle.sat_solver.proofs.lemmas.analyze_conflict.TwoParts.{nodes_first, nodes_second, with_both}
use Rattle.sat_solver.proofs.analyze_conflict.resolve.add_all.Goals as goal

pub add_own-requires-clause-nodes : goal.add_own-requires-clause-nodes
add_own-requires-clause-nodes c = nodes_first c.args.graph.now c.parts.result.0.now c.parts.result.1.now (subst (λ (ls : List ℕ). LitsHaveNodes c.args.graph.now ls) (sym c.parts.ensures) c.requires.nodes)

pub add_long-requires-clause-nodes : goal.add_long-requires-clause-nodes
add_long-requires-clause-nodes c = nodes_second c.args.graph.now c.parts.result.0.now c.parts.result.1.now (subst (λ (ls : List ℕ). LitsHaveNodes c.args.graph.now ls) (sym c.parts.ensures) c.requires.nodes)

pub returns : goal.returns
returns c =
    c.in_ok-add_long.ensures ∙ ap (with_seen_literals c.args.graph.now c.args.top c.parts.result.1.now) c.in_ok-add_own.ensures.seen
    ∙ sym (with_both c.args.graph.now c.args.top c.parts.result.0.now c.parts.result.1.now c.args.analysis.now)
    ∙ ap (λ (ls : List ℕ). with_seen_literals c.args.graph.now c.args.top ls c.args.analysis.now) c.parts.ensures
