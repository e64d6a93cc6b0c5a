use Rattle.std.proofs.Common.{arith}
use Rattle.std.proofs.lemmas.Grind.{common_steps}
use Rattle.std.proofs.Common.{ℕ, List, sym, subst}
use Rattle.sat_parts.specs.clause.Glue.{LitsHaveNodes}
use Rattle.sat_solver.proofs.lemmas.analyze_conflict.TwoParts.{nodes_second, followed_stops, followed_goes}
use Rattle.sat_solver.proofs.minimize.mark_reason.Goals as goal

pub mark_long_lits-requires-clause-nodes : goal.mark_long_lits-requires-clause-nodes
mark_long_lits-requires-clause-nodes c = nodes_second c.args.graph.now c.parts.result.0.now c.parts.result.1.now (subst (λ (ls : List ℕ). LitsHaveNodes c.args.graph.now ls) (sym c.parts.ensures) c.requires.nodes)

pub returns-then-not-branch : goal.returns-then-not-branch
returns-then-not-branch c = followed_stops c.args.graph.now c.args.levels.now c.parts.result.0.now c.parts.result.1.now c.args.lits.now c.args.analysis.now c.mark_literals.new.analysis c.in_ok-mark_literals.field-0 c.parts.ensures c.in_ok-mark_literals.ensures.follows c.if-not-branch.true

pub returns : goal.returns
returns c = grind (arith, common_steps, followed_goes)
