use Rattle.std.proofs.Common.{arith}
use Rattle.std.proofs.lemmas.Grind.{common_steps}
use Rattle.std.proofs.Common.{◌∙◌}
use Rattle.sat_solver.proofs.lemmas.variables.Trees.{node_is}
use Rattle.sat_solver.proofs.lemmas.variables.Trees.{none_empty, none_root, at_root, goes_down, some_below, child_within, arrives, full}
use Rattle.sat_solver.proofs.variables.free.FreeIndices.lowest.Goals as goal
use Rattle.sat_solver.proofs.variables.free.FreeIndices.lowest.Goals.{then-self-eq0-via-then-self-eq0, then-self-eq0-via-else-self-eq0+then-not-index}

pub returns-then-self-eq0 : goal.returns-then-self-eq0
returns-then-self-eq0 c = grind (arith, common_steps, node_is, none_empty, none_root, full, then-self-eq0-via-then-self-eq0, then-self-eq0-via-else-self-eq0+then-not-index)

pub loop-level-init : goal.loop-level-init
loop-level-init c = at_root c.args.self.now c.requires (full c.args.self.now c.requires c.if-self-eq0.false) (node_is c.args.self.now c.index.result.now c.requires c.if-self-eq0.false c.index.ensures ∙ c.if-not-index.false)

pub child-at-requires-clause-within : goal.child-at-requires-clause-within
child-at-requires-clause-within c = child_within c.args.self.now c.loop-level._level c.loop-level.at c.loop-level.invariant c.loop-level-test.true

pub child-at-requires-clause-some : goal.child-at-requires-clause-some
child-at-requires-clause-some c = some_below c.args.self.now c.loop-level._level c.loop-level.at c.loop-level.invariant c.loop-level-test.true

pub loop-level-preserved : goal.loop-level-preserved
loop-level-preserved c = goes_down c.args.self.now c.loop-level._level c.loop-level.at c.child-at.result c.loop-level.invariant c.loop-level-test.true c.child-at.ensures

pub returns : goal.returns
returns c = arrives c.args.self.now c.loop-level._level c.loop-level.at c.from_index.result c.loop-level.invariant c.loop-level-test.false c.from_index.ensures
