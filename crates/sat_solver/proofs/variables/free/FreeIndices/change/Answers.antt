use Rattle.std.proofs.Common.{◌∙◌, ◌+◌, arith}
use Rattle.sat_solver.proofs.lemmas.variables.Trees.{leaf_is, some_counted, counted_small, mended, mended_early}
use Rattle.sat_solver.proofs.variables.free.FreeIndices.change.Goals as goal

pub recount_free-self-requires-clause-some : goal.recount_free-self-requires-clause-some
recount_free-self-requires-clause-some c = λ e. some_counted c.args.self.now c.args.index c.requires.tree c.requires.within (leaf_is c.args.self.now c.args.index c.index-before.result.now c.requires.tree c.requires.within c.index-before.ensures ∙ e)

pub recount_free-self-requires-clause-small : goal.recount_free-self-requires-clause-small
recount_free-self-requires-clause-small c = counted_small c.args.self.now c.requires.tree

pub returns-then-is_fresh-clause-tree : goal.returns-then-is_fresh-clause-tree
returns-then-is_fresh-clause-tree c =
    let m = c.loop-at.invariant.mends in
    (mended c.args.self.now c.loop-at.self c.args.index c.args.free 1 c.requires.tree c.requires.within c.loop-at.invariant.room c.loop-at.invariant.height c.loop-at.invariant.count
    (mended_early c.args.self.now.room c.args.self.now.nodes.items c.loop-at.self.nodes.items (c.args.self.now.room + c.args.index) c.args.free c.loop-at.at m c.loop-at-test.true (c.is_fresh.ensures c.if-is_fresh.true)) (omega arith)).0

pub returns-clause-tree : goal.returns-clause-tree
returns-clause-tree c =
    (mended c.args.self.now c.loop-at.self c.args.index c.args.free c.loop-at.at c.requires.tree c.requires.within c.loop-at.invariant.room c.loop-at.invariant.height c.loop-at.invariant.count c.loop-at.invariant.mends (let t = c.loop-at-test.false in omega arith)).0
