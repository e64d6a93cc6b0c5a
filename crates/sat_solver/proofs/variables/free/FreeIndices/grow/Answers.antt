use Rattle.std.proofs.Common.{refl, arith, ◌*◌, ◌+◌}
use Rattle.sat_solver.specs.declared.variables.free.FreeIndices.{FreeIndices}
use Rattle.sat_solver.proofs.lemmas.variables.Trees.{tree_one, height_fits, grown_powers, grown_counted, grown, full, empty_grown, empty_same}
use Rattle.sat_solver.proofs.variables.free.FreeIndices.grow.Goals as goal

pub returns-then-self-eq0-clause-tree : goal.returns-then-self-eq0-clause-tree
returns-then-self-eq0-clause-tree c = let g : FreeIndices = record { nodes = c.widen.new.nodes; room = 1; height = 0; count = c.args.self.now.count } in tree_one c.args.self.now g c.requires.tree c.if-self-eq0.true refl refl refl c.in_ok-widen.ensures.size c.in_ok-widen.ensures.same

pub returns-then-self-eq0-2-clause-tree : goal.returns-then-self-eq0-2-clause-tree
returns-then-self-eq0-2-clause-tree c = let g : FreeIndices = record { nodes = c.widen-2.new.nodes; room = c.args.self.now.room * 2; height = c.args.self.now.height + 1; count = c.args.self.now.count } in
    empty_grown c.args.self.now g c.requires.tree c.if-self-eq0.false c.requires.small c.in_ok-widen-2.ensures.size c.in_ok-widen-2.ensures.same (omega arith) refl refl c.if-self-eq0-2.true

pub returns-then-self-eq0-2-clause-same : goal.returns-then-self-eq0-2-clause-same
returns-then-self-eq0-2-clause-same c = let g : FreeIndices = record { nodes = c.widen-2.new.nodes; room = c.args.self.now.room * 2; height = c.args.self.now.height + 1; count = c.args.self.now.count } in
    empty_same c.args.self.now g c.requires.tree c.if-self-eq0.false c.requires.small c.in_ok-widen-2.ensures.size c.in_ok-widen-2.ensures.same (omega arith) refl refl c.if-self-eq0-2.true

pub overflow_add-self : goal.overflow_add-self
overflow_add-self c = let h = height_fits c.args.self.now c.requires.tree c.if-self-eq0.false in omega arith

pub overflow_add-self-2 : goal.overflow_add-self-2
overflow_add-self-2 c = let h = height_fits c.args.self.now c.requires.tree c.if-self-eq0.false in omega arith

pub refresh_all-requires-clause-power : goal.refresh_all-requires-clause-power
refresh_all-requires-clause-power c = let g : FreeIndices = record { nodes = c.copy_leaves.new.nodes; room = c.args.self.now.room * 2; height = c.args.self.now.height + 1; count = c.args.self.now.count } in grown_powers c.args.self.now g c.requires.tree c.if-self-eq0.false c.requires.small (omega arith) refl

pub refresh_all-requires-clause-counted : goal.refresh_all-requires-clause-counted
refresh_all-requires-clause-counted c = let g : FreeIndices = record { nodes = c.copy_leaves.new.nodes; room = c.args.self.now.room * 2; height = c.args.self.now.height + 1; count = c.args.self.now.count } in
    grown_counted c.args.self.now g c.widen-2.new.nodes.items c.requires.tree (full c.args.self.now c.requires.tree c.if-self-eq0.false) c.in_ok-widen-2.ensures.size c.in_ok-widen-2.ensures.same c.copy_leaves.ensures (omega arith) refl

pub returns-clause-same : goal.returns-clause-same
returns-clause-same c = let g : FreeIndices = record { nodes = c.copy_leaves.new.nodes; room = c.args.self.now.room * 2; height = c.args.self.now.height + 1; count = c.args.self.now.count } in
    grown c.args.self.now g c.refresh_all.new.self c.widen-2.new.nodes.items c.requires.tree (full c.args.self.now c.requires.tree c.if-self-eq0.false) c.in_ok-widen-2.ensures.size c.in_ok-widen-2.ensures.same c.copy_leaves.ensures (omega arith) c.refresh_all.ensures.leaves
