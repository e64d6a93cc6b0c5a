use Rattle.std.proofs.Common.{◌+◌, ◌≡◌, cond}
use Rattle.sat_solver.specs.variables.Free.{is_free}
use Rattle.sat_solver.proofs.lemmas.variables.Trees.{Mends}
use Rattle.sat_solver.proofs.variables.free.FreeIndices.change.Given as goal

abbrev pub invariant-loop-at : goal.invariant-loop-at
invariant-loop-at l = record {
  room : l.self.room ≡ l.fn.self.room;
  height : l.self.height ≡ l.fn.self.height;
  count : l.self.count + cond (is_free l.fn.self l.index) 1 0 ≡ l.fn.self.count + cond l.free 1 0;
  mends : Mends l.fn.self.room l.fn.self.nodes.items l.self.nodes.items (l.fn.self.room + l.index) l.free l.at;
}

abbrev pub decreases-loop-at : goal.decreases-loop-at
decreases-loop-at l = l.at
