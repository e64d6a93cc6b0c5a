use Rattle.std.proofs.Common.{◌≡◌}
use Rattle.sat_solver.proofs.lemmas.variables.Trees.{Renews}
use Rattle.sat_solver.proofs.variables.free.FreeIndices.refresh_all.Given as goal

abbrev pub invariant-loop-at : goal.invariant-loop-at
invariant-loop-at l = (l.self.room ≡ l.fn.self.room) × (l.self.height ≡ l.fn.self.height) × (l.self.count ≡ l.fn.self.count) × Renews l.fn.self.room l.fn.self.nodes.items l.self.nodes.items l.at
