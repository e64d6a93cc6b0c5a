use Rattle.std.proofs.Common.{refl}
use Rattle.sat_solver.proofs.lemmas.variables.Trees.{tree_none}
use Rattle.sat_solver.proofs.variables.free.FreeIndices.new.Goals as goal

pub returns-clause-tree : goal.returns-clause-tree
returns-clause-tree c = tree_none _ c.new.ensures.items refl refl
