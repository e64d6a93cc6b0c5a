use Rattle.sat_solver.proofs.lemmas.variables.Trees.{Descends}
use Rattle.sat_solver.proofs.variables.free.FreeIndices.lowest.Given as goal

abbrev pub invariant-loop-level : goal.invariant-loop-level
invariant-loop-level l = Descends l.self l._level l.at
