use Rattle.std.proofs.Common.{ℕ, List, ◌<◌, drop, length}
use Rattle.std.specs.List.{AllByRecursion}
use Rattle.sat_solver.specs.variables.Search.{IndicesDistinct}
use Rattle.sat_solver.specs.variables.Initialized.{SetsVariablesOfIndices}
use Rattle.sat_solver.proofs.variables.initialize.copy_globals.Given as goal

abbrev pub invariant-loop-at : goal.invariant-loop-at
invariant-loop-at l = record {
  there : AllByRecursion (λ g. g.solver < length l.list.items) (drop l.at l.given);
  below : AllByRecursion (λ g. g.solver < length l.globals) (drop l.at l.given);
  apart : IndicesDistinct (drop l.at l.given);
  goes : (ys : List ℕ) → SetsVariablesOfIndices (drop l.at l.given) l.globals l.list.items ys → SetsVariablesOfIndices l.given l.globals l.fn.list.items ys;
}
