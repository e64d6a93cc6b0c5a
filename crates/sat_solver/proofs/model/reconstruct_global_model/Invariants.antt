use Rattle.std.proofs.Common.{◌≡◌}
use Rattle.sat_solver.specs.Models.{model_to}
use Rattle.sat_solver.proofs.model.reconstruct_global_model.Given as goal

abbrev pub invariant-loop-index : goal.invariant-loop-index
invariant-loop-index l = l.lits.items ≡ model_to l.variables l.values l.index
