use Rattle.std.proofs.Common.{◌≡◌}
use Rattle.sat_solver.specs.Models.{named_to}
use Rattle.sat_solver.proofs.model.named_lits.Given as goal

abbrev pub invariant-loop-index : goal.invariant-loop-index
invariant-loop-index l = l.lits.items ≡ named_to l.variables l.values l.index
