use Rattle.std.proofs.Common.{◌≡◌, drop}
use Rattle.sat_solver.specs.variables.VariableRoom.{user_vars_in, hidden_count}
use Rattle.sat_solver.proofs.variables.room.count_hidden.Given as goal

abbrev pub invariant-loop-at : goal.invariant-loop-at
invariant-loop-at l = l.count ≡ hidden_count l.variables (user_vars_in (drop l.at l.lits))
