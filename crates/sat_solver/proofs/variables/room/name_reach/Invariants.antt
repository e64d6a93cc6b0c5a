use Rattle.std.proofs.Common.{◌≡◌, ◌≤◌, drop}
use Rattle.sat_base.specs.values.Literals.{var_limit}
use Rattle.sat_solver.specs.variables.VariableRoom.{reach, user_vars_in}
use Rattle.sat_solver.proofs.variables.room.name_reach.Given as goal

abbrev pub invariant-loop-lit : goal.invariant-loop-lit
invariant-loop-lit l = (reach l.top (user_vars_in (drop l.lit-index l.lits)) ≡ reach l.used (user_vars_in l.lits)) × (l.top ≤ var_limit)
