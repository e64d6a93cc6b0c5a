use Rattle.std.proofs.lemmas.Grind.{common_steps}
use Rattle.std.proofs.Common.{arith}
use Rattle.sat_solver.specs.variables.VariableRoom.{user_vars_in}
use Rattle.sat_solver.proofs.lemmas.variables.RoomLemmas.{reach_low, fits_all}
use Rattle.sat_solver.proofs.variables.room.has_room.Goals as goal

pub overflow_sub-never : goal.overflow_sub-never
overflow_sub-never c = let r = reach_low (user_vars_in c.args.lits.now) c.name_count-used.result in let e = c.name_reach.ensures.is in omega arith

pub returns-then-lits-left : goal.returns-then-lits-left
returns-then-lits-left c = grind (arith, common_steps, fits_all)
