use Rattle.std.proofs.Common.{arith}
use Rattle.sat_solver.proofs.lemmas.variables.RoomLemmas.{live_others, live_most}
use Rattle.sat_solver.proofs.variables.room.unused_count.Goals as goal

pub overflow_sub-live : goal.overflow_sub-live
overflow_sub-live c = let o = live_others c.args.variables.now c.requires in let u = c.used_count.ensures in let k = c.count.ensures in omega arith

pub returns : goal.returns
returns c = let o = live_others c.args.variables.now c.requires in let m = live_most c.args.variables.now c.requires in let u = c.used_count.ensures in let k = c.count.ensures in let x = c.max_count.ensures in omega arith
