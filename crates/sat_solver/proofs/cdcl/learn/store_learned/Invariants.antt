use Rattle.std.proofs.Common.{length}
use Rattle.sat_solver.proofs.cdcl.learn.store_learned.Given as goal

abbrev pub ghost-undo : goal.ghost-undo
ghost-undo a = length a.parts.now.trail.starts
