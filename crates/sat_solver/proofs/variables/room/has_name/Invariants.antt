use Rattle.std.proofs.Common.{◌≡◌, drop}
use Rattle.sat_checker.specs.LiteralSets.{mentions}
use Rattle.sat_solver.proofs.variables.room.has_name.Given as goal

abbrev pub invariant-loop-lit : goal.invariant-loop-lit
invariant-loop-lit l = mentions l.lits l.user ≡ mentions (drop l.lit-index l.lits) l.user
