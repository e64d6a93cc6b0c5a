use Rattle.std.proofs.Common.{◌≡◌, ◌++◌, drop}
use Rattle.sat_solver.proofs.session.roll.Roll.of.Given as goal

abbrev pub invariant-loop-one : goal.invariant-loop-one
invariant-loop-one g l = l.roll.items ++ drop l.one-index l.all ≡ l.all
