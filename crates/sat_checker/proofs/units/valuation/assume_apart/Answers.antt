use Rattle.std.proofs.Common.{◌-◌, arith}
use Rattle.sat_checker.proofs.lemmas.state.Models.{reached_same, reached_negated}
use Rattle.sat_checker.proofs.units.valuation.assume_apart.Goals as goal

pub returns-then-is_true-clause-exact : goal.returns-then-is_true-clause-exact
returns-then-is_true-clause-exact c = reached_same c.args.literals.now c.loop-place.assigned.literals (c.loop-place.place - 1) c.loop-place.place c.index-literals-place.result (omega arith) (omega arith) c.index-literals-place.is c.loop-place.invariant.set c.if-is_true.ensures

pub returns-then-is_true-2-clause-exact : goal.returns-then-is_true-2-clause-exact
returns-then-is_true-2-clause-exact c =
    reached_negated c.args.literals.now c.loop-place.assigned.literals (c.loop-place.place - 1) c.loop-place.place c.index-literals-place.result c.not.result (omega arith) (omega arith) c.index-literals-place.is c.loop-place.invariant.set c.not.ensures c.if-is_true-2.ensures
