use Rattle.std.proofs.Common.{refl, sym, ap, ◌∙◌}
use Rattle.sat_base.specs.values.Literals.{negated_if}
use Rattle.sat_checker.proofs.lemmas.propagation.Denied.{denied_once}
use Rattle.sat_checker.proofs.rup.deny.Goals as goal

pub loop-literal-preserved : goal.loop-literal-preserved
loop-literal-preserved c =
    let is = c.bitxor-lit.ensures ∙ ap (negated_if c.args.negate) c.literal-item.is in
    let once =
    denied_once c.args.negate c.args.literals.now c.loop-literal.literal-index c.literal-item.result c.bitxor-lit.result c.loop-literal-test.true is c.loop-literal.assigned.literals c.not.result c.args.assigned.now c.loop-literal.assigned c.assume_once.new.self refl
    (sym c.is_true.ensures ∙ c.if-is_true.false) c.not.ensures c.in_ok-assume_once.ensures.ok c.loop-literal.invariant.extends in
    record { denied_so_far = c.loop-literal.invariant.denied_so_far ∙ once.0; extends = once.1 }
