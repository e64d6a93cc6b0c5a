use Rattle.std.proofs.Common.{arith}
use Rattle.std.proofs.lemmas.Grind.{common_steps}
use Rattle.std.proofs.Common.{◌∙◌, sym, ap, subst, filter, not, eqb}
use Rattle.sat_checker.specs.Stored.{StoredUnit}
use Rattle.sat_checker.specs.inner.UnitView.{UnitsInvariant}
use Rattle.sat_checker.proofs.lemmas.state.Forgetting.{unit_taken, none_taken}
use Rattle.sat_checker.proofs.units.Units.forget_lit.Goals as goal

pub invariant_of-self : goal.invariant_of-self
invariant_of-self c =
    subst (λ us. UnitsInvariant us c.forget.new.self c.take_out.new.places c.take_out.new.assigned.literals)
    (sym (c.without-self-inside.ensures ∙ ap (λ x. filter (λ (u : StoredUnit). not (eqb u.literal x)) c.self.inside.order.units) c.code.ensures.value))
    (unit_taken c.args.lit c.self.inside.order.units c.self.inside.ids c.forget.new.self c.self.inside.places c.take_out.new.places c.self.inside.assigned.literals c.take_out.new.assigned.literals
    c.self.invariant c.take_out.ensures.assumed c.forget.ensures c.take_out.ensures.placed)

pub returns : goal.returns
returns c = grind (arith, common_steps)

pub returns-then-not-is_unit : goal.returns-then-not-is_unit
returns-then-not-is_unit c = ap (λ us. record c.args.self.now { units = us }) (none_taken c.args.lit c.args.self.now.units (sym c.is_unit.ensures ∙ c.if-not-is_unit.true))
