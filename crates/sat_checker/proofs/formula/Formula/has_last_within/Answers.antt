use Rattle.std.proofs.Common.{arith}
use Rattle.std.proofs.lemmas.Grind.{common_steps}
use Rattle.std.proofs.Common.{◌∙◌, subst}
use Rattle.sat_checker.specs.Accepts.{IsStrictSubset}
use Rattle.sat_checker.proofs.lemmas.formula.Numbering.{id_reached, id_missed, single_is, single_none, strict_same, strict_part}
use Rattle.sat_checker.proofs.formula.Formula.has_last_within.Goals as goal

pub returns-then-ne-clause-part : goal.returns-then-ne-clause-part
returns-then-ne-clause-part c = λ f k h.
    subst (λ o. IsStrictSubset o c.args.literals.now) (single_none c.args.self.now f k c.in-Single.id c.in-Single.lit c.in-Single.is (λ u. id_missed c.id.result c.in-Single.id c.if-ne.ensures (c.id.ensures ∙ u))) h

pub returns-else-ne-clause-part : goal.returns-else-ne-clause-part
returns-else-ne-clause-part c = grind (arith, common_steps, id_reached, single_is, strict_same, strict_part)
