use Rattle.std.proofs.Common.{◌∙◌, sym, ap, map}
use Rattle.sat_checker.specs.LiteralSets.{is_among}
use Rattle.sat_checker.proofs.lemmas.formula.Storing.{unit_stored}
use Rattle.sat_checker.proofs.formula.Formula.store_unit_clause.Goals as goal

pub returns-clause-stored : goal.returns-clause-stored
returns-clause-stored c = λ f k.
    unit_stored c.args.self.now f c.args.lit c.in_ok-id.id c.push.new.self c.take_id.new.self k (sym c.is_unit.ensures ∙ c.if-is_unit.false)
    (ap (is_among (map (λ u. u.literal) c.args.self.now.units.units)) (sym c.not.ensures) ∙ sym c.is_unit-2.ensures ∙ c.if-is_unit-2.false) c.in_ok-push.ensures.ok c.in_ok-id.ensures.taken
