use Rattle.std.proofs.Common.{◌∙◌, sym}
use Rattle.sat_checker.proofs.lemmas.formula.Storing.{single_noted, single_passed}
use Rattle.sat_checker.proofs.formula.Formula.store_single.Goals as goal

pub returns-in-Some-clause-stored : goal.returns-in-Some-clause-stored
returns-in-Some-clause-stored c = λ f k. single_noted c.store_unit_clause.new.self c.args.redundant c.args.lit c.in-Some.id f c.if-redundant.false (c.in_ok-store_unit_clause.ensures.stored f k) (sym c.id.ensures ∙ c.in-Some.is)

pub returns-in_default-clause-stored : goal.returns-in_default-clause-stored
returns-in_default-clause-stored c = λ f k. single_passed c.store_unit_clause.new.self c.args.redundant c.args.lit f c.if-redundant.false (c.in_ok-store_unit_clause.ensures.stored f k) (sym c.id.ensures ∙ c.in_default.is)
