use Rattle.std.proofs.Common.{◌∙◌, not, ◌&&◌, sym, ap}
use Rattle.sat_checker.specs.inner.ModelTests.{are_all_true}
use Rattle.sat_checker.proofs.lemmas.state.InRoom.{true_agrees}
use Rattle.sat_checker.proofs.lemmas.state.Models.{is_contradicted}
use Rattle.sat_checker.proofs.formula.Formula.is_model.Goals as goal

pub returns-then-not-are_contradicted-clause-reached : goal.returns-then-not-are_contradicted-clause-reached
returns-then-not-are_contradicted-clause-reached c = λ f k.
    c.are_satisfied.ensures.found f k.clauses ∙ true_agrees c.args.self.now.marks.room c.args.self.now.marks.literals c.args.literals.now f.clauses c.requires k.marks
    ∙ sym (ap (λ b. not b && are_all_true c.args.literals.now f.clauses) (ap (is_contradicted c.args.literals.now) (sym k.units) ∙ sym c.are_contradicted.ensures ∙ c.if-not-are_contradicted.true))
