use Rattle.std.proofs.Common.{◌∙◌}
use Rattle.sat_checker.proofs.lemmas.store.Units.{contradicted_same}
use Rattle.sat_checker.proofs.units.Units.are_contradicted.Goals as goal

pub returns : goal.returns
returns c = c.has_any_negated.ensures ∙ contradicted_same c.args.self.now.units c.args.literals.now
