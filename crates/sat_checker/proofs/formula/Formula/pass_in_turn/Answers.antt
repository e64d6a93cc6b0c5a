use Rattle.sat_checker.proofs.lemmas.state.Checks.{short_as}
use Rattle.sat_checker.proofs.formula.Formula.pass_in_turn.Goals as goal

pub returns-clause-short : goal.returns-clause-short
returns-clause-short c = short_as c.pass_in_turn.result c.args.self.now c.pass_in_turn.ensures.short
