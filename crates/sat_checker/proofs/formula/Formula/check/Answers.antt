use Rattle.sat_checker.specs.inner.AssumedRoom.{signed}
use Rattle.sat_checker.proofs.lemmas.state.Checks.{checked_as, short_as}
use Rattle.sat_checker.proofs.formula.Formula.check.Goals as goal

pub returns-clause-exact : goal.returns-clause-exact
returns-clause-exact c = checked_as c.check_clause.result c.args.self.now (signed c.args.negate c.args.literals.now) c.args.hashes.now c.check_clause.ensures.exact

pub returns-clause-short : goal.returns-clause-short
returns-clause-short c = short_as c.check_clause.result c.args.self.now c.check_clause.ensures.short
