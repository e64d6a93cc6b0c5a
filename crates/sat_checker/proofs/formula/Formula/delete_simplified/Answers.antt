use Rattle.std.proofs.Common.{arith}
use Rattle.std.proofs.lemmas.Grind.{common_steps}
use Rattle.std.proofs.Common.{sym, subst}
use Rattle.sat_checker.specs.Storing.{last_literals}
use Rattle.sat_checker.specs.inner.Marks.{IsIncreasing}
use Rattle.sat_checker.proofs.lemmas.sets.Canonical.{canonical_increasing}
use Rattle.sat_checker.proofs.lemmas.state.Keeping.{strict_on, strict_back}
use Rattle.sat_checker.proofs.lemmas.state.Units.{match_on}
use Rattle.sat_checker.proofs.lemmas.variables.Keeping.{match_true, match_false}
use Rattle.sat_checker.proofs.formula.Formula.delete_simplified.Goals as goal

pub has_last_within-requires : goal.has_last_within-requires
has_last_within-requires c = subst IsIncreasing (sym c.requires) (canonical_increasing c.args.clause.now)

pub returns-then-not-has_last_within-clause-decides : goal.returns-then-not-has_last_within-clause-decides
returns-then-not-has_last_within-clause-decides c = λ f k q.
    match_false _ _ _ (c.has_last_within.ensures.part f k) c.if-not-has_last_within.true (strict_on (last_literals f.last f) c.args.clause.now c.args.literals.now c.requires q.1)

pub returns-clause-decides : goal.returns-clause-decides
returns-clause-decides c = grind (arith, common_steps, strict_back, match_on, match_true)
