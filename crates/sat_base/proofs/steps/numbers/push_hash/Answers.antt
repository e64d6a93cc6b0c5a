use Rattle.sat_base.proofs.lemmas.steps.Pushing.{number_is_short}
use Rattle.sat_base.proofs.steps.numbers.push_hash.Goals as goal

pub returns-then-number-lt16384-clause-short : goal.returns-then-number-lt16384-clause-short
returns-then-number-lt16384-clause-short g c = number_is_short _ _ c.args.number c.push_one_or_two.ensures.waiting

pub returns-then-number-lt268435456-clause-short : goal.returns-then-number-lt268435456-clause-short
returns-then-number-lt268435456-clause-short g c = number_is_short _ _ c.args.number c.push_three_or_four.ensures.waiting
