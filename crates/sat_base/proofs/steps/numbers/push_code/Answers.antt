use Rattle.sat_base.proofs.lemmas.steps.Pushing.{number_is_short}
use Rattle.sat_base.proofs.steps.numbers.push_code.Goals as goal

pub returns-then-number-lt16384-clause-short : goal.returns-then-number-lt16384-clause-short
returns-then-number-lt16384-clause-short g c = number_is_short _ _ c.args.number c.push_one_or_two.ensures.waiting
