use Rattle.sat_checker.proofs.lemmas.meaning.OrderlySteps.{empty_is_given}
use Rattle.sat_checker.proofs.laws.last_id_was_given.Goals as goal

pub returns : goal.returns
returns c = empty_is_given
