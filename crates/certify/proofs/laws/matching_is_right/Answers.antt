use Rattle.sat_checker.specs.matching.ProofChecking.{checker_rules}
use Rattle.certify.proofs.lemmas.laws.ExpectedOutcomes.{matching_right}
use Rattle.sat_checker.proofs.lemmas.matching.CheckerIsSound.{the_checking_sound}
use Rattle.certify.proofs.lemmas.laws.Headlines.{matching_answers}
use Rattle.certify.proofs.laws.matching_is_right.Goals as goal

pub returns-clause-steps : goal.returns-clause-steps
returns-clause-steps c = matching_right checker_rules the_checking_sound

pub returns-clause-texts : goal.returns-clause-texts
returns-clause-texts c = λ reading script answers certificate m. (m.outcomes, m.answered, matching_right checker_rules the_checking_sound (reading script).0 m.outcomes m.steps m.match)

pub returns-clause-answers : goal.returns-clause-answers
returns-clause-answers c = matching_answers
