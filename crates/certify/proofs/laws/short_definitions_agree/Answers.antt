use Rattle.certify.proofs.lemmas.answers.ShortEvents.{same_answers, right_by_events}
use Rattle.certify.proofs.lemmas.answers.ShortReading.{says_the_same}
use Rattle.certify.proofs.lemmas.laws.Headlines.{right_by_outcomes, same_matches, same_reports}
use Rattle.certify.proofs.laws.short_definitions_agree.Goals as goal

pub returns-clause-script : goal.returns-clause-script
returns-clause-script c = says_the_same

pub returns-clause-answers : goal.returns-clause-answers
returns-clause-answers c = same_answers

pub returns-clause-events : goal.returns-clause-events
returns-clause-events c = right_by_events

pub returns-clause-right : goal.returns-clause-right
returns-clause-right c = right_by_outcomes

pub returns-clause-matching : goal.returns-clause-matching
returns-clause-matching c = same_matches

pub returns-clause-reports : goal.returns-clause-reports
returns-clause-reports c = same_reports
