use Rattle.certify.proofs.lemmas.answers.NamesAndWords.{starts_no_negative, starts_no_positive}
use Rattle.certify.proofs.answers.read.begins_literal.Goals as goal

pub returns-in-Some : goal.returns-in-Some
returns-in-Some c = λ no. starts_no_negative c.args.bytes.now c.in-Some.following.now c.in-Some.ensures (c.begins_name.ensures no)

pub returns-in-None : goal.returns-in-None
returns-in-None c = λ no. starts_no_positive c.args.bytes.now c.in-None.ensures (c.begins_name-in-None.ensures no)
