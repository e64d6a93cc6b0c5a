use Rattle.certify.proofs.lemmas.run.Served.{serves_then}
use Rattle.certify.proofs.lemmas.run.ServedOnce.{serves_plain, serves_ask}
use Rattle.certify.proofs.laws.commands.commands_are_served.Goals as goal

pub returns-clause-composes : goal.returns-clause-composes
returns-clause-composes c = serves_then

pub returns-clause-plain : goal.returns-clause-plain
returns-clause-plain c = serves_plain

pub returns-clause-asked : goal.returns-clause-asked
returns-clause-asked c = serves_ask
