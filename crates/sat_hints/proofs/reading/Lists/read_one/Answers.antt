use Rattle.sat_hints.proofs.lemmas.Spelling.{one_answer}
use Rattle.sat_hints.proofs.reading.Lists.read_one.Goals as goal

pub returns-clause-list : goal.returns-clause-list
returns-clause-list c = one_answer c.take_text.result c.args.bytes.now _ _ c.read_literals-rest.ensures.words c.take_text.ensures
