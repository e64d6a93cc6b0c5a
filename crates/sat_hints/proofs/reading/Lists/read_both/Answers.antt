use Rattle.sat_hints.proofs.lemmas.Spelling.{both_answer, both_no_middle}
use Rattle.sat_hints.proofs.reading.Lists.read_both.Goals as goal

pub returns-in_default-clause-lists : goal.returns-in_default-clause-lists
returns-in_default-clause-lists c = both_no_middle c.args.bytes.now _ _ c.read_literals-rest.ensures.words c.in_default.ensures

pub returns-clause-lists : goal.returns-clause-lists
returns-clause-lists c = both_answer c.take_text-2.result c.args.bytes.now _ _ _ _ _ c.read_literals-rest.ensures.words c.in-Some.ensures c.read_ids-rest.ensures.words c.take_text-2.ensures
