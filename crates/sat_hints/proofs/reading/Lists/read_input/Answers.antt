use Rattle.sat_hints.proofs.lemmas.Spelling.{input_refused}
use Rattle.sat_hints.proofs.reading.Lists.read_input.Goals as goal

pub returns-in-None-clause-line : goal.returns-in-None-clause-line
returns-in-None-clause-line c = input_refused c.args.bytes.now _ _ c.in-Some.ensures (rw c.in-None.is at c.read_one.ensures.list)
