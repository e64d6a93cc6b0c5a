use Rattle.sat_hints.proofs.lemmas.InPlace.{bad_line}
use Rattle.sat_hints.proofs.checking.Checking.hold_rest.Goals as goal

pub returns-in-Some-clause-reads : goal.returns-in-Some-clause-reads
returns-in-Some-clause-reads c = bad_line c.args.self.now c.args.bytes.now c.in-Some.field-0 c.requires.empty c.requires.none c.in-Some.ensures.2
