use Rattle.sat_base.proofs.lemmas.text.HeaderPlaces.{says_header}
use Rattle.sat_base.proofs.text.header_token.Goals as goal

pub returns-in-Some-Both : goal.returns-in-Some-Both
returns-in-Some-Both c = let ends = c.ended_in.ensures in says_header c.args.place c.in-Some-Both.vars c.in-Some-Both.clauses (rw (c.in-Some-Both.is, c.in-Some-Both.field-0-is) at ends)
