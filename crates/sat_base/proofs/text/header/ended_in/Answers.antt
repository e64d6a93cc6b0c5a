use Rattle.sat_base.proofs.lemmas.text.HeaderPlaces.{ended_vars, ended_clauses}
use Rattle.sat_base.proofs.text.header.ended_in.Goals as goal

pub returns-in-Vars : goal.returns-in-Vars
returns-in-Vars c = rw c.in-Vars.is (ended_vars c.in-Vars.value)

pub returns-in-Clauses : goal.returns-in-Clauses
returns-in-Clauses c = rw c.in-Clauses.is (ended_clauses c.in-Clauses.vars c.in-Clauses.value)
