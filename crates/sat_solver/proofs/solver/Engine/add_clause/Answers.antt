use Rattle.std.proofs.Common.{◌∙◌, refl, sym}
use Rattle.sat_solver.specs.variables.VariableRoom.{user_vars_in}
use Rattle.sat_solver.proofs.lemmas.variables.RoomLemmas.{said_room}
use Rattle.sat_solver.proofs.lemmas.solver.ComingLemmas.{none_refused, adding_ends}
use Rattle.sat_solver.specs.solver.FailedEngine.{failed_with}
use Rattle.sat_solver.proofs.lemmas.solver.ReportedLemmas.{names_reported}
use Rattle.sat_solver.proofs.solver.Engine.add_clause.Goals as goal

pub returns-in-Err-clause-adds : goal.returns-in-Err-clause-adds
returns-in-Err-clause-adds g c =
    let s = c.args.self.now in
    let room = said_room s.names (user_vars_in c.args.lits.now) c.has_room.result c.has_room.ensures c.if-not-has_room.false in
    rw (c.fail.ensures.error, c.fail.ensures.fails) (adding_ends g.W.CountedWrite.seen c.in-Err.fault s (failed_with c.take.new.self) c.args.lits.now c.if-self.false (c.drat_refuses_clauses.ensures.no c.if-drat_refuses_clauses.false) (none_refused s c.args.lits.now c.leftmost_witness.result c.leftmost_witness.ensures.judged (sym c.is_some.ensures ∙ c.if-is_some.false)) room
    (c.in-Err.ensures.room room) (names_reported g.W.CountedWrite.seen c.in-Err.fault s.context c.take.new.self c.in-Err.ensures.takes.0) c.in-Err.ensures.clock refl)
