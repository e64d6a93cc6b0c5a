use Rattle.std.proofs.Common.{◌≡◌, ◌∙◌, ◌++◌, refl, sym, ap}
use Rattle.sat_solver.specs.solver.FailedEngine.{failed_with}
use Rattle.sat_solver.proofs.lemmas.solver.ComingLemmas.{asking_ends, asking_starved, assumed_by, none_refused}
use Rattle.sat_solver.proofs.lemmas.solver.ReportedLemmas.{names_reported}
use Rattle.sat_solver.specs.variables.VariableRoom.{user_vars_in}
use Rattle.sat_solver.proofs.lemmas.variables.RoomLemmas.{said_room}
use Rattle.sat_solver.proofs.solver.Engine.assume.Goals as goal

pub returns-in-Ok-clause-assumes : goal.returns-in-Ok-clause-assumes
returns-in-Ok-clause-assumes g c =
    let s = c.args.self.now in
    let mid = c.ask-asked.new.self in
    let items : c.extend_from_slice-listed.new.self.items ≡ c.args.lits.now = c.in-Ok.ensures.items ∙ ap (λ xs. xs ++ c.args.lits.now) c.clear.ensures.items in
    assumed_by g.W.CountedWrite.seen s mid (record mid { assumed = c.extend_from_slice-listed.new.self }) c.args.lits.now c.if-self.false
    (none_refused s c.args.lits.now c.leftmost_witness.result c.leftmost_witness.ensures.judged (sym c.is_some.ensures ∙ c.if-is_some.false))
    (said_room s.names (user_vars_in c.args.lits.now) c.has_room.result c.has_room.ensures c.if-not-has_room.false)
    c.in_default.ensures.asks c.in_default.ensures.clock refl items

pub returns-in-Err-clause-assumes : goal.returns-in-Err-clause-assumes
returns-in-Err-clause-assumes g c =
    let s = c.args.self.now in
    let mid = c.ask-asked.new.self in
    let failing = record mid { assumed = c.extend_from_slice-listed.new.self } in
    let room = said_room s.names (user_vars_in c.args.lits.now) c.has_room.result c.has_room.ensures c.if-not-has_room.false in
    rw (c.fail.ensures.error, c.fail.ensures.fails) (asking_ends g.W.CountedWrite.seen c.in-Err.fault s (failed_with failing) c.args.lits.now c.if-self.false
    (none_refused s c.args.lits.now c.leftmost_witness.result c.leftmost_witness.ensures.judged (sym c.is_some.ensures ∙ c.if-is_some.false)) room
    (c.in-Err.ensures.room room) (names_reported g.W.CountedWrite.seen c.in-Err.fault s.context failing c.in-Err.ensures.asks.0) c.in-Err.ensures.clock refl)

pub returns-in-Err-listed-clause-assumes : goal.returns-in-Err-listed-clause-assumes
returns-in-Err-listed-clause-assumes g c =
    let s = c.args.self.now in
    let mid = c.ask-asked.new.self in
    rw (c.fail-in-Err-listed.ensures.error, c.fail-in-Err-listed.ensures.fails, c.of.ensures) (asking_starved g.W.CountedWrite.seen s mid (failed_with (record mid { assumed = c.extend_from_slice-listed.new.self })) c.args.lits.now c.if-self.false
    (none_refused s c.args.lits.now c.leftmost_witness.result c.leftmost_witness.ensures.judged (sym c.is_some.ensures ∙ c.if-is_some.false))
    (said_room s.names (user_vars_in c.args.lits.now) c.has_room.result c.has_room.ensures c.if-not-has_room.false)
    (c.requires c.if-self.false).taking
    c.in_default.ensures.asks c.in_default.ensures.clock refl refl refl)
