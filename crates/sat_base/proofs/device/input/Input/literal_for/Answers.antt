use Rattle.std.proofs.Common.{◌+◌, ◌≤◌, [], refl, arith}
use Rattle.std.specs.Prelude.{vec_len, vec_capacity}
use Rattle.sat_base.specs.device.ReadRoom.{unread_in}
use Rattle.sat_base.specs.device.Reading.{source_of}
use Rattle.sat_base.specs.steps.StepText.{SpellsLiteral}
use Rattle.sat_base.proofs.lemmas.device.ReadLemmas.{none_waits}
use Rattle.sat_base.proofs.lemmas.device.RoomLemmas.{none_read, on_ok}
use Rattle.sat_base.proofs.device.input.Input.literal_for.Goals as goal

pub returns-then-most-eq0-clause-reads : goal.returns-then-most-eq0-clause-reads
returns-then-most-eq0-clause-reads g c =
    let a = c.args.self.now.ahead.now in
    none_read SpellsLiteral (source_of g.R.CountedRead.seen c.args.self.now) (none_waits a.at a.end a.piece (omega (arith, c.requires.room.fits, c.room_for-most.ensures.least, c.if-most-eq0.true))) (0, 0, [], ((omega arith, refl), omega arith))

pub returns-clause-items : goal.returns-clause-items
returns-clause-items g c =
    let r = c.room_for-most.ensures in
    let w = c.literal-lit.ensures.within in
    let l = c.room_for-most.new.list in
    let n = unread_in c.literal-lit.new.self in
    record { items = r.items; len = r.len; capacity = r.capacity; room = on_ok _ (vec_len l + (n + 1) ≤ vec_capacity l) (omega (arith, r.room, w.left)) }
