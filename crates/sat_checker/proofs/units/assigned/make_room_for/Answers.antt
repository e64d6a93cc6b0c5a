use Rattle.std.proofs.Common.{◌+◌, ◌≡◌, ◌∙◌, true, ◌∷◌, drop, sym, ap, subst}
use Rattle.std.proofs.lemmas.List.{drop_more, drop_all}
use Rattle.sat_base.specs.values.Literals.{negated}
use Rattle.sat_checker.specs.LiteralSets.{is_among}
use Rattle.sat_checker.specs.inner.AssumedRoom.{LiteralsAndRoom, HasClauseRoom, RoomIsKept}
use Rattle.sat_checker.proofs.lemmas.sets.Rooms.{room_stays, room_there, stays_further}
use Rattle.sat_checker.proofs.units.assigned.make_room_for.Goals as goal

pub loop-lit-preserved : goal.loop-lit-preserved
loop-lit-preserved c =
    let x = c.lit-item.result in
    let i = c.loop-lit.lit-index in
    let old = c.loop-lit.assigned in
    let new = c.make_room.new.self in
    let all = ap (λ (t : LiteralsAndRoom). t.room) c.in_ok-make_room.ensures.ok in
    let more : RoomIsKept old.room new.room = subst (RoomIsKept old.room) (sym all) (room_stays x old.room) in
    let there : is_among new.room x ≡ true = subst (λ r. is_among r x ≡ true) (sym all) (room_there x old.room) in
    record {
      room = λ room stays h.
          c.loop-lit.invariant.room room (stays_further old.room new.room room more stays)
          (subst (HasClauseRoom room) (sym (drop_more c.args.clause.now i x c.loop-lit-test.true ∙ ap (λ y. y ∷ drop (i + 1) c.args.clause.now) (sym c.lit-item.is))) ((stays x there, stays (negated x) (sym (c.are_in_room.ensures.paired x) ∙ there)), h));
      literals = ap (λ (t : LiteralsAndRoom). t.literals) c.in_ok-make_room.ensures.ok ∙ c.loop-lit.invariant.literals;
      stays = stays_further c.args.assigned.now.room old.room new.room c.loop-lit.invariant.stays more;
    }

pub returns-clause-room : goal.returns-clause-room
returns-clause-room c =
    let room = c.loop-lit.assigned.room in
    c.loop-lit.invariant.room room (λ l h. h) (subst (HasClauseRoom room) (sym (drop_all c.loop-lit.lit-index c.args.clause.now c.loop-lit-test.false)) tt)
