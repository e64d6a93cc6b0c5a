use Rattle.std.proofs.Common.{◌∙◌}
use Rattle.sat_checker.proofs.lemmas.store.Times.{room_next}
use Rattle.sat_checker.proofs.store.occurrences.Occurrences.make_room.Goals as goal

pub loop-lit-preserved : goal.loop-lit-preserved
loop-lit-preserved c = record {
  room =
      room_next c.loop-lit.self.counts c.make_room_for.new.self.counts c.args.literals.now c.loop-lit.lit-index c.lit-item.result c.loop-lit-test.true c.lit-item.is c.loop-lit.invariant.room
      c.in_ok-make_room_for.ensures.others c.in_ok-make_room_for.ensures.room;
  same = λ k. c.in_ok-make_room_for.ensures.same k ∙ c.loop-lit.invariant.same k;
}
