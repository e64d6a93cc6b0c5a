use Rattle.sat_checker.specs.inner.AssumedRoom.{signed}
use Rattle.sat_hints.proofs.lemmas.Finding.{room_still, refuted_by}
use Rattle.sat_hints.proofs.propagating.conflict_under.Goals as goal

pub follow-requires-clause-room : goal.follow-requires-clause-room
follow-requires-clause-room c = room_still c.args.active.now c.args.assumed.now.room c.assume_all.new.assumed.room c.assume_all.ensures.stays c.requires.room

pub returns-then-not-assume_all-clause-runs : goal.returns-then-not-assume_all-clause-runs
returns-then-not-assume_all-clause-runs c =
    let h = rw c.if-not-assume_all.true at c.assume_all.ensures.assumes in
    refuted_by c.args.active.now (signed c.args.negate c.args.literals.now) c.args.ids.now c.follow.result c.args.assumed.now.room c.assume_all.new.assumed.literals c.requires.room h.0 h.1 c.follow.ensures.follows
