use Rattle.std.proofs.Common.{refl}
use Rattle.sat_base.proofs.lemmas.steps.NumbersAhead.{encoded_shrinks}
use Rattle.sat_base.proofs.device.ahead.Ahead.take_number.Goals as goal

pub returns-in-Some-clause-left : goal.returns-in-Some-clause-left
returns-in-Some-clause-left c number e =
    encoded_shrinks _ c.in-Some.number c.args.self.now.at c.in-Some.following c.args.self.now (c.in-Some.ensures c.in-Some.number c.in-Some.following refl)
