use Rattle.std.proofs.Common.{◌≡◌, length, arith}
use Rattle.std.proofs.lemmas.List.{length-take}
use Rattle.sat_base.proofs.lemmas.device.Room.{some_put}
use Rattle.sat_base.proofs.device.room.PendingRoom.push_some.Goals as goal

pub returns-clause-waiting : goal.returns-clause-waiting
returns-clause-waiting g c =
    let p = c.args.self.now in
    let four : length c.args.bytes ≡ 4 = omega arith in
    some_put p.bytes p.len c.args.count c.args.bytes four c.requires.count (omega (arith, length-take p.len p.bytes, c.requires.room))
