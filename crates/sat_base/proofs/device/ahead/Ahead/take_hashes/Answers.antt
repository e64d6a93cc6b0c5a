use Rattle.std.proofs.Common.{refl, arith}
use Rattle.sat_base.specs.steps.StepText.{SpellsHash}
use Rattle.sat_base.proofs.lemmas.steps.NumbersAhead.{encoded_shrinks}
use Rattle.sat_base.proofs.lemmas.steps.TakenItems.{taken_more}
use Rattle.sat_base.proofs.device.ahead.Ahead.take_hashes.Goals as goal

pub push_reserved-requires : goal.push_reserved-requires
push_reserved-requires c =
    let s = encoded_shrinks _ c.in-Some.hash c.loop-taken.at c.in-Some.following c.args.self.now (c.in-Some.ensures c.in-Some.hash c.in-Some.following refl) in
    omega (arith, s, c.loop-taken.invariant.room)

pub loop-taken-preserved : goal.loop-taken-preserved
loop-taken-preserved c =
    let n = c.in-Some.ensures c.in-Some.hash c.in-Some.following refl in
    let s = encoded_shrinks _ c.in-Some.hash c.loop-taken.at c.in-Some.following c.args.self.now n in
    let i = c.loop-taken.invariant in
    let p = c.push_reserved.ensures in
    record {
      items = rw p.items (taken_more SpellsHash c.loop-taken.taken _ c.args.hashes.now.items c.loop-taken.hashes.items _ _ n.0 _ i.items n.1 n.2);
      some = omega arith;
      room = omega (arith, s, i.room, p.len, p.capacity);
      capacity = omega (arith, i.capacity, p.capacity);
      left = omega (arith, s, i.left);
      same = i.same;
    }
