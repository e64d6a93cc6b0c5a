use Rattle.std.proofs.Common.{◌-◌, ◌^◌, ℕ, List, ◌∷◌, [], refl, arith}
use Rattle.std.proofs.lemmas.Result.{err_from_is_err_and}
use Rattle.sat_base.specs.device.Reading.{source_of}
use Rattle.sat_base.specs.steps.StepText.{SpellsHash}
use Rattle.sat_base.proofs.lemmas.steps.Numbers.{one_below, some_below}
use Rattle.sat_base.proofs.lemmas.steps.FormatReads.{counted_start, counted_more, counted_fails, counted_all}
use Rattle.sat_base.proofs.lemmas.steps.TakenItems.{counted_taken}
use Rattle.sat_base.proofs.device.input.Input.hash_items.Goals as goal

pub loop-left-init : goal.loop-left-init
loop-left-init g c = record {
  counted = counted_start SpellsHash c.args.count c.args.count c.args.hashes.now.items (source_of g.R.CountedRead.seen c.args.self.now) refl c.requires.empty;
  list = c.requires.list;
  capacity = omega arith;
  within = c.requires.room;
  room = refl;
}

pub loop-left-preserved-then-taken-gt0 : goal.loop-left-preserved-then-taken-gt0
loop-left-preserved-then-taken-gt0 g c =
    let S = source_of g.R.CountedRead.seen in
    let i = c.loop-left.self in
    let names : List ℕ = i.reader.ghost_name ∷ i.ahead.ghost_name ∷ [] in
    let t = c.take_hashes-taken in
    record {
      counted = counted_taken SpellsHash (one_below (2 ^ 64)) c.args.count c.loop-left.left t.result c.loop-left.hashes.items t.new.hashes.items (S c.args.self.now) (g.R.CountedRead.seen i.reader.now) names i.ahead.now t.new.self t.ensures.takes c.loop-left.invariant.counted;
      list = t.ensures.room;
      capacity = omega (arith, t.ensures.capacity, c.loop-left.invariant.capacity);
      within = omega (arith, t.ensures.left, c.loop-left.invariant.within);
      room = c.loop-left.invariant.room;
    }

pub returns-in_err-hash-clause-reads : goal.returns-in_err-hash-clause-reads
returns-in_err-hash-clause-reads g c =
    let S = source_of g.R.CountedRead.seen in
    let i = c.loop-left.self in
    let names : List ℕ = i.reader.ghost_name ∷ i.ahead.ghost_name ∷ [] in
    let t = c.take_hashes-taken in
    let k = counted_taken SpellsHash (one_below (2 ^ 64)) c.args.count c.loop-left.left t.result c.loop-left.hashes.items t.new.hashes.items (S c.args.self.now) (g.R.CountedRead.seen i.reader.now) names i.ahead.now t.new.self t.ensures.takes c.loop-left.invariant.counted in
    let p = err_from_is_err_and c.from_residual.result c.from_residual.ensures.1 in
    rw (p.1, p.2) (counted_fails SpellsHash (one_below (2 ^ 64)) (some_below (2 ^ 64) (omega arith)) c.args.count (c.loop-left.left - t.result) ((c.loop-left.left - t.result) - 1) t.new.hashes.items (S c.args.self.now) _ (S c.hash_for.new.self) c.in_err-hash.field-0.0 (omega (arith, c.if-taken-gt0.false, c.loop-left-test.true)) c.in_err-hash.ensures.reads k)

pub loop-left-preserved : goal.loop-left-preserved
loop-left-preserved g c =
    let S = source_of g.R.CountedRead.seen in
    let i = c.loop-left.self in
    let names : List ℕ = i.reader.ghost_name ∷ i.ahead.ghost_name ∷ [] in
    let t = c.take_hashes-taken in
    let k = counted_taken SpellsHash (one_below (2 ^ 64)) c.args.count c.loop-left.left t.result c.loop-left.hashes.items t.new.hashes.items (S c.args.self.now) (g.R.CountedRead.seen i.reader.now) names i.ahead.now t.new.self t.ensures.takes c.loop-left.invariant.counted in
    let n = c.in_ok-hash.ensures in
    record {
      counted = rw (c.push_reserved.ensures.items, n.items.items) (counted_more SpellsHash (one_below (2 ^ 64)) c.args.count (c.loop-left.left - t.result) ((c.loop-left.left - t.result) - 1) t.new.hashes.items c.in_ok-hash.hash (S c.args.self.now) _ (S c.hash_for.new.self) (omega (arith, c.if-taken-gt0.false, c.loop-left-test.true)) n.reads k);
      list = omega (arith, c.push_reserved.ensures.len, c.push_reserved.ensures.capacity, n.items.room);
      capacity = omega (arith, c.push_reserved.ensures.capacity, n.items.capacity, t.ensures.capacity, c.loop-left.invariant.capacity);
      within = omega (arith, n.within.left, c.loop-left.invariant.room);
      room = omega (arith, n.within.room, c.loop-left.invariant.room);
    }

pub returns-clause-reads : goal.returns-clause-reads
returns-clause-reads g c = counted_all SpellsHash c.args.count c.loop-left.left c.loop-left.hashes.items _ _ (omega (arith, c.loop-left-test.false)) c.loop-left.invariant.counted
