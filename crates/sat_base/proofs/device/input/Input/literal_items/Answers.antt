use Rattle.std.proofs.Common.{◌-◌, ◌*◌, ℕ, List, ◌∷◌, [], refl, arith}
use Rattle.std.proofs.lemmas.Result.{err_from_is_err_and}
use Rattle.sat_base.specs.values.Literals.{var_limit}
use Rattle.sat_base.specs.device.Reading.{source_of}
use Rattle.sat_base.specs.steps.StepText.{SpellsLiteral}
use Rattle.sat_base.proofs.lemmas.steps.Numbers.{one_below, some_below}
use Rattle.sat_base.proofs.lemmas.steps.FormatReads.{counted_start, counted_more, counted_fails, counted_all}
use Rattle.sat_base.proofs.lemmas.steps.TakenItems.{counted_taken}
use Rattle.sat_base.proofs.device.input.Input.literal_items.Goals as goal

pub loop-left-init : goal.loop-left-init
loop-left-init g c = record {
  counted = counted_start SpellsLiteral c.args.count c.args.count c.args.lits.now.items (source_of g.R.CountedRead.seen c.args.self.now) refl c.requires.empty;
  list = c.requires.list;
  capacity = omega arith;
  within = c.requires.room;
  room = refl;
}

pub loop-left-preserved-then-taken-gt0 : goal.loop-left-preserved-then-taken-gt0
loop-left-preserved-then-taken-gt0 g c =
    let S = source_of g.R.CountedRead.seen in
    let i = c.loop-left.self in
    let names : List ℕ = i.reader.ghost_name ∷ i.ahead.ghost_name ∷ [] in
    let t = c.take_literals-taken in
    record {
      counted = counted_taken SpellsLiteral (one_below (2 * var_limit)) c.args.count c.loop-left.left t.result c.loop-left.lits.items t.new.lits.items (S c.args.self.now) (g.R.CountedRead.seen i.reader.now) names i.ahead.now t.new.self t.ensures.takes c.loop-left.invariant.counted;
      list = t.ensures.room;
      capacity = omega (arith, t.ensures.capacity, c.loop-left.invariant.capacity);
      within = omega (arith, t.ensures.left, c.loop-left.invariant.within);
      room = c.loop-left.invariant.room;
    }

pub returns-in_err-lit-clause-reads : goal.returns-in_err-lit-clause-reads
returns-in_err-lit-clause-reads g c =
    let S = source_of g.R.CountedRead.seen in
    let i = c.loop-left.self in
    let names : List ℕ = i.reader.ghost_name ∷ i.ahead.ghost_name ∷ [] in
    let t = c.take_literals-taken in
    let k = counted_taken SpellsLiteral (one_below (2 * var_limit)) c.args.count c.loop-left.left t.result c.loop-left.lits.items t.new.lits.items (S c.args.self.now) (g.R.CountedRead.seen i.reader.now) names i.ahead.now t.new.self t.ensures.takes c.loop-left.invariant.counted in
    let p = err_from_is_err_and c.from_residual.result c.from_residual.ensures.1 in
    rw (p.1, p.2) (counted_fails SpellsLiteral (one_below (2 * var_limit)) (some_below (2 * var_limit) (omega arith)) c.args.count (c.loop-left.left - t.result) ((c.loop-left.left - t.result) - 1) t.new.lits.items (S c.args.self.now) _ (S c.literal_for.new.self) c.in_err-lit.field-0.0 (omega (arith, c.if-taken-gt0.false, c.loop-left-test.true)) c.in_err-lit.ensures.reads k)

pub loop-left-preserved : goal.loop-left-preserved
loop-left-preserved g c =
    let S = source_of g.R.CountedRead.seen in
    let i = c.loop-left.self in
    let names : List ℕ = i.reader.ghost_name ∷ i.ahead.ghost_name ∷ [] in
    let t = c.take_literals-taken in
    let k = counted_taken SpellsLiteral (one_below (2 * var_limit)) c.args.count c.loop-left.left t.result c.loop-left.lits.items t.new.lits.items (S c.args.self.now) (g.R.CountedRead.seen i.reader.now) names i.ahead.now t.new.self t.ensures.takes c.loop-left.invariant.counted in
    let n = c.in_ok-lit.ensures in
    record {
      counted = rw (c.push_reserved.ensures.items, n.items.items) (counted_more SpellsLiteral (one_below (2 * var_limit)) c.args.count (c.loop-left.left - t.result) ((c.loop-left.left - t.result) - 1) t.new.lits.items c.in_ok-lit.lit (S c.args.self.now) _ (S c.literal_for.new.self) (omega (arith, c.if-taken-gt0.false, c.loop-left-test.true)) n.reads k);
      list = omega (arith, c.push_reserved.ensures.len, c.push_reserved.ensures.capacity, n.items.room);
      capacity = omega (arith, c.push_reserved.ensures.capacity, n.items.capacity, t.ensures.capacity, c.loop-left.invariant.capacity);
      within = omega (arith, n.within.left, c.loop-left.invariant.room);
      room = omega (arith, n.within.room, c.loop-left.invariant.room);
    }

pub returns-clause-reads : goal.returns-clause-reads
returns-clause-reads g c = counted_all SpellsLiteral c.args.count c.loop-left.left c.loop-left.lits.items _ _ (omega (arith, c.loop-left-test.false)) c.loop-left.invariant.counted
