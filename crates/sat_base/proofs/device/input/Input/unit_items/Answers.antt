use Rattle.std.proofs.lemmas.Grind.{common_steps}
use Rattle.std.proofs.Common.{◌+◌, ◌-◌, refl, arith}
use Rattle.std.proofs.lemmas.Result.{err_from_is_err_and}
use Rattle.sat_base.specs.device.Reading.{source_of}
use Rattle.sat_base.specs.steps.Formats.{Both}
use Rattle.sat_base.specs.steps.StepText.{SpellsLiteral, SpellsHash}
use Rattle.sat_base.proofs.lemmas.steps.StepReads.{one_unit, some_unit}
use Rattle.sat_base.proofs.lemmas.steps.FormatReads.{counted_start, counted_more, counted_fails, counted_all}
use Rattle.sat_base.proofs.device.input.Input.unit_items.Goals as goal

pub loop-init : goal.loop-init
loop-init g c = record {
  counted = counted_start (Both SpellsLiteral SpellsHash) c.args.count (c.args.count - 0) c.args.units.now.items (source_of g.R.CountedRead.seen c.args.self.now) (omega arith) c.requires.empty;
  list = c.requires.list;
  capacity = omega arith;
  within = c.requires.room;
  room = refl;
}

pub returns-in_err-unit-clause-reads : goal.returns-in_err-unit-clause-reads
returns-in_err-unit-clause-reads g c =
    let S = source_of g.R.CountedRead.seen in
    let p = err_from_is_err_and c.from_residual.result c.from_residual.ensures.1 in
    rw (p.1, p.2) (counted_fails (Both SpellsLiteral SpellsHash) one_unit some_unit c.args.count (c.args.count - c.loop.counter) (c.args.count - (c.loop.counter + 1)) c.loop.units.items (S c.args.self.now) (S c.loop.self) (S c.unit_for.new.self) c.in_err-unit.field-0.0 (omega arith) c.in_err-unit.ensures.reads c.loop.invariant.counted)

pub loop-preserved : goal.loop-preserved
loop-preserved g c =
    let S = source_of g.R.CountedRead.seen in
    let n = c.in_ok-unit.ensures in
    record {
      counted = rw (c.push_reserved.ensures.items, n.items.items) (counted_more (Both SpellsLiteral SpellsHash) one_unit c.args.count (c.args.count - c.loop.counter) (c.args.count - (c.loop.counter + 1)) c.loop.units.items c.in_ok-unit.unit (S c.args.self.now) (S c.loop.self) (S c.unit_for.new.self) (omega arith) n.reads c.loop.invariant.counted);
      list = omega (arith, c.push_reserved.ensures.len, c.push_reserved.ensures.capacity, n.items.room);
      capacity = omega (arith, c.push_reserved.ensures.capacity, n.items.capacity, c.loop.invariant.capacity);
      within = omega (arith, n.within.left, c.loop.invariant.room);
      room = omega (arith, n.within.room, c.loop.invariant.room);
    }

pub returns-clause-reads : goal.returns-clause-reads
returns-clause-reads g c = grind (arith, common_steps, counted_all)
