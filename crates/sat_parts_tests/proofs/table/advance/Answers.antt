use Rattle.std.proofs.Common.{◌+◌, length, arith}
use Rattle.sat_parts.specs.parts.Whole.{SearchStateInvariantBelow}
use Rattle.sat_parts_tests.proofs.table.advance.Goals as goal

pub returns-in-Ok-clause-holds : goal.returns-in-Ok-clause-holds
returns-in-Ok-clause-holds c = λ yes.
    let a = c.in_ok-assume.ensures in
    let x = c.in_ok-propagate_all.ensures in
    let p = c.propagate_all.new.parts in
    let below : SearchStateInvariantBelow (length p.trail.starts + 1) p = rw c.in-Ok.is at x.holds in
    record {
      below = below;
      units = x.units (omega (arith, a.deeper)) a.holds.units;
      base = x.base (omega (arith, a.deeper)) a.holds.base;
    }
