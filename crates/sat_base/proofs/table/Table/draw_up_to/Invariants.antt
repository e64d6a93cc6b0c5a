use Rattle.std.proofs.Common.{◌≡◌, length}
use Rattle.sat_base.specs.values.Tables.{KeepsRoom, KeepsValues}
use Rattle.sat_base.proofs.table.Table.draw_up_to.Given as goal

-- the places so far are in the near list, and no value changed
abbrev pub invariant-loop-next : goal.invariant-loop-next
invariant-loop-next g l = record {
  near : length l.self.near.items ≡ l.next;
  others : KeepsRoom l.fn.self l.self;
  same : KeepsValues l.missing l.fn.self l.self;
}
