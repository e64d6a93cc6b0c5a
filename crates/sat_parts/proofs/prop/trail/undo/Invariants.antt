use Rattle.std.proofs.Common.{◌≡◌, drop, length}
use Rattle.sat_parts.specs.prop.Undone.{with_all_available}
use Rattle.sat_parts.proofs.prop.trail.undo.Given as goal

abbrev pub invariant-loop-lit : goal.invariant-loop-lit
invariant-loop-lit l = record {
  available : with_all_available (drop l.lit-index l.lits) l.vsids ≡ with_all_available l.lits l.fn.vsids;
  queue_count : length l.vsids.available ≡ length l.fn.vsids.available;
}
