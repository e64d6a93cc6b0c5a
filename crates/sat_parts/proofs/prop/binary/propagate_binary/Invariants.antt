use Rattle.std.proofs.Common.{◌≡◌, length}
use Rattle.sat_parts.specs.prop.Ready.{state_of}
use Rattle.sat_parts.specs.prop.Walk.{BinaryWalkInvariant}
use Rattle.sat_parts.proofs.prop.binary.propagate_binary.Given as goal

abbrev pub invariant-loop-implied : goal.invariant-loop-implied
invariant-loop-implied l = record {
  walk : BinaryWalkInvariant l.binary.implied l.fn.lit (state_of l.fn.assignment l.fn.graph l.fn.trail) (state_of l.assignment l.graph l.trail) l.implied-index;
  size : length l.assignment.current ≡ length l.fn.assignment.current;
  last : l.assignment.last ≡ l.fn.assignment.last;
}
