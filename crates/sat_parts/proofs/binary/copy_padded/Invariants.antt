use Rattle.std.proofs.Common.{◌+◌, ◌≤◌, length, vec_capacity}
use Rattle.sat_parts.specs.prop.Places.{CopiesPadded}
use Rattle.sat_parts.proofs.binary.copy_padded.Given as goal

abbrev pub invariant-loop-free : goal.invariant-loop-free
invariant-loop-free l = record {
  copied : CopiesPadded l.start l.len l._free l.fn.lits.items l.lits.items;
  capacity : length l.fn.lits.items + l.room ≤ vec_capacity l.lits;
}
