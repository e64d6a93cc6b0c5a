use Rattle.std.proofs.Common.{◌≡◌, ◌-◌, vec_capacity}
use Rattle.sat_parts.specs.prop.Places.{CopiesPadded}
use Rattle.sat_parts.proofs.binary.push_part.Given as goal

abbrev pub invariant-loop-at : goal.invariant-loop-at
invariant-loop-at l = record {
  copied : CopiesPadded l.start (l.at - l.start) (l.at - l.start) l.fn.lits.items l.lits.items;
  capacity : vec_capacity l.lits ≡ vec_capacity l.fn.lits;
}
