use Rattle.std.proofs.Common.{◌≡◌, ◌+◌, ◌-◌, ◌≤◌, ◌++◌, length, take, replicate, vec_capacity}
use Rattle.sat_parts.specs.prop.Places.{no_place}
use Rattle.sat_parts.proofs.binary.resize.Given as goal

abbrev pub invariant-loop-added : goal.invariant-loop-added
invariant-loop-added l = record {
  places : l.places.items ≡ take l.count l.fn.places.items ++ replicate l._added no_place;
  room : length l.places.items + (l.more - l._added) ≤ vec_capacity l.places;
  more : l.more ≡ l.count - length l.fn.places.items;
}
