use Rattle.std.proofs.Common.{◌≡◌, drop, take}
use Rattle.std.proofs.lemmas.List.Filters.{FiltersInPlace}
use Rattle.sat_base.specs.values.Literals.{variable}
use Rattle.sat_parts.specs.prop.Values.{is_unassigned_var}
use Rattle.sat_parts.proofs.binary.open_part.Given as goal

abbrev pub invariant-loop-at : goal.invariant-loop-at
invariant-loop-at l = record {
  kept : FiltersInPlace (λ x. is_unassigned_var l.assignment.current (variable x)) (drop l.start l.fn.lits.items) (drop l.start l.lits.items) l.left l.at;
  front : take l.start l.lits.items ≡ take l.start l.fn.lits.items;
}
