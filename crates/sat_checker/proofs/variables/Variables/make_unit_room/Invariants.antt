use Rattle.std.proofs.Common.{ℕ, ◌≡◌, take, map}
use Rattle.sat_base.specs.values.Literals.{variable}
use Rattle.sat_checker.specs.inner.VariablesView.{holder_at, HaveDataRoom, KeepsVariableData}
use Rattle.sat_checker.proofs.variables.Variables.make_unit_room.Given as goal

-- there is room for the units before the index
abbrev pub invariant-loop-unit : goal.invariant-loop-unit
invariant-loop-unit l = record {
  room : HaveDataRoom l.self (map variable (map (λ u. u.0) (take l.unit-index l.units)));
  same : KeepsVariableData l.fn.self l.self;
  holders : (name : ℕ) → holder_at l.self name ≡ holder_at l.fn.self name;
}
