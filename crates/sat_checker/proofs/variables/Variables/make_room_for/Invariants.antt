use Rattle.std.proofs.Common.{ℕ, ◌≡◌, take, map}
use Rattle.sat_base.specs.values.Literals.{variable}
use Rattle.sat_checker.specs.inner.VariablesView.{holder_at, HaveDataRoom, KeepsVariableData}
use Rattle.sat_checker.proofs.variables.Variables.make_room_for.Given as goal

-- there is room for the literals before the index
abbrev pub invariant-loop-lit : goal.invariant-loop-lit
invariant-loop-lit l = record {
  room : HaveDataRoom l.self (map variable (take l.lit-index l.literals));
  same : KeepsVariableData l.fn.self l.self;
  holders : (name : ℕ) → holder_at l.self name ≡ holder_at l.fn.self name;
}
