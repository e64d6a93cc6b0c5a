use Rattle.std.proofs.Common.{ℕ, ◌≡◌, drop, map}
use Rattle.sat_base.specs.values.Literals.{variable}
use Rattle.sat_checker.specs.LiteralSets.{is_among}
use Rattle.sat_checker.specs.inner.VariablesView.{variable_at, holder_at, known_if, HaveDataRoom}
use Rattle.sat_checker.proofs.variables.Variables.set_units_known.Given as goal

-- making the variables of the remaining units known gives the final variables
abbrev pub invariant-loop-unit : goal.invariant-loop-unit
invariant-loop-unit l = record {
  room : HaveDataRoom l.self (map variable (map (λ u. u.0) l.units));
  variables : (v : ℕ) → known_if (is_among (map variable (map (λ u. u.0) l.units)) v) (variable_at l.fn.self v) ≡ known_if (is_among (map variable (map (λ u. u.0) (drop l.unit-index l.units))) v) (variable_at l.self v);
  holders : (name : ℕ) → holder_at l.self name ≡ holder_at l.fn.self name;
}
