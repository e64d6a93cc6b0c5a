use Rattle.std.proofs.Common.{ℕ, ◌≡◌, drop, map}
use Rattle.sat_base.specs.values.Literals.{variable}
use Rattle.sat_checker.specs.LiteralSets.{is_among}
use Rattle.sat_checker.specs.inner.VariablesView.{variable_at, known_if}
use Rattle.sat_checker.proofs.variables.Variables.are_near_known.Given as goal

-- the result depends only on the remaining literals
abbrev pub invariant-loop-lit : goal.invariant-loop-lit
invariant-loop-lit l = (v : ℕ) → known_if (is_among (map variable l.literals) v) (variable_at l.self v) ≡ known_if (is_among (map variable (drop l.lit-index l.literals)) v) (variable_at l.self v)
