use Rattle.std.proofs.Common.{◌≡◌, ◌≤◌, drop, max}
use Rattle.sat_base.specs.values.Literals.{var_limit}
use Rattle.sat_base.specs.values.Formulas.{clause_var_count}
use Rattle.sat_base.proofs.formula.vars_in.Given as goal

abbrev pub invariant-loop-lit : goal.invariant-loop-lit
invariant-loop-lit l = (max l.count (clause_var_count (drop l.lit-index l.lits)) ≡ clause_var_count l.lits) × (l.count ≤ var_limit)
