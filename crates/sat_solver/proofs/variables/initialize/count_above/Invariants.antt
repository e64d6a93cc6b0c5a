use Rattle.std.proofs.Common.{ℕ, ◌<◌, ◌≤◌, drop}
use Rattle.std.specs.List.{AllByRecursion}
use Rattle.sat_base.specs.values.Literals.{var_limit}
use Rattle.sat_solver.proofs.variables.initialize.count_above.Given as goal

abbrev pub invariant-loop-at : goal.invariant-loop-at
invariant-loop-at l = record {
  few : l.all ≤ var_limit;
  more : l.fn.count ≤ l.all;
  least : (m : ℕ) → l.fn.count ≤ m → AllByRecursion (λ g. g.solver < m) l.given → (l.all ≤ m) × AllByRecursion (λ g. g.solver < m) (drop l.at l.given);
  goes : (n : ℕ) → l.all ≤ n → AllByRecursion (λ g. g.solver < n) (drop l.at l.given) → AllByRecursion (λ g. g.solver < n) l.given;
}
