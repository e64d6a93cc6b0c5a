use Rattle.std.proofs.Common.{drop}
use Rattle.sat_checker.specs.inner.VariablesView.{AreSampling}
use Rattle.sat_checker.proofs.variables.Variables.are_sampling.Given as goal

-- the result depends only on the remaining literals
abbrev pub invariant-loop-lit : goal.invariant-loop-lit
invariant-loop-lit l = record {
  on : AreSampling l.self (drop l.lit-index l.literals) → AreSampling l.self l.literals;
  back : AreSampling l.self l.literals → AreSampling l.self (drop l.lit-index l.literals);
}
