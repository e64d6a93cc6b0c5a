use Rattle.std.proofs.Common.{drop}
use Rattle.sat_solver.specs.load.Literals.{HaveNoWitness}
use Rattle.sat_solver.proofs.lemmas.variables.Refusals.{IsLeft}
use Rattle.sat_solver.proofs.variables.refuse.leftmost_witness.Given as goal

abbrev pub invariant-loop-lit : goal.invariant-loop-lit
invariant-loop-lit l = IsLeft l.variables l.lits (drop l.lit-index l.lits) × (HaveNoWitness l.variables (drop l.lit-index l.lits) → HaveNoWitness l.variables l.lits)
