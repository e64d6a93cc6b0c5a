use Rattle.std.proofs.Common.{ℕ, ◌<◌}
use Rattle.sat_parts.specs.clause.Stored.{lit_of}
use Rattle.sat_parts.specs.prop.Values.{IsTrueLit}
use Rattle.sat_solver.proofs.unit_simplify.clause_status.clause_status_from.Given as goal

abbrev pub invariant-loop-at : goal.invariant-loop-at
invariant-loop-at l = record {
  before : (k : ℕ) → k < l.at → IsTrueLit l.parts.assignment.current (lit_of l.parts.clauses l.cref k) → ⊥;
}
