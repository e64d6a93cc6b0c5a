use Rattle.std.proofs.Common.{◌≡◌, [], drop, length}
use Rattle.sat_parts.specs.declared.parts.SearchState.{SearchState}
use Rattle.sat_parts.specs.parts.Whole.{SearchStateInvariant}
use Rattle.sat_solver.specs.variables.Initialized.{AreVacant, ActivatesIndices}
use Rattle.sat_solver.proofs.variables.initialize.add_indices.Given as goal

abbrev pub invariant-loop-at : goal.invariant-loop-at
invariant-loop-at l = record {
  holds : SearchStateInvariant l.parts;
  bottom : l.parts.trail.starts ≡ [];
  size : length l.parts.assignment.current ≡ length l.fn.parts.assignment.current;
  left : AreVacant l.parts (length l.parts.assignment.current) (drop l.at l.given);
  goes : (q : SearchState) → ActivatesIndices (drop l.at l.given) l.parts q → ActivatesIndices l.given l.fn.parts q;
}
