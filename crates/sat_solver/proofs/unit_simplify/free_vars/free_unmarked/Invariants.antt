use Rattle.std.proofs.Common.{◌≡◌, length}
use Rattle.sat_solver.specs.unit_simplify.FreedVars.{freed_below}
use Rattle.sat_solver.proofs.unit_simplify.free_vars.free_unmarked.Given as goal

abbrev pub invariant-loop-index : goal.invariant-loop-index
invariant-loop-index l = record {
  left : freed_below l.used.items l.index l.parts ≡ freed_below l.used.items (length l.used.items) l.fn.parts;
  size : length l.parts.assignment.current ≡ length l.fn.parts.assignment.current;
  queue : length l.parts.vsids.available ≡ length l.fn.parts.vsids.available;
}
