use Rattle.std.proofs.Common.{ℕ, ◌≡◌, ◌<◌, None, true, false, slice_index_or}
use Rattle.sat_base.specs.values.Literals.{variable}
use Rattle.sat_store.specs.heap.Vsids.{is_available}
use Rattle.sat_checker.specs.LiteralSets.{mentions}
use Rattle.sat_parts.specs.prop.Values.{value_of}
use Rattle.sat_parts.specs.parts.Whole.{SearchStateInvariant}
use Rattle.sat_parts.specs.parts.Frame.{SameClauses, SameState}
use Rattle.sat_solver.proofs.decision.make_all_available.Given as goal

abbrev pub invariant-loop-at : goal.invariant-loop-at
invariant-loop-at l = record {
  holds : SearchStateInvariant l.parts;
  same : SameClauses l.fn.parts l.parts × SameState l.fn.parts l.parts;
  ready : (k : ℕ) → k < l.at → value_of l.fn.parts.assignment.current (variable (slice_index_or l.lits k 0)) ≡ None → is_available l.parts.vsids (variable (slice_index_or l.lits k 0)) ≡ true;
  others : (v : ℕ) → mentions l.lits v ≡ false → is_available l.parts.vsids v ≡ is_available l.fn.parts.vsids v;
}
