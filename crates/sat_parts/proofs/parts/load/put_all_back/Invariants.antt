use Rattle.std.proofs.Common.{ℕ, ◌≡◌, ◌≤◌, ◌<◌, length, slice_index_or, []}
use Rattle.sat_base.specs.values.Literals.{negated}
use Rattle.sat_parts.specs.prop.State.{HasLeftQueue}
use Rattle.sat_parts.specs.prop.Values.{value_of}
use Rattle.sat_parts.specs.parts.Whole.{state, SearchStateInvariant}
use Rattle.sat_parts.specs.parts.Frame.{AddsNoUnit, SameClauses}
use Rattle.sat_parts.proofs.parts.load.put_all_back.Given as goal

abbrev pub invariant-loop-at : goal.invariant-loop-at
invariant-loop-at l = record {
  holds : SearchStateInvariant l.parts;
  bottom : l.parts.trail.starts ≡ [];
  values : (v : ℕ) → value_of l.parts.assignment.current v ≡ value_of l.fn.parts.assignment.current v;
  size : length l.parts.assignment.current ≡ length l.fn.parts.assignment.current;
  queue : l.parts.vsids ≡ l.fn.parts.vsids;
  same : SameClauses l.fn.parts l.parts;
  carries : AddsNoUnit (state l.fn.parts) (state l.parts);
  fresh : (k : ℕ) → l.kept ≤ k → k < l.at → HasLeftQueue (state l.parts) (negated (slice_index_or l.lits k 0)) → ⊥;
}
