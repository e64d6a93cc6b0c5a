use Rattle.std.proofs.Common.{ℕ, ◌≡◌, length, false, None}
use Rattle.std.specs.Prelude.{count_by}
use Rattle.sat_store.specs.heap.Vsids.{is_available}
use Rattle.sat_parts.specs.prop.Values.{value_of}
use Rattle.sat_parts.proofs.parts.steps.pick.Given as goal

abbrev pub invariant-loop-var : goal.invariant-loop-var
invariant-loop-var l = record {
  size : length l.vsids.available ≡ length l.fn.vsids.available;
  kept : (u : ℕ) → value_of l.assignment.current u ≡ None → is_available l.vsids u ≡ is_available l.fn.vsids u;
  fewer : (u : ℕ) → is_available l.fn.vsids u ≡ false → is_available l.vsids u ≡ false;
}

abbrev pub decreases-loop-var : goal.decreases-loop-var
decreases-loop-var l = count_by (λ b. b) l.vsids.available
