use Rattle.std.proofs.Common.{ℕ, ◌≡◌, ◌<◌, ◌≤◌, ◌-◌, length, slice_index_or}
use Rattle.sat_parts.specs.prop.Values.{IsTrueLit}
use Rattle.sat_parts.proofs.parts.assumptions.next_untrue.Given as goal

abbrev pub invariant-loop-assumptions : goal.invariant-loop-assumptions
invariant-loop-assumptions l = record {
  lits : l.assumptions.lits ≡ l.fn.assumptions.lits;
  below : l.assumptions.below ≡ l.fn.assumptions.below;
  within : l.assumptions.place ≤ length l.fn.assumptions.lits.items;
  further : l.fn.assumptions.place ≤ l.assumptions.place;
  passed : (k : ℕ) → l.fn.assumptions.place ≤ k → k < l.assumptions.place → IsTrueLit l.parts.assignment.current (slice_index_or l.fn.assumptions.lits.items k 0);
}

abbrev pub decreases-loop-assumptions : goal.decreases-loop-assumptions
decreases-loop-assumptions l = length l.fn.assumptions.lits.items - l.assumptions.place
