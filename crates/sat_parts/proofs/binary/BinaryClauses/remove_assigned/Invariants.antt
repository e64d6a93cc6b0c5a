use Rattle.std.proofs.Common.{◌≡◌, ℕ, ◌-◌, ◌/◌, ◌^◌, ◌<◌, ◌≤◌, min, List, [], length, get_or, take}
use Rattle.std.specs.List.{sum_by}
use Rattle.sat_parts.specs.prop.Binaries.{unassigned_among}
use Rattle.sat_parts.specs.prop.Places.{lists_of, ArePlaces}
use Rattle.sat_parts.proofs.binary.BinaryClauses.remove_assigned.Given as goal

abbrev pub invariant-loop-code : goal.invariant-loop-code
invariant-loop-code l = record {
  places : ArePlaces l.self-inside.by_lit.items (length l.self-inside.lits.items);
  size : length l.self-inside.by_lit.items ≡ length l.fn.self.implied;
  end : l.end ≡ length l.fn.self.implied;
  done : (k : ℕ) → k < l.code → get_or (lists_of l.self-inside.by_lit.items l.self-inside.lits.items) k [] ≡ unassigned_among l.assignment.current (k / 2) (get_or l.fn.self.implied k []);
  rest : (k : ℕ) → l.code ≤ k → get_or (lists_of l.self-inside.by_lit.items l.self-inside.lits.items) k [] ≡ get_or l.fn.self.implied k [];
  counted : l.implications ≡ min (sum_by (λ (ls : List ℕ). length ls) (take l.code (lists_of l.self-inside.by_lit.items l.self-inside.lits.items))) (2 ^ 64 - 1);
}
