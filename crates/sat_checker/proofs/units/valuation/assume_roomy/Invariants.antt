use Rattle.std.proofs.Common.{ℕ, ◌≡◌, ◌||◌, ◌&&◌, drop}
use Rattle.sat_checker.specs.LiteralSets.{is_among}
use Rattle.sat_checker.proofs.units.valuation.assume_roomy.Given as goal

-- every literal that has room is assumed or is among the remaining literals
abbrev pub invariant-loop-lit : goal.invariant-loop-lit
invariant-loop-lit l = record {
  marked : (k : ℕ) → (is_among l.assigned.literals k || (is_among l.fn.assigned.room k && is_among (drop l.lit-index l.literals) k)) ≡ (is_among l.fn.assigned.room k && is_among l.literals k);
  room : l.assigned.room ≡ l.fn.assigned.room;
}
