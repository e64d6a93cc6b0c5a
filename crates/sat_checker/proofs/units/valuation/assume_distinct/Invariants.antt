use Rattle.std.proofs.Common.{◌≡◌, take, reverse}
use Rattle.sat_checker.proofs.units.valuation.assume_distinct.Given as goal

-- the literals so far are assumed
abbrev pub invariant-loop-lit : goal.invariant-loop-lit
invariant-loop-lit l = record {
  assumed : l.assigned.literals ≡ reverse (take l.lit-index l.literals);
  room : l.assigned.room ≡ l.fn.assigned.room;
}
