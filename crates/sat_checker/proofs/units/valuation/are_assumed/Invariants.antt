use Rattle.std.proofs.Common.{◌≡◌, drop}
use Rattle.sat_checker.specs.LiteralSets.{is_subset_of}
use Rattle.sat_checker.proofs.units.valuation.are_assumed.Given as goal

abbrev pub invariant-loop-lit : goal.invariant-loop-lit
invariant-loop-lit l = is_subset_of l.literals l.assigned.literals ≡ is_subset_of (drop l.lit-index l.literals) l.assigned.literals
