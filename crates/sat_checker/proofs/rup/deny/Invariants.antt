use Rattle.std.proofs.Common.{◌≡◌, drop}
use Rattle.sat_checker.specs.inner.WalkResults.{AssumesMore}
use Rattle.sat_checker.specs.inner.AssumedRoom.{signed}
use Rattle.sat_checker.specs.inner.Walk.{negations_assumed}
use Rattle.sat_checker.proofs.rup.deny.Given as goal

abbrev pub invariant-loop-literal : goal.invariant-loop-literal
invariant-loop-literal l = record {
  denied_so_far : negations_assumed l.fn.assigned.literals (signed l.negate l.literals) ≡ negations_assumed l.assigned.literals (drop l.literal-index (signed l.negate l.literals));
  extends : AssumesMore l.fn.assigned l.assigned;
}
