use Rattle.std.proofs.Common.{Some, drop, take}
use Rattle.sat_hints.specs.inner.Prefixes.{ReachesPlace}
use Rattle.sat_hints.proofs.lemmas.Prefixes.{LeadsSoFar}
use Rattle.sat_hints.proofs.prefixes.following.Given as goal

abbrev pub invariant-loop-i : goal.invariant-loop-i
invariant-loop-i l = record {
  leads : LeadsSoFar l.fn.place l.bytes l.here (drop l.i l.bytes);
  reaches : ReachesPlace l.fn.place (take l.i l.bytes) (Some l.here);
}
