use Rattle.std.proofs.Common.{◌≡◌, ◌+◌, ◌*◌, ◌≤◌, drop, map}
use Rattle.sat_checker.specs.inner.AssumedRoom.{HasStoredRoom}
use Rattle.sat_checker.specs.inner.SlotView.{bucket_of, live_clauses, live_literal_count}
use Rattle.sat_checker.specs.inner.WalkResults.{AssumesMore}
use Rattle.sat_checker.specs.inner.Reasons.{clauses_by_hashes, noted_length, PreservesCauses}
use Rattle.sat_checker.specs.inner.Walk.{walk_buckets}
use Rattle.sat_checker.proofs.rup.walk_hashes.Given as goal

-- walking over the remaining buckets gives the result for all buckets
abbrev pub invariant-loop-hash : goal.invariant-loop-hash
invariant-loop-hash l = let buckets = map (bucket_of l.clauses) in record {
  walked : walk_buckets l.fn.assigned.literals (buckets l.hashes) ≡ walk_buckets l.assigned.literals (buckets (drop l.hash-index l.hashes));
  extends : AssumesMore l.fn.assigned l.assigned;
  same : HasStoredRoom l.fn.assigned.room (live_clauses l.clauses) → l.assigned.room ≡ l.fn.assigned.room;
  looks : l.looks ≤ l.fn.looks + l.hash-index * live_literal_count l.clauses;
  leads : PreservesCauses l.clauses l.fn.passed l.fn.assigned.literals (clauses_by_hashes l.hashes l.clauses) l.passed l.assigned.literals (clauses_by_hashes (drop l.hash-index l.hashes) l.clauses);
  read : noted_length l.clauses l.passed + l.fn.looks ≤ noted_length l.clauses l.fn.passed + l.looks;
  rise : l.fn.looks ≤ l.looks;
}
