use Rattle.std.proofs.Common.{true, ◌≡◌, ◌+◌, ◌≤◌, length, map}
use Rattle.std.specs.Option.{IfSome}
use Rattle.sat_checker.specs.LiteralSets.{is_among}
use Rattle.sat_checker.specs.Looks.{total_length}
use Rattle.sat_checker.specs.inner.PairView.{places_at_or_after}
use Rattle.sat_checker.specs.inner.SlotView.{bucket_in, literals_at, places_of}
use Rattle.sat_checker.specs.inner.WalkResults.{AssumesMore}
use Rattle.sat_checker.specs.inner.AssumedRoom.{HasClausesRoom}
use Rattle.sat_checker.specs.inner.Reasons.{clause_at, clauses_by_hash, noted_length, PreservesCauses}
use Rattle.sat_checker.specs.inner.Walk.{walk}
use Rattle.sat_checker.proofs.rup.walk_bucket.Given as goal

-- walking over the remaining clauses gives the result for the entire bucket
abbrev pub invariant-loop-next : goal.invariant-loop-next
invariant-loop-next l = let left = places_at_or_after l.next (places_of l.hash l.clauses) in record {
  among : IfSome l.next (λ p. is_among (places_of l.hash l.clauses) p ≡ true);
  walked : walk l.fn.assigned.literals (bucket_in l.hash l.clauses) ≡ walk l.assigned.literals (map (literals_at l.clauses) left);
  extends : AssumesMore l.fn.assigned l.assigned;
  same : HasClausesRoom l.fn.assigned.room (bucket_in l.hash l.clauses) → l.assigned.room ≡ l.fn.assigned.room;
  looks : l.looks + total_length (map (literals_at l.clauses) left) ≡ l.fn.looks + total_length (bucket_in l.hash l.clauses);
  leads : PreservesCauses l.clauses l.fn.passed l.fn.assigned.literals (clauses_by_hash l.hash l.clauses) l.passed l.assigned.literals (map (clause_at l.clauses) left);
  read : noted_length l.clauses l.passed + l.fn.looks ≤ noted_length l.clauses l.fn.passed + l.looks;
  rise : l.fn.looks ≤ l.looks;
}

abbrev pub decreases-loop-next : goal.decreases-loop-next
decreases-loop-next l = length (places_at_or_after l.next (places_of l.hash l.clauses))
