use Rattle.std.proofs.Common.{true, ◌≤◌, ◌≡◌, ◌+◌, length, map}
use Rattle.std.specs.Option.{IfSome}
use Rattle.sat_checker.specs.LiteralSets.{is_among}
use Rattle.sat_checker.specs.Looks.{total_length}
use Rattle.sat_checker.specs.inner.PairView.{places_at_or_after}
use Rattle.sat_checker.specs.inner.SlotView.{bucket_in, literals_at, places_of, found_among}
use Rattle.sat_checker.proofs.store.clauses.Clauses.find.Given as goal

-- the clause is among the remaining clauses of the bucket, if it is stored
abbrev pub invariant-loop-next : goal.invariant-loop-next
invariant-loop-next l = let left = places_at_or_after l.next (places_of l.hash l.self) in record {
  among : IfSome l.next (λ p. is_among (places_of l.hash l.self) p ≡ true);
  found : found_among l.self l.literals (places_of l.hash l.self) ≡ found_among l.self l.literals left;
  looks : l.looks + total_length (map (literals_at l.self) left) ≡ l.fn.looks + total_length (bucket_in l.hash l.self);
  rise : l.fn.looks ≤ l.looks;
}

abbrev pub decreases-loop-next : goal.decreases-loop-next
decreases-loop-next l = length (places_at_or_after l.next (places_of l.hash l.self))
