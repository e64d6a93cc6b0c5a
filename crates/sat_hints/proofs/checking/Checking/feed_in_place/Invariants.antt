use Rattle.std.proofs.Common.{ℕ, ◌≡◌, ◌++◌, List, [], None, length}
use Rattle.sat_hints.specs.inner.LineChecking.{IsReadyChecker}
use Rattle.sat_hints.specs.inner.LineRoom.{HasListRoom}
use Rattle.sat_hints.specs.inner.Holding.{ReadsFurther}
use Rattle.sat_hints.proofs.checking.Checking.feed_in_place.Given as goal

-- the lines of a prefix of the piece were read
abbrev pub invariant-loop-found : goal.invariant-loop-found
invariant-loop-found l = record {
  ready : IsReadyChecker l.self.checker;
  empty : l.self.held.items ≡ [];
  room : HasListRoom l.self.lists (length l.rest);
  done : (front : List ℕ) × (l.piece ≡ front ++ l.rest) × ReadsFurther None l.fn.self front l.self;
}

abbrev pub decreases-loop-found : goal.decreases-loop-found
decreases-loop-found l = length l.rest
