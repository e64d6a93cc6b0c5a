use Rattle.std.proofs.Common.{◌≡◌, length}
use Rattle.sat_checker.specs.inner.PairView.{places_in, first_of}
use Rattle.sat_checker.specs.inner.LinkView.{linked_from, LinksEnd}
use Rattle.sat_checker.proofs.store.links.first_from.Given as goal

-- the first pair of the hash, if any, is among the remaining pairs
abbrev pub invariant-loop-at : goal.invariant-loop-at
invariant-loop-at l = record {
  walk : LinksEnd l.links l.at;
  same : first_of (places_in l.hash (linked_from l.links l.from)) ≡ first_of (places_in l.hash (linked_from l.links l.at));
}

abbrev pub decreases-loop-at : goal.decreases-loop-at
decreases-loop-at l = length (linked_from l.links l.at)
