use Rattle.std.proofs.Common.{◌≡◌, length, None}
use Rattle.sat_checker.specs.inner.LinkView.{linked_from, LinksEnd, last_place_or}
use Rattle.sat_checker.proofs.store.links.last_from.Given as goal

-- the result follows from the last pair so far and the remaining pairs
abbrev pub invariant-loop-at : goal.invariant-loop-at
invariant-loop-at l = record {
  walk : LinksEnd l.links l.at;
  same : last_place_or None (linked_from l.links l.from) ≡ last_place_or l.last (linked_from l.links l.at);
}

abbrev pub decreases-loop-at : goal.decreases-loop-at
decreases-loop-at l = length (linked_from l.links l.at)
