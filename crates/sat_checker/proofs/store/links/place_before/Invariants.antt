use Rattle.std.proofs.Common.{◌≡◌, length}
use Rattle.sat_checker.specs.inner.LinkView.{linked_from, LinksEnd, place_before}
use Rattle.sat_checker.proofs.store.links.place_before.Given as goal

-- the place before is that of a remaining pair, if there is one
abbrev pub invariant-loop-at : goal.invariant-loop-at
invariant-loop-at l = record {
  walk : LinksEnd l.links l.at;
  same : place_before l.place (linked_from l.links l.from) ≡ place_before l.place (linked_from l.links l.at);
}

abbrev pub decreases-loop-at : goal.decreases-loop-at
decreases-loop-at l = length (linked_from l.links l.at)
