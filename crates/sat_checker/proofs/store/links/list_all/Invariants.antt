use Rattle.std.proofs.Common.{◌≡◌, ◌++◌}
use Rattle.sat_checker.specs.inner.LinkView.{link_pairs_at, listed_pairs}
use Rattle.sat_checker.proofs.store.links.list_all.Given as goal

-- the pairs so far, followed by those from the place on, are all pairs
abbrev pub invariant-loop-place : goal.invariant-loop-place
invariant-loop-place l = l.list.items ++ link_pairs_at l.place l.links ≡ l.fn.list.items ++ listed_pairs l.links
