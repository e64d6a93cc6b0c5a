use Rattle.std.proofs.Common.{◌≡◌, ◌-◌, length}
use Rattle.sat_checker.specs.inner.LinkView.{AreLinkedFrom, listed_pairs}
use Rattle.sat_checker.proofs.store.links.link_all.Given as goal

-- the pairs at the last `done` places are linked
abbrev pub invariant-loop-done : goal.invariant-loop-done
invariant-loop-done l = record {
  linked : AreLinkedFrom (l.count - l.done) l.heads l.links l.shift;
  pairs : listed_pairs l.links ≡ listed_pairs l.fn.links;
  heads : length l.heads ≡ length l.fn.heads;
  links : length l.links ≡ length l.fn.links;
}
