use Rattle.std.proofs.Common.{subst}
use Rattle.sat_checker.specs.inner.PairView.{AreInOrder, Indexed}
use Rattle.sat_checker.proofs.lemmas.pairs.Places.{pairs_order}
use Rattle.sat_checker.proofs.store.sorted_pairs.SortedPairs.places.Goals as goal

pub returns-clause-order : goal.returns-clause-order
returns-clause-order c = subst (λ (x : Indexed). AreInOrder x.pairs) c.self.view_is (pairs_order 0 c.self.inside.links.items)
