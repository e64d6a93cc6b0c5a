use Rattle.std.proofs.Common.{refl, ◌∙◌}
use Rattle.sat_checker.specs.inner.LinkView.{link_at}
use Rattle.sat_checker.proofs.lemmas.pairs.Walks.{walk_next, walk_shorter, before_on}
use Rattle.sat_checker.proofs.store.links.place_before.Goals as goal

pub loop-at-smaller : goal.loop-at-smaller
loop-at-smaller c = walk_shorter c.args.links.now c.loop-at.at (link_at c.args.links.now c.loop-at.at) c.loop-at.invariant.walk c.loop-at-test.true refl

pub loop-at-preserved : goal.loop-at-preserved
loop-at-preserved c = record {
  walk = walk_next c.args.links.now c.loop-at.at (link_at c.args.links.now c.loop-at.at) c.loop-at.invariant.walk c.loop-at-test.true refl;
  same = c.loop-at.invariant.same ∙ before_on c.args.links.now c.loop-at.at (link_at c.args.links.now c.loop-at.at) c.loop-at.invariant.walk c.loop-at-test.true refl c.args.place c.if-next-place.false;
}
