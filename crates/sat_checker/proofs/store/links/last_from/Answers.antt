use Rattle.std.proofs.Common.{refl, sym, ◌∙◌, ap}
use Rattle.sat_checker.specs.inner.LinkView.{link_at, last_place_or}
use Rattle.sat_checker.proofs.lemmas.pairs.Walks.{walk_next, walk_shorter, walk_ended, last_on}
use Rattle.sat_checker.proofs.store.links.last_from.Goals as goal

pub loop-at-smaller : goal.loop-at-smaller
loop-at-smaller c = walk_shorter c.args.links.now c.loop-at.at (link_at c.args.links.now c.loop-at.at) c.loop-at.invariant.walk c.loop-at-test.true refl

pub loop-at-preserved : goal.loop-at-preserved
loop-at-preserved c = record {
  walk = walk_next c.args.links.now c.loop-at.at (link_at c.args.links.now c.loop-at.at) c.loop-at.invariant.walk c.loop-at-test.true refl;
  same = c.loop-at.invariant.same ∙ last_on c.args.links.now c.loop-at.at (link_at c.args.links.now c.loop-at.at) c.loop-at.invariant.walk c.loop-at-test.true refl c.loop-at.last;
}

pub returns : goal.returns
returns c = sym (c.loop-at.invariant.same ∙ ap (last_place_or c.loop-at.last) (walk_ended c.args.links.now c.loop-at.at c.loop-at-test.false))
