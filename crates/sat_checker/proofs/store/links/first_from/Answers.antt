use Rattle.std.proofs.Common.{refl, sym, ◌∙◌, ap}
use Rattle.sat_checker.specs.inner.PairView.{places_in, first_of}
use Rattle.sat_checker.specs.inner.LinkView.{link_at}
use Rattle.sat_checker.proofs.lemmas.pairs.Walks.{walk_next, walk_shorter, walk_ended, first_here, first_on}
use Rattle.sat_checker.proofs.store.links.first_from.Goals as goal

pub returns-then-link-hash : goal.returns-then-link-hash
returns-then-link-hash c = first_here c.args.links.now c.loop-at.at (link_at c.args.links.now c.loop-at.at) c.loop-at.invariant.walk c.loop-at-test.true refl c.args.hash c.if-link-hash.true ∙ sym c.loop-at.invariant.same

pub loop-at-smaller : goal.loop-at-smaller
loop-at-smaller c = walk_shorter c.args.links.now c.loop-at.at (link_at c.args.links.now c.loop-at.at) c.loop-at.invariant.walk c.loop-at-test.true refl

pub loop-at-preserved : goal.loop-at-preserved
loop-at-preserved c = record {
  walk = walk_next c.args.links.now c.loop-at.at (link_at c.args.links.now c.loop-at.at) c.loop-at.invariant.walk c.loop-at-test.true refl;
  same = c.loop-at.invariant.same ∙ first_on c.args.links.now c.loop-at.at (link_at c.args.links.now c.loop-at.at) c.loop-at.invariant.walk c.loop-at-test.true refl c.args.hash c.if-link-hash.false;
}

pub returns : goal.returns
returns c = sym (c.loop-at.invariant.same ∙ ap (λ ps. first_of (places_in c.args.hash ps)) (walk_ended c.args.links.now c.loop-at.at c.loop-at-test.false))
