use Rattle.std.proofs.Common.{ℕ, ◌+◌, ◌-◌, ◌<◌, ◌≡◌, length, ap, subst, ◌∙◌, arith}
use Rattle.std.proofs.lemmas.List.{length-set}
use Rattle.sat_checker.specs.inner.LinkView.{AreLinkedFrom, listed_pairs}
use Rattle.sat_checker.proofs.lemmas.pairs.Places.{pairs_relinked}
use Rattle.sat_checker.proofs.store.links.link_all.Goals as goal

pub loop-done-preserved : goal.loop-done-preserved
loop-done-preserved c =
    let i : ℕ = length c.args.links.now - 1 - c.loop-done.done in
    let inside : i < length c.loop-done.links = omega (arith, c.loop-done-test.true, c.loop-done.invariant.links) in
    let to : i ≡ length c.args.links.now - (c.loop-done.done + 1) = omega arith in
    let set = c.link_before.ensures.set in
    record {
      linked = subst (λ n. AreLinkedFrom n c.link_before.new.heads c.link_before.new.links c.args.shift) to c.link_before.ensures.linked;
      pairs = ap listed_pairs set.is ∙ pairs_relinked 0 c.loop-done.links i set.next inside c.if-link.false set.present ∙ c.loop-done.invariant.pairs;
      heads = c.link_before.ensures.heads ∙ c.loop-done.invariant.heads;
      links = ap length set.is ∙ length-set c.loop-done.links i _ ∙ c.loop-done.invariant.links;
    }
