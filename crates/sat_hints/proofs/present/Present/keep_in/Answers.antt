use Rattle.std.proofs.Common.{rules, ◌≡◌, ◌<◌, length, get_or, sym, subst, ◌∙◌}
use Rattle.sat_hints.specs.inner.Clauses.{IdsBelow}
use Rattle.sat_hints.proofs.lemmas.Listed.{keeps_one, keeps_not, keeps_all, next_below, same_default}
use Rattle.sat_hints.proofs.present.Present.keep_in.Goals as goal

pub loop-place-preserved-then-index : goal.loop-place-preserved-then-index
loop-place-preserved-then-index c = keeps_not c.args.self.now c.requires.store c.loop-place.place (search rules) c.loop-place.kept c.index.result.now c.loop-place.invariant c.index.ensures c.if-index.true

pub push-requires-clause-above : goal.push-requires-clause-above
push-requires-clause-above c =
    let inside : c.loop-place.place < length c.args.self.now.ids.items = search rules in
    let e : c.index-in-loop-place.result.now ≡ get_or c.args.self.now.ids.items c.loop-place.place 0 = c.index-in-loop-place.ensures ∙ same_default c.args.self.now.ids.items c.loop-place.place c.index-in-loop-place.result.now 0 inside in
    subst (IdsBelow c.loop-place.kept.ids.items) (sym e) (next_below c.args.self.now c.requires.store c.loop-place.place inside c.loop-place.kept c.loop-place.invariant)

pub loop-place-preserved : goal.loop-place-preserved
loop-place-preserved c =
    let inside : c.loop-place.place < length c.args.self.now.ids.items = search rules in
    let e : c.index-in-loop-place.result.now ≡ get_or c.args.self.now.ids.items c.loop-place.place 0 = c.index-in-loop-place.ensures ∙ same_default c.args.self.now.ids.items c.loop-place.place c.index-in-loop-place.result.now 0 inside in
    keeps_one c.args.self.now c.requires.store c.loop-place.place inside c.loop-place.kept c.push.new.self _ _ c.index.result.now c.loop-place.invariant c.in_ok-push.ensures c.index.ensures c.if-index.false e c.get.ensures

pub returns : goal.returns
returns c = keeps_all c.args.self.now c.loop-place.kept c.loop-place.place c.requires.store (search rules) c.loop-place.invariant
