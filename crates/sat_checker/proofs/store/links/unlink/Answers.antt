use Rattle.std.proofs.Common.{refl, sym, arith}
use Rattle.sat_checker.proofs.lemmas.pairs.Links.{part_walk}
use Rattle.sat_checker.proofs.lemmas.pairs.Changing.{take_first, take_after, take_none, before_linked}
use Rattle.sat_checker.proofs.store.links.unlink.Goals as goal

pub returns-then-first-place : goal.returns-then-first-place
returns-then-first-place c =
    take_first c.args.heads.now c.args.links.now c.args.shift c.requires.linked c.top-top.result c.top-top.ensures.within c.args.place c.requires.inside (sym c.top-top.ensures.is) _ _ c.if-first-place.true refl refl

pub place_before-requires-clause-walk : goal.place_before-requires-clause-walk
place_before-requires-clause-walk c = part_walk c.args.heads.now c.args.links.now c.args.shift c.requires.linked c.top-top.result c.top-top.ensures.within

pub offset_bounds-links-before : goal.offset_bounds-links-before
offset_bounds-links-before c =
    let b = before_linked c.args.heads.now c.args.links.now c.args.shift c.requires.linked c.top-top.result c.top-top.ensures.within c.args.place c.in-Some.before c.in-Some.ensures in
    omega (arith, b.exists, c.requires.linked.few)

pub bounds-links-before : goal.bounds-links-before
bounds-links-before c = (before_linked c.args.heads.now c.args.links.now c.args.shift c.requires.linked c.top-top.result c.top-top.ensures.within c.args.place c.in-Some.before c.in-Some.ensures).exists

pub offset_bounds-links-before-in-Some : goal.offset_bounds-links-before-in-Some
offset_bounds-links-before-in-Some c =
    let b = before_linked c.args.heads.now c.args.links.now c.args.shift c.requires.linked c.top-top.result c.top-top.ensures.within c.args.place c.in-Some.before c.in-Some.ensures in
    omega (arith, b.exists, c.requires.linked.few)

pub bounds-links-before-in-Some : goal.bounds-links-before-in-Some
bounds-links-before-in-Some c = (before_linked c.args.heads.now c.args.links.now c.args.shift c.requires.linked c.top-top.result c.top-top.ensures.within c.args.place c.in-Some.before c.in-Some.ensures).exists

pub returns-in-Some : goal.returns-in-Some
returns-in-Some c =
    take_after c.args.heads.now c.args.links.now c.args.shift c.requires.linked c.top-top.result c.top-top.ensures.within c.args.place c.requires.inside (sym c.top-top.ensures.is) _ c.in-Some.before c.in-Some.ensures refl

pub returns-in_default : goal.returns-in_default
returns-in_default c =
    take_none c.args.heads.now c.args.links.now c.args.shift c.requires.linked c.top-top.result c.top-top.ensures.within c.args.place c.requires.inside (sym c.top-top.ensures.is) c.if-first-place.false c.in_default.ensures
