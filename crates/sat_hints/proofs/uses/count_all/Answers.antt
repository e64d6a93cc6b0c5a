use Rattle.std.proofs.lemmas.Grind.{common_steps}
use Rattle.std.proofs.Common.{◌<◌, length, arith}
use Rattle.sat_hints.proofs.lemmas.Counting.{kept_gone, kept_more, kept_few}
use Rattle.sat_hints.proofs.uses.count_all.Goals as goal

pub loop-place-preserved-then-is_removed : goal.loop-place-preserved-then-is_removed
loop-place-preserved-then-is_removed c = grind (arith, common_steps, kept_gone)

pub count-requires-clause-few : goal.count-requires-clause-few
count-requires-clause-few c =
    let p = c.args.present.now in
    let inside : c.loop-place.place < length p.ids.items = omega (arith, c.loop-place-test.true, c.len-place-end.ensures) in
    λ l. kept_few l p.clauses p.removed.items c.loop-place.place (length p.ids.items) _ c.clause.result.now c.requires.store.sets c.requires.store.clauses inside c.in_ok-check_countable.ensures c.clause.ensures (c.loop-place.invariant l)

pub loop-place-preserved : goal.loop-place-preserved
loop-place-preserved c = grind (arith, common_steps, kept_more)
