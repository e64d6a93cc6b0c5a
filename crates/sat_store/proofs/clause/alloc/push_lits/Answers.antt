use Rattle.std.proofs.Common.{◌<◌, ◌*◌, arith, ◌∙◌}
use Rattle.sat_base.specs.values.Literals.{var_limit}
use Rattle.sat_store.proofs.lemmas.clause.BufferLemmas.{one_more, one_more_fits}
use Rattle.sat_store.proofs.clause.alloc.push_lits.Goals as goal

pub loop-lit-preserved : goal.loop-lit-preserved
loop-lit-preserved c =
    let before = c.loop-lit.invariant in
    let small : c.lit-item.result < 2 * var_limit = omega (arith, c.code.ensures.value, c.code.ensures.bound) in (
      c.push_reserved.ensures.items ∙ one_more c.args.words.now.items c.loop-lit.words.items c.args.lits.now c.loop-lit.lit-index c.lit-item.result c.code.result c.loop-lit-test.true c.lit-item.is c.code.ensures.value before.0,
      omega (arith, c.push_reserved.ensures.len, before.1),
      c.push_reserved.ensures.capacity ∙ before.2,
      one_more_fits c.args.lits.now c.loop-lit.lit-index c.lit-item.result (λ x. x < 2 * var_limit) c.loop-lit-test.true c.lit-item.is small before.3,
    )
