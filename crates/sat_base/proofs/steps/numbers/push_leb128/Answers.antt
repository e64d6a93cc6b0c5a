use Rattle.std.proofs.Common.{◌%◌, ◌+◌, refl, arith}
use Rattle.sat_base.proofs.lemmas.steps.NumberBytes.{wait_none, wait_more, wait_end}
use Rattle.sat_base.proofs.steps.numbers.push_leb128.Goals as goal

pub loop-rest-init : goal.loop-rest-init
loop-rest-init c = wait_none c.args.number _ _ (omega arith) (omega arith)

pub loop-rest-preserved : goal.loop-rest-preserved
loop-rest-preserved c =
    wait_more c.args.number c.loop-rest.rest (c.loop-rest.rest % 128 + 128) _ _ _ _ c.loop-rest-test.true refl c.loop-rest.invariant c.in_ok-push.ensures.items

pub returns : goal.returns
returns c =
    wait_end c.args.number c.loop-rest.rest _ _ _ _ c.loop-rest-test.false c.loop-rest.invariant c.in_ok-push-2.ensures.items
