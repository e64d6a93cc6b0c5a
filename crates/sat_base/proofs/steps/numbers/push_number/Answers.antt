use Rattle.std.proofs.lemmas.Grind.{common_steps}
use Rattle.std.proofs.Common.{◌∙◌, refl, arith}
use Rattle.sat_base.proofs.lemmas.steps.NumberBytes.{wait_none, wait_more, wait_end}
use Rattle.sat_base.proofs.lemmas.steps.Pushing.{number_is_short}
use Rattle.sat_base.proofs.steps.numbers.push_number.Goals as goal

pub loop-rest-init : goal.loop-rest-init
loop-rest-init g c = (wait_none c.args.number _ _ (omega arith) c.requires.room, refl)

pub loop-rest-preserved : goal.loop-rest-preserved
loop-rest-preserved g c = grind (arith, common_steps, wait_more)

pub returns : goal.returns
returns g c =
    let i = c.loop-rest.invariant in
    let w = wait_end c.args.number c.loop-rest.rest _ _ _ _ c.loop-rest-test.false i.0 c.push-2.ensures.waiting in
    record {
      waiting = w;
      short = number_is_short _ _ c.args.number w;
      size = c.push-2.ensures.size ∙ i.1;
    }
