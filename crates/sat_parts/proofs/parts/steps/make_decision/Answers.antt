use Rattle.sat_parts.specs.parts.Whole.{state}
use Rattle.sat_parts.proofs.lemmas.parts.WordSteps.{extends_fewer}
use Rattle.sat_parts.proofs.parts.steps.make_decision.Goals as goal

pub returns-in-None-clause-word : goal.returns-in-None-clause-word
returns-in-None-clause-word c = λ am.
    let p = c.args.parts.now in
    extends_fewer am (state p) p.vsids c.pick-picked.new.vsids c.pick-picked.ensures.fewer

pub returns-in_ok-decide_on-in-Some-clause-word : goal.returns-in_ok-decide_on-in-Some-clause-word
returns-in_ok-decide_on-in-Some-clause-word c = λ am.
    let p = c.args.parts.now in
    c.in_ok-decide_on-in-Some.ensures.word am p.vsids c.in-Some.ensures.picked c.pick-picked.ensures.fewer
