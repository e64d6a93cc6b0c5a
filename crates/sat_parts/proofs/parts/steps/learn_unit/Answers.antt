use Rattle.std.proofs.lemmas.Grind.{common_steps}
use Rattle.sat_parts.specs.prop.Ready.{state_of}
use Rattle.sat_parts.proofs.lemmas.parts.WordSteps.{gone_enqueued}
use Rattle.std.proofs.Common.{inl, ◌≡◌, get_or, arith, refl}
use Rattle.std.proofs.lemmas.List.{get_or_read}
use Rattle.sat_parts.proofs.lemmas.parts.LearnLemmas.{sound_unit}
use Rattle.sat_parts.specs.declared.prop.graph.Reason.TheVariants.{Unit as NoCause}
use Rattle.sat_parts.specs.parts.Frame.{learned_unit}
use Rattle.sat_parts.proofs.parts.steps.learn_unit.Goals as goal

pub returns-clause-holds : goal.returns-clause-holds
returns-clause-holds c = grind (arith, common_steps, get_or_read, sound_unit)

pub returns-clause-stay : goal.returns-clause-stay
returns-clause-stay c =
    let p = c.args.parts.now in
    let x = c.requires.pending in
    let at : c.index-lits-0.result ≡ get_or c.args.lits.now 0 0 = get_or_read c.args.lits.now 0 c.index-lits-0.result (omega (arith, c.requires.one)) c.index-lits-0.is 0 in
    rw (c.enqueue_assignment.ensures.value, c.enqueue_assignment.ensures.node, c.enqueue_assignment.ensures.trail, at)
    (λ am. gone_enqueued am (state_of p.assignment p.graph p.trail) p.vsids (get_or c.args.lits.now 0 0) _ x.open_first (inl x.ready))

pub returns-clause-learnt : goal.returns-clause-learnt
returns-clause-learnt c =
    let at : c.index-lits-0.result ≡ get_or c.args.lits.now 0 0 = get_or_read c.args.lits.now 0 c.index-lits-0.result (omega (arith, c.requires.one)) c.index-lits-0.is 0 in
    rw (c.enqueue_assignment.ensures.value, c.enqueue_assignment.ensures.node, c.enqueue_assignment.ensures.trail, at)
    (learned_unit c.requires.one (refl, refl, refl) NoCause refl refl)
