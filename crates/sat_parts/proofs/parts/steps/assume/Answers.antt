use Rattle.sat_parts.specs.prop.Ready.{state_of}
use Rattle.std.proofs.Common.{refl}
use Rattle.sat_parts.proofs.lemmas.prop.StepLemmas.{agrees_raised}
use Rattle.sat_parts.proofs.lemmas.parts.FrameLemmas.{carries_decided}
use Rattle.sat_parts.proofs.lemmas.parts.WordSteps.{extends_decided}
use Rattle.sat_parts.proofs.lemmas.parts.DecideLemmas.{few_levels, sound_decided}
use Rattle.sat_parts.proofs.lemmas.parts.KeepLemmas.{keeps_decided}
use Rattle.sat_parts.proofs.parts.steps.assume.Goals as goal

pub new_decision_level-requires : goal.new_decision_level-requires
new_decision_level-requires c =
    let p = c.args.parts.now in
    few_levels (state_of p.assignment p.graph p.trail) c.args.lit c.requires.holds.below.propagation.agrees c.requires.holds.below.levelled c.requires.open c.requires.there

pub returns-clause-holds : goal.returns-clause-holds
returns-clause-holds c =
    let p = c.args.parts.now in
    rw (c.enqueue_assignment.ensures.value, c.enqueue_assignment.ensures.node, c.enqueue_assignment.ensures.trail, c.in_ok-new_decision_level.ensures.done)
    (sound_decided p.clauses p.db p.watchlists p.binary p.assignment p.graph p.trail p.vsids p.vsids c.args.lit c.requires.holds c.requires.done c.requires.open c.requires.there (λ u n none e. e) refl)

pub returns-clause-word : goal.returns-clause-word
returns-clause-word c = λ am picks.
    let p = c.args.parts.now in
    rw (c.enqueue_assignment.ensures.value, c.enqueue_assignment.ensures.node, c.enqueue_assignment.ensures.trail, c.in_ok-new_decision_level.ensures.done)
    (extends_decided am (state_of p.assignment p.graph p.trail) p.vsids p.vsids c.args.lit c.requires.open picks (λ u e. e) c.requires.holds.below.levelled)

pub returns-clause-same : goal.returns-clause-same
returns-clause-same c =
    let p = c.args.parts.now in
    let h = c.requires.holds.below in
    let few = few_levels (state_of p.assignment p.graph p.trail) c.args.lit h.propagation.agrees h.levelled c.requires.open c.requires.there in
    rw (c.enqueue_assignment.ensures.value, c.enqueue_assignment.ensures.node, c.enqueue_assignment.ensures.trail, c.in_ok-new_decision_level.ensures.done)
    ((refl, refl, refl), carries_decided (state_of p.assignment p.graph p.trail) c.args.lit (agrees_raised (state_of p.assignment p.graph p.trail) h.propagation.agrees few) c.requires.open c.requires.there)

pub returns-clause-keeps : goal.returns-clause-keeps
returns-clause-keeps c = λ top.
    let p = c.args.parts.now in
    let h = c.requires.holds.below in
    let few = few_levels (state_of p.assignment p.graph p.trail) c.args.lit h.propagation.agrees h.levelled c.requires.open c.requires.there in
    rw (c.enqueue_assignment.ensures.value, c.enqueue_assignment.ensures.node, c.enqueue_assignment.ensures.trail, c.in_ok-new_decision_level.ensures.done)
    (keeps_decided top (state_of p.assignment p.graph p.trail) c.args.lit (agrees_raised (state_of p.assignment p.graph p.trail) h.propagation.agrees few) h.levelled c.requires.open c.requires.there)
