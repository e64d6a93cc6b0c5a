use Rattle.std.proofs.Common.{◌≡◌, ◌+◌, ◌^◌, ◌<◌, ◌∙◌, ap, sym, subst, length, inl, refl}
use Rattle.sat_base.specs.values.Literals.{variable}
use Rattle.sat_parts.specs.prop.Values.{IsUnassignedLit, value_of}
use Rattle.sat_store.specs.heap.Vsids.{is_available}
use Rattle.sat_parts.specs.parts.Whole.{state}
use Rattle.sat_parts.proofs.lemmas.parts.ValueLemmas.{coded_variable}
use Rattle.sat_parts.proofs.lemmas.parts.WordSteps.{extends_decided}
use Rattle.sat_parts.proofs.lemmas.parts.DecideLemmas.{few_levels, sound_decided}
use Rattle.sat_parts.proofs.lemmas.prop.StepLemmas.{agrees_raised}
use Rattle.sat_parts.proofs.lemmas.parts.FrameLemmas.{carries_decided}
use Rattle.sat_parts.proofs.lemmas.parts.KeepLemmas.{keeps_decided}
use Rattle.sat_parts.proofs.parts.steps.decide_on.Goals as goal
use Rattle.sat_parts.proofs.parts.steps.decide_on.Goals.{After-lit-lit}

-- the literal that is decided
module _ (c : After-lit-lit) where
  at : variable c.lit-lit.result ≡ c.args.var
  at = ap (λ l. variable l) c.lit-lit.ensures ∙ coded_variable c.args.var c.last_var_value.result

  free : IsUnassignedLit c.args.parts.now.assignment.current c.lit-lit.result
  free = ap (λ v. value_of c.args.parts.now.assignment.current v) at ∙ c.requires.picked.unset

  there : variable c.lit-lit.result < length c.args.parts.now.assignment.current
  there = subst (λ v. v < length c.args.parts.now.assignment.current) (sym at) c.requires.picked.there

  few : length c.args.parts.now.trail.starts + 1 < 2 ^ 32
  few = few_levels (state c.args.parts.now) c.lit-lit.result c.requires.picked.holds.below.propagation.agrees c.requires.picked.holds.below.levelled free there

pub new_decision_level-requires : goal.new_decision_level-requires
new_decision_level-requires c = few (goal.at.new_decision_level-requires c).After-lit-lit

pub returns-clause-holds : goal.returns-clause-holds
returns-clause-holds c =
    let p = c.args.parts.now in
    let x = (goal.at.returns-clause-holds c).After-lit-lit in
    rw (c.enqueue_assignment.ensures.value, c.enqueue_assignment.ensures.node, c.enqueue_assignment.ensures.trail, c.in_ok-new_decision_level.ensures.done)
    (sound_decided p.clauses p.db p.watchlists p.binary p.assignment p.graph p.trail c.requires.picked.before p.vsids c.lit-lit.result c.requires.picked.holds c.requires.done
    (free x) (there x) (λ u n none e. c.requires.picked.picks u (λ q. n (q ∙ sym (at x))) none e) c.requires.picked.size)

pub returns-clause-word : goal.returns-clause-word
returns-clause-word c = λ am q picks less.
    let p = c.args.parts.now in
    let x = (goal.at.returns-clause-word c).After-lit-lit in
    rw (c.enqueue_assignment.ensures.value, c.enqueue_assignment.ensures.node, c.enqueue_assignment.ensures.trail, c.in_ok-new_decision_level.ensures.done)
    (extends_decided am (state p) q p.vsids c.lit-lit.result (free x) (inl (ap (λ v. is_available q v) (at x) ∙ picks)) less c.requires.picked.holds.below.levelled)

pub returns-clause-same : goal.returns-clause-same
returns-clause-same c =
    let x = (goal.at.returns-clause-same c).After-lit-lit in
    rw (c.enqueue_assignment.ensures.value, c.enqueue_assignment.ensures.node, c.enqueue_assignment.ensures.trail, c.in_ok-new_decision_level.ensures.done)
    ((refl, refl, refl), carries_decided (state c.args.parts.now) c.lit-lit.result (agrees_raised (state c.args.parts.now) c.requires.picked.holds.below.propagation.agrees (few x)) (free x) (there x))

pub returns-clause-keeps : goal.returns-clause-keeps
returns-clause-keeps c = λ top.
    let x = (goal.at.returns-clause-keeps c).After-lit-lit in
    rw (c.enqueue_assignment.ensures.value, c.enqueue_assignment.ensures.node, c.enqueue_assignment.ensures.trail, c.in_ok-new_decision_level.ensures.done)
    (keeps_decided top (state c.args.parts.now) c.lit-lit.result (agrees_raised (state c.args.parts.now) c.requires.picked.holds.below.propagation.agrees (few x)) c.requires.picked.holds.below.levelled (free x) (there x))
