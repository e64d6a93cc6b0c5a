use Rattle.std.proofs.lemmas.Grind.{common_steps}
use Rattle.std.proofs.Common.{arith}
use Rattle.std.proofs.lemmas.Result.{IfOk-weaker}
use Rattle.sat_parts.specs.clause.Db.{live_refs}
use Rattle.sat_parts.specs.prop.Ready.{state_of}
use Rattle.sat_parts.proofs.lemmas.parts.WordSteps.{propagated_extends}
use Rattle.sat_parts.proofs.lemmas.parts.MoveLemmas.{sound_propagated, agrees_given, base_given, units_moved}
use Rattle.sat_parts.proofs.lemmas.parts.KeepLemmas.{keeps_grown}
use Rattle.sat_parts.proofs.parts.steps.propagate_all.Goals as goal

pub returns-clause-holds : goal.returns-clause-holds
returns-clause-holds c =
    let p = c.args.parts.now in
    let n = c.propagate.new in
    IfOk-weaker _ _ _ (λ r h. sound_propagated p.clauses n.clauses p.db p.watchlists n.watchlists p.binary p.assignment n.assignment p.graph n.graph p.trail n.trail p.vsids r c.requires.holds h) c.propagate.ensures.given

pub returns-clause-units : goal.returns-clause-units
returns-clause-units c = λ some units.
    let p = c.args.parts.now in
    let n = c.propagate.new in
    let s' = state_of n.assignment n.graph n.trail in
    IfOk-weaker _ _ _
    (λ r h. units_moved (live_refs p.clauses p.db.refs) p.binary.implied p.clauses n.clauses (state_of p.assignment p.graph p.trail) s' c.requires.holds.propagation.agrees
    (agrees_given p.clauses n.clauses p.db.refs p.binary.implied (state_of p.assignment p.graph p.trail) s' n.watchlists r h) h.moves some units)
    c.propagate.ensures.given

pub returns-clause-base : goal.returns-clause-base
returns-clause-base c = λ some base.
    let p = c.args.parts.now in
    let n = c.propagate.new in
    IfOk-weaker _ _ _ (λ r h. base_given p.clauses n.clauses p.db.refs p.binary.implied p.assignment n.assignment p.graph n.graph p.trail n.trail n.watchlists r h some base) c.propagate.ensures.given

pub returns-clause-word : goal.returns-clause-word
returns-clause-word c =
    let p = c.args.parts.now in
    let n = c.propagate.new in
    IfOk-weaker _ _ _ (λ r h. propagated_extends p.clauses n.clauses p.db p.watchlists n.watchlists p.binary p.assignment n.assignment p.graph n.graph p.trail n.trail p.vsids r c.requires.holds h) c.propagate.ensures.given

pub returns-clause-keeps : goal.returns-clause-keeps
returns-clause-keeps c = grind (arith, common_steps, keeps_grown)
