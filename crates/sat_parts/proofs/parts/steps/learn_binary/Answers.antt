use Rattle.sat_parts.specs.prop.Ready.{state_of}
use Rattle.sat_parts.proofs.lemmas.parts.WordSteps.{gone_enqueued}
use Rattle.std.proofs.Common.{inl, ◌≡◌, get_or, arith, refl, [], ◌∷◌}
use Rattle.std.proofs.lemmas.List.{get_or_read}
use Rattle.sat_parts.proofs.lemmas.parts.BinaryLemmas.{sound_binary}
use Rattle.sat_parts.specs.declared.prop.graph.Reason.TheVariants.{Binary}
use Rattle.sat_parts.specs.parts.Frame.{learned_binary}
use Rattle.sat_parts.proofs.parts.steps.learn_binary.Goals as goal

pub returns-clause-holds : goal.returns-clause-holds
returns-clause-holds c =
    let p = c.args.parts.now in
    let one : c.index-lits-0.result ≡ get_or c.args.lits.now 0 0 = get_or_read c.args.lits.now 0 c.index-lits-0.result (omega (arith, c.requires.two)) c.index-lits-0.is 0 in
    let two : c.index-lits-1.result ≡ get_or c.args.lits.now 1 0 = get_or_read c.args.lits.now 1 c.index-lits-1.result (omega (arith, c.requires.two)) c.index-lits-1.is 0 in
    rw (c.enqueue_assignment.ensures.value, c.enqueue_assignment.ensures.node, c.enqueue_assignment.ensures.trail, c.in_ok-add_binary_clause.ensures.done, one, two)
    (sound_binary p.clauses p.db p.watchlists p.binary p.assignment p.graph p.trail p.vsids c.args.lits.now c.requires.holds c.requires.pending c.requires.two)

pub returns-clause-stay : goal.returns-clause-stay
returns-clause-stay c =
    let p = c.args.parts.now in
    let x = c.requires.pending in
    let at : c.index-lits-0.result ≡ get_or c.args.lits.now 0 0 = get_or_read c.args.lits.now 0 c.index-lits-0.result (omega (arith, c.requires.two)) c.index-lits-0.is 0 in
    rw (c.enqueue_assignment.ensures.value, c.enqueue_assignment.ensures.node, c.enqueue_assignment.ensures.trail, at)
    (λ am. gone_enqueued am (state_of p.assignment p.graph p.trail) p.vsids (get_or c.args.lits.now 0 0) _ x.open_first (inl x.ready))

pub returns-clause-learnt : goal.returns-clause-learnt
returns-clause-learnt c =
    let one : c.index-lits-0.result ≡ get_or c.args.lits.now 0 0 = get_or_read c.args.lits.now 0 c.index-lits-0.result (omega (arith, c.requires.two)) c.index-lits-0.is 0 in
    let two : c.index-lits-1.result ≡ get_or c.args.lits.now 1 0 = get_or_read c.args.lits.now 1 c.index-lits-1.result (omega (arith, c.requires.two)) c.index-lits-1.is 0 in
    rw (c.enqueue_assignment.ensures.value, c.enqueue_assignment.ensures.node, c.enqueue_assignment.ensures.trail, c.in_ok-add_binary_clause.ensures.done, one, two)
    (learned_binary c.requires.two refl refl refl (Binary (get_or c.args.lits.now 1 0 ∷ [])) refl refl)
