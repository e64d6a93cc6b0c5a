use Rattle.sat_parts.proofs.lemmas.parts.WordSteps.{gone_undone}
use Rattle.sat_parts.proofs.lemmas.parts.UndoLemmas.{sound_undone, units_undone, based_undone, pending_undone}
use Rattle.sat_parts.proofs.lemmas.parts.FrameLemmas.{carries_undone}
use Rattle.sat_parts.proofs.lemmas.parts.KeepLemmas.{keeps_undone}
use Rattle.sat_parts.proofs.parts.steps.undo.Goals as goal

pub returns-clause-holds : goal.returns-clause-holds
returns-clause-holds g c =
    let p = c.args.parts.now in
    let lt = c.requires.1.1.1.0 in
    rw (c.backtrack.ensures.values lt, c.backtrack.ensures.trail lt, c.backtrack.ensures.available lt) record {
      below = sound_undone p.clauses p.db p.watchlists p.binary p.assignment p.graph p.trail p.vsids g.top c.args.level c.requires.0 lt c.requires.1.1.1.1;
      units = units_undone p.assignment p.graph p.trail c.args.level c.requires.0.propagation.agrees lt c.requires.1.0;
      base = based_undone p.trail c.args.level lt c.requires.1.1.0;
    }

pub returns-clause-pending : goal.returns-clause-pending
returns-clause-pending g c = λ ls x.
    let p = c.args.parts.now in
    let lt = c.requires.1.1.1.0 in
    rw (c.backtrack.ensures.values lt, c.backtrack.ensures.trail lt, c.backtrack.ensures.available lt)
    (pending_undone p.assignment p.graph p.trail p.vsids ls c.args.level c.requires.0.propagation.agrees c.requires.0.queue x)

pub returns-clause-stay : goal.returns-clause-stay
returns-clause-stay g c =
    let p = c.args.parts.now in
    let lt = c.requires.1.1.1.0 in
    rw (c.backtrack.ensures.values lt, c.backtrack.ensures.trail lt, c.backtrack.ensures.available lt)
    (λ am. gone_undone am c.args.level p.assignment p.graph p.trail p.vsids c.requires.0.propagation.agrees lt)

pub returns-clause-keeps : goal.returns-clause-keeps
returns-clause-keeps g c =
    let p = c.args.parts.now in
    let lt = c.requires.1.1.1.0 in
    rw (c.backtrack.ensures.values lt, c.backtrack.ensures.trail lt) (keeps_undone c.args.level p.assignment p.graph p.trail c.requires.0.propagation.agrees c.requires.0.levelled lt)

pub returns-clause-carries : goal.returns-clause-carries
returns-clause-carries g c =
    let p = c.args.parts.now in
    let lt = c.requires.1.1.1.0 in
    rw (c.backtrack.ensures.values lt, c.backtrack.ensures.trail lt) (carries_undone c.args.level p.assignment p.graph p.trail c.requires.0.propagation.agrees lt)
