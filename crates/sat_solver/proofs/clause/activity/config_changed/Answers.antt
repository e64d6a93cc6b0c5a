use Rattle.std.proofs.Common.{Bool, List, false, get_or, ap, refl, ◌∙◌}
use Rattle.sat_store.specs.heap.Vsids.{Queue}
use Rattle.sat_parts.specs.parts.Whole.{state}
use Rattle.sat_parts.proofs.lemmas.parts.WordSteps.{extends_fewer}
use Rattle.sat_parts.proofs.lemmas.parts.FewerLemmas.{sound_flags}
use Rattle.sat_solver.proofs.lemmas.clause.BumpingLemmas.{bumped_same}
use Rattle.sat_solver.proofs.clause.activity.config_changed.Goals as goal

pub returns-clause-bumped : goal.returns-clause-bumped
returns-clause-bumped c = λ s search.
    let p = c.args.search.now.parts in
    let picks = ap (λ (q : Queue). q.available) c.set_decay.ensures in
    bumped_same s c.args.search.now _ search refl refl refl refl
    (sound_flags p.clauses p.db p.watchlists p.binary p.assignment p.graph p.trail p.vsids c.set_decay.new.self c.requires.holds picks) (refl, refl, refl) (refl, refl, refl)
    (λ am. extends_fewer am (state p) p.vsids c.set_decay.new.self (λ u e. ap (λ (xs : List Bool). get_or xs u false) picks ∙ e))
