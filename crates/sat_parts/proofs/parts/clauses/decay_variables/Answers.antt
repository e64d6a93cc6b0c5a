use Rattle.std.proofs.Common.{Bool, List, false, get_or, ap, ◌∙◌, refl}
use Rattle.sat_parts.specs.parts.Whole.{state}
use Rattle.sat_parts.proofs.lemmas.parts.WordSteps.{extends_fewer}
use Rattle.sat_parts.proofs.lemmas.parts.FewerLemmas.{sound_flags}
use Rattle.sat_parts.proofs.parts.clauses.decay_variables.Goals as goal

pub returns : goal.returns
returns c =
    let p = c.args.parts.now in
    record {
      holds = sound_flags p.clauses p.db p.watchlists p.binary p.assignment p.graph p.trail p.vsids c.decay.new.self c.requires.holds c.decay.ensures.available;
      same = ((refl, refl, refl), (refl, refl, refl));
      queue = c.decay.ensures.queue;
      picks = c.decay.ensures.available;
      word = λ am. extends_fewer am (state p) p.vsids c.decay.new.self (λ u e. ap (λ (xs : List Bool). get_or xs u false) c.decay.ensures.available ∙ e);
    }
