use Rattle.std.proofs.Common.{refl}
use Rattle.sat_parts.proofs.lemmas.parts.WordSteps.{extends_refl}
use Rattle.sat_parts.proofs.lemmas.parts.FewerLemmas.{sound_clause_decayed}
use Rattle.sat_parts.proofs.lemmas.parts.HeaderFrames.{headed_by, sides_decayed}
use Rattle.sat_parts.proofs.parts.clauses.decay_clauses.Goals as goal

pub returns : goal.returns
returns c =
    let p = c.args.parts.now in
    let n = c.decay_clause_activities.new in
    let e = c.decay_clause_activities.ensures in
    record {
      holds = sound_clause_decayed p.clauses n.clauses p.db p.watchlists p.binary p.assignment p.graph p.trail p.vsids c.args.activity.now n.activity c.requires.holds (λ lt. (e.later lt).1) e.rescaled e.db e.live;
      later = e.later;
      rescaled = e.rescaled;
      db = refl;
      headed = headed_by p (record p { clauses = n.clauses }) e.live (sides_decayed p.clauses n.clauses p.db.refs c.args.activity.now n.activity (λ lt. (e.later lt).1) e.rescaled) ((refl, refl, refl), refl, refl);
      word = extends_refl p;
    }
