use Rattle.std.proofs.Common.{refl}
use Rattle.sat_parts.proofs.lemmas.prop.BuildLemmas.{live_in}
use Rattle.sat_parts.proofs.lemmas.parts.WordSteps.{extends_refl}
use Rattle.sat_parts.proofs.lemmas.parts.FewerLemmas.{sound_clause_bumped}
use Rattle.sat_parts.proofs.lemmas.parts.HeaderFrames.{headed_by, sides_bumped}
use Rattle.sat_parts.proofs.parts.clauses.bump_activity.Goals as goal

pub bump_clause_activity-requires-clause-there : goal.bump_clause_activity-requires-clause-there
bump_clause_activity-requires-clause-there c = live_in c.args.parts.now.clauses c.args.parts.now.db.refs c.args.cref c.requires.live

pub returns : goal.returns
returns c =
    let p = c.args.parts.now in
    let n = c.bump_clause_activity.new in
    let e = c.bump_clause_activity.ensures in
    record {
      holds = sound_clause_bumped p.clauses n.clauses p.db p.watchlists p.binary p.assignment p.graph p.trail p.vsids c.args.cref c.args.activity.now n.activity c.requires.holds e.raised e.rescaled e.db e.live;
      raised = e.raised;
      rescaled = e.rescaled;
      db = refl;
      headed = headed_by p (record p { clauses = n.clauses }) e.live (sides_bumped p.clauses n.clauses p.db.refs c.args.cref c.args.activity.now n.activity e.raised e.rescaled) ((refl, refl, refl), refl, refl);
      word = extends_refl p;
    }
