use Rattle.std.proofs.Common.{refl}
use Rattle.sat_store.specs.clause.Buffer.{header_at}
use Rattle.sat_parts.proofs.lemmas.parts.WordSteps.{extends_refl}
use Rattle.sat_parts.proofs.lemmas.parts.FewerLemmas.{sound_tier}
use Rattle.sat_parts.proofs.lemmas.parts.HeaderFrames.{headed_by, sides_one}
use Rattle.sat_parts.proofs.parts.clauses.set_tier.Goals as goal

pub returns : goal.returns
returns c =
    let p = c.args.parts.now in
    let n = c.set_clause_tier.new in
    let e = c.set_clause_tier.ensures in
    record {
      holds = sound_tier p.clauses n.clauses p.db n.db p.watchlists p.binary p.assignment p.graph p.trail p.vsids c.args.cref c.args.tier c.requires.holds e;
      moves = e;
      headed = headed_by p (record p { clauses = n.clauses; db = n.db }) e.live (sides_one p.clauses n.clauses p.db.refs c.args.cref (record (header_at p.clauses c.args.cref) { tier = c.args.tier }) e.put c.requires.side) ((refl, refl, refl), refl, refl);
      word = extends_refl p;
    }
