use Rattle.std.proofs.Common.{refl}
use Rattle.sat_store.specs.clause.Buffer.{header_at}
use Rattle.sat_parts.specs.clause.Reduced.{reduced_header}
use Rattle.sat_parts.proofs.lemmas.parts.WordSteps.{extends_refl}
use Rattle.sat_parts.proofs.lemmas.parts.FewerLemmas.{sound_put}
use Rattle.sat_parts.proofs.lemmas.parts.HeaderFrames.{headed_by, sides_all, reduced_side}
use Rattle.sat_parts.proofs.parts.clauses.reduce_mids.Goals as goal

pub returns : goal.returns
returns c =
    let p = c.args.parts.now in
    let n = c.reduce_mids.new in
    let e = c.reduce_mids.ensures in
    record {
      holds = sound_put p.clauses n.clauses p.db n.db p.watchlists p.binary p.assignment p.graph p.trail p.vsids (λ o. reduced_header (header_at p.clauses o)) c.requires.holds e.db e.headers e.refs e.live;
      headers = e.headers;
      headed = headed_by p (record p { clauses = n.clauses; db = n.db }) e.live (sides_all p.clauses n.clauses p.db.refs (λ o. reduced_header (header_at p.clauses o)) e.headers (λ o k. reduced_side (header_at p.clauses o))) ((refl, refl, refl), refl, refl);
      word = extends_refl p;
    }
