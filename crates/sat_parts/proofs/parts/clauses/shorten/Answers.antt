use Rattle.std.proofs.Common.{refl}
use Rattle.sat_parts.proofs.lemmas.parts.WordSteps.{extends_refl}
use Rattle.sat_parts.proofs.lemmas.parts.ShortLemmas.{sound_shortened}
use Rattle.sat_parts.proofs.parts.clauses.shorten.Goals as goal

pub returns : goal.returns
returns c =
    let p = c.args.parts.now in
    let n = c.shorten_clause.new in
    record {
      holds = sound_shortened p.clauses n.clauses p.db p.watchlists n.watchlists p.binary p.assignment p.graph p.trail p.vsids c.args.cref c.args.len
          c.requires.holds c.requires.live c.requires.long c.requires.no_longer c.shorten_clause.ensures.shortened c.shorten_clause.ensures.watches c.requires.fresh;
      shortened = record { shortens = c.shorten_clause.ensures.shortened; db = refl; same = ((refl, refl, refl), refl, refl) };
      word = extends_refl p;
    }
