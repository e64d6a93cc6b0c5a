use Rattle.std.proofs.Common.{ℕ, List, ◌<◌, length, refl, subst, arith}
use Rattle.sat_parts.proofs.lemmas.parts.FewerLemmas.{sound_without}
use Rattle.sat_parts.proofs.lemmas.parts.WordSteps.{extends_refl}
use Rattle.sat_parts.proofs.parts.clauses.delete_long.Goals as goal

pub returns : goal.returns
returns c =
    let p = c.args.parts.now in
    let n = c.delete_clause.new in
    let e = c.delete_clause.ensures in
    record {
      holds = sound_without p.clauses n.clauses p.db n.db p.watchlists n.watchlists p.binary p.assignment p.graph p.trail p.vsids c.args.cref c.requires.holds e.deleted e.watches
          (λ i o lt r q. (let none : i < 0 = subst (λ (ls : List ℕ). i < length ls) c.requires.empty lt in omega arith));
      dropped = record { deletes = e.deleted; same = ((refl, refl, refl), refl, refl) };
      word = extends_refl p;
    }
