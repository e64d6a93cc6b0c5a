use Rattle.std.proofs.Common.{refl}
use Rattle.sat_parts.specs.parts.Frame.{stores_long}
use Rattle.sat_parts.specs.parts.Whole.{state}
use Rattle.sat_parts.proofs.lemmas.parts.FrameLemmas.{carries_refl}
use Rattle.sat_parts.proofs.lemmas.parts.LoadLemmas.{sound_loaded_long}
use Rattle.sat_parts.proofs.parts.load.load_long.Goals as goal

pub returns : goal.returns
returns c =
    let p = c.args.parts.now in
    let n = c.add_clause.new in
    record {
      holds = rw c.in_ok-cref.ensures.watched
          (sound_loaded_long p.clauses n.clauses p.db n.db p.watchlists p.binary p.assignment p.graph p.trail p.vsids c.args.lits.now c.in_ok-cref.cref c.new-header.result c.requires.holds c.requires.loadable c.requires.long c.in_ok-cref.ensures.added);
      stores = stores_long c.requires.long c.in_ok-cref.cref (rw c.new-header.ensures at c.in_ok-cref.ensures.added) refl (carries_refl (state p));
      kept = (refl, refl);
      full = λ e. cc;
    }
