use Rattle.std.proofs.Common.{◌≡◌, get_or, refl, arith}
use Rattle.std.proofs.lemmas.List.{get_or_read}
use Rattle.sat_parts.specs.parts.Frame.{stores_binary}
use Rattle.sat_parts.specs.parts.Whole.{state}
use Rattle.sat_parts.proofs.lemmas.parts.FrameLemmas.{carries_refl}
use Rattle.sat_parts.proofs.lemmas.parts.WordSteps.{extends_refl}
use Rattle.sat_parts.proofs.lemmas.parts.LoadLemmas.{sound_loaded_binary}
use Rattle.sat_parts.proofs.parts.load.load_binary.Goals as goal

pub returns : goal.returns
returns c =
    let p = c.args.parts.now in
    let one : c.index-lits-0.result ≡ get_or c.args.lits.now 0 0 = get_or_read c.args.lits.now 0 c.index-lits-0.result (omega (arith, c.requires.two)) c.index-lits-0.is 0 in
    let two : c.index-lits-1.result ≡ get_or c.args.lits.now 1 0 = get_or_read c.args.lits.now 1 c.index-lits-1.result (omega (arith, c.requires.two)) c.index-lits-1.is 0 in
    record {
      holds = rw (c.in_ok-add_binary_clause.ensures.done, one, two)
          (sound_loaded_binary p.clauses p.db p.watchlists p.binary p.assignment p.graph p.trail p.vsids c.args.lits.now c.requires.holds c.requires.loadable c.requires.two);
      stores = stores_binary c.requires.two refl refl (rw (one, two) at c.in_ok-add_binary_clause.ensures.done) (carries_refl (state p));
      kept = (refl, refl);
      state = (refl, refl, refl);
      word = extends_refl p;
    }
