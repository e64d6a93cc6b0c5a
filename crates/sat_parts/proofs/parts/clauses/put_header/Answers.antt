use Rattle.std.proofs.Common.{◌≡◌, ◌∙◌, refl, ap}
use Rattle.sat_store.specs.declared.clause.tier.Tier.{Tier}
use Rattle.sat_store.specs.clause.Buffer.{header_at}
use Rattle.sat_store.specs.clause.Header.{is_learned}
use Rattle.sat_parts.specs.clause.Db.{PutsHeader}
use Rattle.sat_parts.proofs.lemmas.clause.DbLemmas.{header_put}
use Rattle.sat_parts.proofs.lemmas.clause.HeaderLemmas.{holds_put}
use Rattle.sat_parts.proofs.lemmas.prop.BuildLemmas.{live_in}
use Rattle.sat_parts.proofs.lemmas.parts.WordSteps.{extends_refl}
use Rattle.sat_parts.proofs.lemmas.parts.FewerLemmas.{sound_put_one}
use Rattle.sat_parts.proofs.lemmas.parts.HeaderFrames.{headed_by, sides_one}
use Rattle.sat_parts.proofs.parts.clauses.put_header.Goals as goal

pub returns : goal.returns
returns c =
    let p = c.args.parts.now in
    let n = c.set_flags.new.self in
    let held = c.requires.holds.below.db_matches in
    let h = c.args.header in
    let old = header_at p.clauses c.args.cref in
    let same : record h { activity = old.activity; len = old.len } ≡ h = rw (← c.requires.activity, ← c.requires.len) refl in
    let put : PutsHeader p.clauses n p.db.refs c.args.cref h =
    header_put p.clauses n p.db.refs c.args.cref h held.holds_clauses (live_in p.clauses p.db.refs c.args.cref c.requires.live) (c.set_flags.ensures.header ∙ same) c.set_flags.ensures.lits c.set_flags.ensures.others in
    let kept = holds_put p.clauses n p.db c.args.cref h held put c.requires.deleted c.requires.tier in
    record {
      holds = sound_put_one p.clauses n p.db p.watchlists p.binary p.assignment p.graph p.trail p.vsids c.args.cref h c.requires.holds put kept.0 kept.1;
      put = put;
      db = refl;
      headed = headed_by p (record p { clauses = n }) kept.1 (sides_one p.clauses n p.db.refs c.args.cref h put (ap (λ (t : Tier). is_learned t) c.requires.tier)) ((refl, refl, refl), refl, refl);
      word = extends_refl p;
    }
