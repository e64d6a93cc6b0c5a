use Rattle.std.proofs.Common.{refl}
use Rattle.std.proofs.lemmas.Result.{on_ok_weaker}
use Rattle.sat_parts.proofs.lemmas.parts.WordSteps.{extends_collect}
use Rattle.sat_parts.proofs.lemmas.parts.FewerLemmas.{sound_collect}
use Rattle.sat_parts.proofs.lemmas.parts.HeaderFrames.{copied_collect}
use Rattle.sat_parts.proofs.parts.clauses.collect.Goals as goal

pub returns : goal.returns
returns c =
    let p = c.args.parts.now in
    let n = c.collect_garbage.new in
    let e = c.collect_garbage.ensures in
    record {
      holds = sound_collect p.clauses n.clauses p.db n.db p.watchlists n.watchlists p.binary p.assignment p.graph n.graph p.trail p.vsids c.collect_garbage.result c.requires.holds e.collected e.watches e.not_due e.same;
      copied = copied_collect p n.clauses n.db n.watchlists n.graph c.collect_garbage.result e.collected e.not_due e.same;
      due = λ lt. on_ok_weaker c.collect_garbage.result (λ x. x.clean) (e.collected lt);
      not_due = λ le. (let same = e.not_due le in rw (same.0, same.1, same.2, same.3) refl);
      room = e.room;
      word = λ am. extends_collect am p.clauses n.clauses p.db n.db p.watchlists n.watchlists p.assignment p.graph n.graph p.trail p.vsids c.collect_garbage.result e.collected e.not_due e.same;
    }
