use Rattle.std.proofs.Common.{length, refl}
use Rattle.sat_parts.specs.clause.Db.{live_refs}
use Rattle.sat_parts.proofs.lemmas.clause.GcLemmas.{collected}
use Rattle.sat_parts.proofs.clause.gc.collect_garbage.Goals as goal

pub returns-in-Ok-clause-collected : goal.returns-in-Ok-clause-collected
returns-in-Ok-clause-collected c = λ due.
    rw (c.put_copied.ensures.words, c.put_copied.ensures.list)
    (collected c.args.clauses.now c.in-Ok.copied.clauses c.in-Ok.copied.refs.items c.args.trail.now.lits c.args.db.now (length c.args.db.now.refs) (length (live_refs c.args.clauses.now c.args.db.now.refs))
    c.args.graph.now c.move_reasons.new.graph c.requires.db c.in-Ok.ensures.copied refl c.requires.firsts c.move_reasons.ensures refl)
