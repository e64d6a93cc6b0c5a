use Rattle.sat_parts.proofs.lemmas.parts.FewerLemmas.{sound_tried, others_tried}
use Rattle.sat_parts.proofs.parts.clauses.drop_clause.Goals as goal

pub returns-clause-holds : goal.returns-clause-holds
returns-clause-holds c =
    let p = c.args.parts.now in
    let n = c.try_delete_clause.new in
    let e = c.try_delete_clause.ensures in
    sound_tried p.clauses n.clauses p.db n.db p.watchlists n.watchlists p.binary p.assignment p.graph p.trail p.vsids c.args.cref c.try_delete_clause.result c.requires.holds e.free e.deleted e.watches e.same

pub returns-clause-others : goal.returns-clause-others
returns-clause-others c =
    let p = c.args.parts.now in
    let n = c.try_delete_clause.new in
    let e = c.try_delete_clause.ensures in
    others_tried p.clauses n.clauses p.db n.db c.args.cref c.try_delete_clause.result e.deleted (λ f. ((e.same f).0, (e.same f).1))
