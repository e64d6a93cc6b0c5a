use Rattle.std.proofs.Common.{refl, arith}
use Rattle.sat_parts.specs.clause.Activity.{PutsHeaders, rescaled_header}
use Rattle.sat_parts.proofs.lemmas.clause.HeaderLemmas.{first_all, holds_headers, live_headers}
use Rattle.sat_parts.proofs.clause.activity.rescale_clause_activities.Goals as goal

pub returns-clause-db : goal.returns-clause-db
returns-clause-db c =
    let x : PutsHeaders c.args.clauses.now c.loop-at.clauses c.args.db.now.refs (rescaled_header c.args.clauses.now) =
    first_all c.args.clauses.now c.loop-at.clauses c.args.db.now.refs (rescaled_header c.args.clauses.now) c.loop-at.at c.loop-at.invariant (omega arith) in
    holds_headers c.args.clauses.now c.loop-at.clauses c.args.db.now (rescaled_header c.args.clauses.now) c.requires x (λ p q. refl) (λ p q. refl)

pub returns-clause-live : goal.returns-clause-live
returns-clause-live c =
    let x : PutsHeaders c.args.clauses.now c.loop-at.clauses c.args.db.now.refs (rescaled_header c.args.clauses.now) =
    first_all c.args.clauses.now c.loop-at.clauses c.args.db.now.refs (rescaled_header c.args.clauses.now) c.loop-at.at c.loop-at.invariant (omega arith) in
    live_headers c.args.clauses.now c.loop-at.clauses c.args.db.now (rescaled_header c.args.clauses.now) x (λ p q. refl)
